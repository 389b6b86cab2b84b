-- A value of two rows is read as one of the row that has its tag.
use Rattle.std.proofs.Common.{◌≡◌, ◌++◌, true, false, refl, subst}
use Rattle.asn1_core.specs.Tags.{AreDistinct, holds}
use Rattle.asn1_core.specs.declared.tag.Tag.{Tag}
use Rattle.oer_read.proofs.Alternatives.{Holds}
use Rattle.oer_choices.specs.Choosing.{Choices, AreChoices, HasTag}
use Rattle.oer_choices.specs.Both.{both_of, either_child, not_in_both}
use Rattle.oer_choices.specs.declared.alternatives.Either.{Either}
use Rattle.oer_choices.specs.declared.alternatives.Either.TheVariants.{First, Rest}

module _ {A B : Type 0} (a : Choices A) (b : Choices B) (k : AreChoices a) (l : AreChoices b) (g : Tag) where
  abbrev pub IsHere : Either A B → Type 0
  IsHere v = HasTag (both_of a b) g v

  pub part_holds : AreDistinct ((a.roots ++ b.roots) ++ (a.additions ++ b.additions)) → holds (a.roots ++ a.additions) g ≡ true → Holds (either_child a b) IsHere a.child (HasTag a g) First
  part_holds d h = record { is = λ v i. i; same = λ v. refl; only = go }
    where
      go : (v : Either A B) → IsHere v → (w : A) × (either_child a b v ≡ a.child w) × HasTag a g w
      go (First v) i = (v, refl, i)
      go (Rest w) (i, e) = absurd (not_in_both a.roots b.roots a.additions b.additions d g h (subst (λ (z : Tag). holds (b.roots ++ b.additions) z ≡ true) e (l.held w i)))

  pub others_hold : holds (a.roots ++ a.additions) g ≡ false → Holds (either_child a b) IsHere b.child (HasTag b g) Rest
  others_hold n = record { is = λ v i. i; same = λ v. refl; only = go }
    where
      go : (v : Either A B) → IsHere v → (w : B) × (either_child a b v ≡ b.child w) × HasTag b g w
      go (First v) (i, e) = let m = subst (λ (z : Tag). holds (a.roots ++ a.additions) z ≡ true) e (k.held v i) in absurd (cc (m, n))
      go (Rest w) i = (w, refl, i)
