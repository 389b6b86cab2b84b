-- An alternative of a row is read as what it holds.
use Rattle.std.proofs.Common.{◌≡◌, ◌++◌, ◌∷◌, Ok, Err, refl, sym, ap, ◌∙◌, subst}
use Rattle.asn1_core.specs.Tags.{AreDistinct}
use Rattle.asn1_core.specs.declared.error.DecodeError.{DecodeError}
use Rattle.asn1_core.specs.declared.tag.Tag.{Tag}
use Rattle.oer_rows.specs.Schema.{Typed}
use Rattle.oer_read.proofs.Alternatives.{Holds, alternative_made, alternative_refused, alternative_read, alternative_stops}
use Rattle.oer_read.specs.Law.{Decodes}
use Rattle.oer_read.specs.State.{State}
use Rattle.oer_spec.specs.Tree.{Tree}
use Rattle.oer_choices.specs.Choosing.{Choices, AreChoices, HasTag, one_child, one_of, other_tag}
use Rattle.oer_choices.specs.declared.alternatives.Either.{Either}
use Rattle.oer_choices.specs.declared.alternatives.Either.TheVariants.{First, Rest}

-- ---- of what holds a value that was read

module _ {A B : Type 0} {child : A → Tree} {IsHere : A → Type 0} {tree : B → Tree} {IsPart : B → Type 0} {hold : B → A} (h : Holds child IsHere tree IsPart hold) where
  pub held_read : (s u : State) (b : B) → Decodes tree IsPart s (Ok b) u → Decodes child IsHere s (Ok (hold b)) u
  held_read s u b d = alternative_read child IsHere tree IsPart hold h s u b d

  pub held_stops : (s u : State) (x : DecodeError) → Decodes tree IsPart s (Err x) u → Decodes child IsHere s (Err x) u
  held_stops s u x d = alternative_stops child IsHere tree IsPart hold h (λ y. y ≡ x) s u x (Err x) d refl (λ y p. p)

-- ---- the first alternative, and those behind it

module _ {B R : Type 0} (tag : Tag) (of : Typed B) (others : Choices R) (g : Tag) where
  abbrev pub IsHere : Either B R → Type 0
  IsHere v = HasTag (one_of tag of others) g v

  pub first_holds : AreChoices others → AreDistinct (tag ∷ (others.roots ++ others.additions)) → tag ≡ g → Holds (one_child tag of others) IsHere of.tree of.IsPart First
  first_holds o d e = record { is = λ b i. (i, e); same = λ b. refl; only = go }
    where
      go : (v : Either B R) → IsHere v → (b : B) × (one_child tag of others v ≡ of.tree b) × of.IsPart b
      go (First b) (i, f) = (b, refl, i)
      go (Rest r) (i, f) = absurd (other_tag tag of others o d r i (e ∙ sym f))

  pub rest_holds : (tag ≡ g → ⊥) → Holds (one_child tag of others) IsHere others.child (HasTag others g) Rest
  rest_holds n = record { is = λ r i. i; same = λ r. refl; only = go }
    where
      go : (v : Either B R) → IsHere v → (r : R) × (one_child tag of others v ≡ others.child r) × HasTag others g r
      go (First b) (i, f) = absurd (n f)
      go (Rest r) i = (r, refl, i)

-- ---- of a struct around a value

module _ {A B : Type 0} (child : A → Tree) (IsPart : A → Type 0) (of : B → A) (made : A → B) (same : (v : A) → of (made v) ≡ v) where
  pub made_holds : Holds (λ w. child (of w)) (λ w. IsPart (of w)) child IsPart made
  made_holds = record { is = λ v i. subst IsPart (sym (same v)) i; same = λ v. ap child (same v); only = λ w i. (of w, refl, i) }

-- ---- of a type that has a row

module _ {A R : Type 0} (k : Choices R) (to : A → R) (g : Tag) {IsHere : A → Type 0} (out : (v : A) → IsHere v → HasTag k g (to v)) where
  only : (v : A) → IsHere v → (r : R) × (k.child (to v) ≡ k.child r) × HasTag k g r
  only v i = (to v, refl, out v i)

  pub row_read : ((v : A) → HasTag k g (to v) → IsHere v) → (s u : State) (r : R) (v : A) → to v ≡ r → Decodes k.child (HasTag k g) s (Ok r) u → Decodes (λ w. k.child (to w)) IsHere s (Ok v) u
  row_read into s u r v e d = alternative_made (λ w. k.child (to w)) IsHere k.child (HasTag k g) only s u r v (into v (subst (HasTag k g) (sym e) d.read.value)) (ap k.child e) d

  pub row_stops : (s u : State) (x : DecodeError) → Decodes k.child (HasTag k g) s (Err x) u → Decodes (λ w. k.child (to w)) IsHere s (Err x) u
  row_stops s u x d = alternative_refused (λ w. k.child (to w)) IsHere k.child (HasTag k g) only (λ y. y ≡ x) s u x (Err x) d refl (λ y p. p)
