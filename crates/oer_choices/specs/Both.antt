-- The alternatives of two rows, as those of one.
use Rattle.std.specs.Prelude.{◌≡◌, ◌++◌, ◌||◌, Bool, true, false, List, [], ◌∷◌, refl}
use Rattle.std.proofs.Common.{sym, ap, ◌∙◌, subst, arith}
use Rattle.std.proofs.lemmas.List.{append_assoc}
use Rattle.asn1_core.specs.Tags.{AreDistinct, holds, same_tag}
use Rattle.asn1_core.specs.declared.tag.Tag.{Tag}
use Rattle.oer_spec.specs.Encoding.{IsTree}
use Rattle.oer_spec.specs.Same.{Alike}
use Rattle.oer_spec.specs.Tree.{Tree}
use Rattle.oer_choices.specs.Choosing.{Choices, AreChoices, times_of_both, times_once, either_true, first_true}
use Rattle.oer_choices.specs.declared.alternatives.Either.{Either}
use Rattle.oer_choices.specs.declared.alternatives.Either.TheVariants.{First, Rest}

-- ---- tags of lists behind one another

or_of_three : (a b c : Bool) → (a || (b || c)) ≡ ((a || b) || c)
or_of_three true b c = refl
or_of_three false b c = refl

pub holds_both : (x y : List Tag) (g : Tag) → holds (x ++ y) g ≡ (holds x g || holds y g)
holds_both [] y g = refl
holds_both (h ∷ x) y g = ap (λ (b : Bool). same_tag h g || b) (holds_both x y g) ∙ or_of_three (same_tag h g) (holds x g) (holds y g)

or_crossed : (a b c d : Bool) → ((a || b) || (c || d)) ≡ ((a || c) || (b || d))
or_crossed true b c d = refl
or_crossed false true true d = refl
or_crossed false true false d = refl
or_crossed false false true d = refl
or_crossed false false false d = refl

-- ---- distinct tags, of which some are left out

neither : (a b c : Bool) → (a || (b || c)) ≡ false → (a || c) ≡ false
neither true b c e = absurd (cc e)
neither false true c e = absurd (cc e)
neither false false c e = e

not_first : (a b : Bool) → (a || b) ≡ false → a ≡ false
not_first true b e = absurd (cc e)
not_first false b e = refl

front : (x y : List Tag) → AreDistinct (x ++ y) → AreDistinct x
front [] y d = tt
front (h ∷ x) y d = (not_first (holds x h) (holds y h) (sym (holds_both x y h) ∙ d.0), front x y d.1)

without : (x y z : List Tag) → AreDistinct (x ++ (y ++ z)) → AreDistinct (x ++ z)
without [] [] z d = d
without [] (h ∷ y) z d = without [] y z d.1
without (h ∷ x) y z d =
    let e = sym (ap (λ (b : Bool). holds x h || b) (holds_both y z h)) ∙ sym (holds_both x (y ++ z) h) ∙ d.0 in
    (holds_both x z h ∙ neither (holds x h) (holds y h) (holds z h) e, without x y z d.1)

-- ---- the tags of two rows: roots and additions of the one, and of the other

module _ (a₁ b₁ a₂ b₂ : List Tag) where
  abbrev all : List Tag
  all = (a₁ ++ b₁) ++ (a₂ ++ b₂)

  pub holds_crossed : (g : Tag) → holds all g ≡ (holds (a₁ ++ a₂) g || holds (b₁ ++ b₂) g)
  holds_crossed g =
      let p = holds_both a₁ b₁ g in
      let q = holds_both a₂ b₂ g in
      let r = holds_both a₁ a₂ g in
      let s = holds_both b₁ b₂ g in
      holds_both (a₁ ++ b₁) (a₂ ++ b₂) g ∙ (λ i. p i || q i) ∙ or_crossed (holds a₁ g) (holds b₁ g) (holds a₂ g) (holds b₂ g) ∙ sym (λ i. r i || s i)

  pub left_distinct : AreDistinct all → AreDistinct (a₁ ++ a₂)
  left_distinct d =
      let e = without a₁ b₁ (a₂ ++ b₂) (subst AreDistinct (append_assoc a₁ b₁ (a₂ ++ b₂)) d) in
      front (a₁ ++ a₂) b₂ (subst AreDistinct (sym (append_assoc a₁ a₂ b₂)) e)

  pub right_distinct : AreDistinct all → AreDistinct (b₁ ++ b₂)
  right_distinct d = without b₁ a₂ b₂ (without [] a₁ (b₁ ++ (a₂ ++ b₂)) (subst AreDistinct (append_assoc a₁ b₁ (a₂ ++ b₂)) d))

  -- none is a tag of both
  pub not_in_both : AreDistinct all → (g : Tag) → holds (a₁ ++ a₂) g ≡ true → holds (b₁ ++ b₂) g ≡ true → ⊥
  not_in_both d g h k =
      let whole = times_once all g d (holds_crossed g ∙ first_true (holds (a₁ ++ a₂) g) (holds (b₁ ++ b₂) g) h) in
      let one = times_once (a₁ ++ a₂) g (left_distinct d) h in
      let other = times_once (b₁ ++ b₂) g (right_distinct d) k in
      let t = times_of_both (a₁ ++ b₁) (a₂ ++ b₂) g in
      let u = times_of_both a₁ b₁ g in
      let v = times_of_both a₂ b₂ g in
      let w = times_of_both a₁ a₂ g in
      let x = times_of_both b₁ b₂ g in
      omega (arith, whole, one, other, t, u, v, w, x)

-- ---- two rows

module _ {A B : Type 0} (a : Choices A) (b : Choices B) where
  abbrev pub either_tag : Either A B → Tag
  either_tag (First v) = a.tag_of v
  either_tag (Rest w) = b.tag_of w

  abbrev pub either_child : Either A B → Tree
  either_child (First v) = a.child v
  either_child (Rest w) = b.child w

  abbrev pub EitherValue : Either A B → Type 0
  EitherValue (First v) = a.IsValue v
  EitherValue (Rest w) = b.IsValue w

  -- roots of either are roots, and additions of either additions
  abbrev pub both_of : Choices (Either A B)
  both_of = record { roots = a.roots ++ b.roots; additions = a.additions ++ b.additions; is_extensible = a.is_extensible || b.is_extensible; tag_of = either_tag; child = either_child; IsValue = EitherValue }

  abbrev tags : List Tag
  tags = all a.roots b.roots a.additions b.additions

  both_is : AreChoices a → AreChoices b → (v : Either A B) → EitherValue v → IsTree (either_child v)
  both_is k l (First v) i = k.is v i
  both_is k l (Rest w) i = l.is w i

  both_held : AreChoices a → AreChoices b → (v : Either A B) → EitherValue v → holds tags (either_tag v) ≡ true
  both_held k l (First v) i = holds_crossed a.roots b.roots a.additions b.additions (a.tag_of v) ∙ first_true (holds (a.roots ++ a.additions) (a.tag_of v)) (holds (b.roots ++ b.additions) (a.tag_of v)) (k.held v i)
  both_held k l (Rest w) i = holds_crossed a.roots b.roots a.additions b.additions (b.tag_of w) ∙ either_true (holds (a.roots ++ a.additions) (b.tag_of w)) (holds (b.roots ++ b.additions) (b.tag_of w)) (l.held w i)

  -- a value of the one hasn't the tag of a value of the other
  pub rows_apart : AreChoices a → AreChoices b → AreDistinct tags → (v : A) (w : B) → a.IsValue v → b.IsValue w → a.tag_of v ≡ b.tag_of w → ⊥
  rows_apart k l d v w i j e = not_in_both a.roots b.roots a.additions b.additions d (b.tag_of w) (subst (λ (g : Tag). holds (a.roots ++ a.additions) g ≡ true) e (k.held v i)) (l.held w j)

  both_like : AreChoices a → AreChoices b → AreDistinct tags → (v w : Either A B) → EitherValue v → EitherValue w → either_tag v ≡ either_tag w → Alike (either_child v) (either_child w)
  both_like k l d (First v) (First w) i j e = k.like (left_distinct a.roots b.roots a.additions b.additions d) v w i j e
  both_like k l d (First v) (Rest w) i j e = absurd (rows_apart k l d v w i j e)
  both_like k l d (Rest v) (First w) i j e = absurd (rows_apart k l d w v j i (sym e))
  both_like k l d (Rest v) (Rest w) i j e = l.like (right_distinct a.roots b.roots a.additions b.additions d) v w i j e

  pub both_of_is : AreChoices a → AreChoices b → AreChoices both_of
  both_of_is k l = record { is = both_is k l; held = both_held k l; like = both_like k l }
