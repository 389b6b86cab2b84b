-- Choices with alternatives that hold knots.
use Rattle.std.specs.Prelude.{◌≡◌, ◌++◌, ℕ, true, List, ◌∷◌, refl}
use Rattle.std.proofs.Common.{sym, ap, ◌∙◌, subst}
use Rattle.asn1_core.specs.declared.tag.Tag.{Tag}
use Rattle.oer_spec.specs.Tree.{Choice}
use Rattle.oer_rows.specs.Schema.{Typed, IsTyped}
use Rattle.oer_choices.specs.Choosing.{Choices, AreChoices, are_apart, IsOneOf, tree_of, choices_is, choices_alike, no_choice, no_choice_is, one_of, one_of_is, adding, adding_is}
use Rattle.oer_choices.specs.declared.alternatives.Either.{Either}
use Rattle.oer_choices.specs.declared.alternatives.Either.TheVariants.{First, Rest}
use Rattle.oer_knots.specs.Ties.{AgreeTo, Ties}

-- two rows have the same tags; they give one value the same tag and tree, and where the first admits it, so does the second
pub record AgreeChoice {R : Type 0} (c d : Choices R) (v : R) : Type 0 where
  pub roots : c.roots ≡ d.roots
  pub additions : c.additions ≡ d.additions
  pub tag : c.tag_of v ≡ d.tag_of v
  pub child : c.child v ≡ d.child v
  pub part : c.IsValue v → d.IsValue v

-- what a row of alternatives keeps, as `Ties` of its values
pub record TiesChoice {K R : Type 0} (choices : Typed K → Choices R) (weight : (K → ℕ) → R → ℕ) : Type 1 where
  pub is : (of : Typed K) → IsTyped of → AreChoices (choices of)
  pub tags : (of to : Typed K) → ((choices of).roots ≡ (choices to).roots) × ((choices of).additions ≡ (choices to).additions)
  pub mark : (of to : Typed K) → (choices of).is_extensible ≡ (choices to).is_extensible
  pub local : (size : K → ℕ) (of to : Typed K) (v : R) → AgreeTo size (weight size v) of to → AgreeChoice (choices of) (choices to) v

-- the most that a knot weighs in a value of the first alternative, or of the others
abbrev pub either_weight : {B R : Type 0} → (B → ℕ) → (R → ℕ) → Either B R → ℕ
either_weight first rest (First v) = first v
either_weight first rest (Rest r) = rest r

-- ---- no alternative
module _ {K R : Type 0} where
  pub no_choice_ties : TiesChoice {K = K} {R = R} (λ of. no_choice) (λ size v. 0)
  no_choice_ties = record { is = λ of i. no_choice_is; tags = λ of to. (refl, refl); mark = λ of to. refl; local = λ size of to v a. record { roots = refl; additions = refl; tag = refl; child = refl; part = λ i. i } }

-- ---- an alternative without knots
module _ {K B R : Type 0} (tag : Tag) (b : Typed B) (choices : Typed K → Choices R) (weight : (K → ℕ) → R → ℕ) (t : TiesChoice choices weight) where
  abbrev pub alternative_weight : (K → ℕ) → Either B R → ℕ
  alternative_weight size v = either_weight (λ w. 0) (weight size) v

  alternative_agrees : (size : K → ℕ) (of to : Typed K) (v : Either B R) → AgreeTo size (alternative_weight size v) of to → AgreeChoice (one_of tag b (choices of)) (one_of tag b (choices to)) v
  alternative_agrees size of to (First v) a = record { roots = ap (λ (gs : List Tag). tag ∷ gs) (t.tags of to).0; additions = (t.tags of to).1; tag = refl; child = refl; part = λ i. i }
  alternative_agrees size of to (Rest r) a = let h = t.local size of to r a in record { roots = ap (λ (gs : List Tag). tag ∷ gs) h.roots; additions = h.additions; tag = h.tag; child = h.child; part = h.part }

  pub alternative_ties : IsTyped b → TiesChoice (λ of. one_of tag b (choices of)) alternative_weight
  alternative_ties i = record { is = λ of o. one_of_is tag b (choices of) i (t.is of o); tags = λ of to. (ap (λ (gs : List Tag). tag ∷ gs) (t.tags of to).0, (t.tags of to).1); mark = t.mark; local = alternative_agrees }

-- ---- an alternative with knots
module _ {K B R : Type 0} (tag : Tag) (tied : Typed K → Typed B) (part : (K → ℕ) → B → ℕ) (choices : Typed K → Choices R) (weight : (K → ℕ) → R → ℕ) (b : Ties tied part) (t : TiesChoice choices weight) where
  abbrev pub knot_weight : (K → ℕ) → Either B R → ℕ
  knot_weight size v = either_weight (part size) (weight size) v

  knots_agree : (size : K → ℕ) (of to : Typed K) (v : Either B R) → AgreeTo size (knot_weight size v) of to → AgreeChoice (one_of tag (tied of) (choices of)) (one_of tag (tied to) (choices to)) v
  knots_agree size of to (First v) a = let h = b.local size of to v a in record { roots = ap (λ (gs : List Tag). tag ∷ gs) (t.tags of to).0; additions = (t.tags of to).1; tag = refl; child = h.tree; part = h.part }
  knots_agree size of to (Rest r) a = let h = t.local size of to r a in record { roots = ap (λ (gs : List Tag). tag ∷ gs) h.roots; additions = h.additions; tag = h.tag; child = h.child; part = h.part }

  pub knot_ties : TiesChoice (λ of. one_of tag (tied of) (choices of)) knot_weight
  knot_ties = record { is = λ of o. one_of_is tag (tied of) (choices of) (b.is of o) (t.is of o); tags = λ of to. (ap (λ (gs : List Tag). tag ∷ gs) (t.tags of to).0, (t.tags of to).1); mark = t.mark; local = knots_agree }

-- ---- alternatives as additions
module _ {K R : Type 0} (choices : Typed K → Choices R) (weight : (K → ℕ) → R → ℕ) (t : TiesChoice choices weight) where
  both_same : (a b c d : List Tag) → a ≡ b → c ≡ d → a ++ c ≡ b ++ d
  both_same a b c d e f = ap (λ (gs : List Tag). gs ++ c) e ∙ ap (λ (gs : List Tag). b ++ gs) f

  pub adding_ties : TiesChoice (λ of. adding (choices of)) weight
  adding_ties = record {
    is = λ of o. adding_is (choices of) (t.is of o);
    tags = λ of to. (refl, both_same _ _ _ _ (t.tags of to).0 (t.tags of to).1);
    mark = λ of to. refl;
    local = λ size of to v a. let h = t.local size of to v a in record { roots = refl; additions = both_same _ _ _ _ h.roots h.additions; tag = h.tag; child = h.child; part = h.part };
  }

-- ---- a choice of a row
module _ {K A R : Type 0} (choices : Typed K → Choices R) (weight : (K → ℕ) → R → ℕ) (alternative : A → R) where
  abbrev pub choice_tied : Typed K → Typed A
  choice_tied of = record { tree = λ v. tree_of (choices of) (alternative v); IsPart = λ v. IsOneOf (choices of) (alternative v) }

  choice_agrees : (c d : Choices R) (v : R) → AgreeChoice c d v → tree_of c v ≡ tree_of d v
  choice_agrees c d v h = λ i. Choice (h.roots i) (h.additions i) (h.tag i) (h.child i)

  apart_too : (c d : Choices R) → c.roots ≡ d.roots → c.additions ≡ d.additions → are_apart (c.roots ++ c.additions) ≡ true → are_apart (d.roots ++ d.additions) ≡ true
  apart_too c d e f a = subst (λ (gs : List Tag). are_apart gs ≡ true) (λ i. e i ++ f i) a

  -- the most that a knot weighs, by the variant
  pub choice_ties : TiesChoice choices weight → (own : (K → ℕ) → A → ℕ) → ((size : K → ℕ) (v : A) → weight size (alternative v) ≡ own size v) → Ties choice_tied own
  choice_ties t own same = record {
    is = λ of o. record { is = λ v i. choices_is (choices of) (t.is of o) (alternative v) i; like = λ v w i j. choices_alike (choices of) (t.is of o) (alternative v) (alternative w) i j };
    local = λ size of to v a.
        let h = t.local size of to (alternative v) (subst (λ (n : ℕ). AgreeTo size n of to) (sym (same size v)) a) in
        record { tree = choice_agrees (choices of) (choices to) (alternative v) h; part = λ i. (apart_too (choices of) (choices to) h.roots h.additions i.0, h.part i.1) };
  }
