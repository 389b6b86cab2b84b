-- CHOICE types that hold values of a knot and keep alternatives of newer versions: their trees and values, by those of the knot.
use Rattle.std.specs.Prelude.{◌≡◌, ◌++◌, ◌<◌, ◌^◌, ℕ, Bool, true, cond, List, []}
use Rattle.std.proofs.Common.{sym, ◌∙◌, subst}
use Rattle.asn1_core.specs.Octets.{Octets}
use Rattle.asn1_core.specs.Tags.{holds}
use Rattle.asn1_core.specs.Texts.{AnyOctets}
use Rattle.asn1_core.specs.declared.tag.Tag.{Tag}
use Rattle.oer_spec.specs.Spelled.{unsized_text}
use Rattle.oer_spec.specs.Tree.{Tree, Choice, Primitive}
use Rattle.oer_rows.specs.Schema.{Typed}
use Rattle.oer_choices.specs.Choosing.{Choices, through, through_is, are_apart}
use Rattle.oer_knots.specs.Answering.{Answering, Refusing, of_choice}
use Rattle.oer_knots.specs.Choices.{AgreeChoice, TiesChoice}
use Rattle.oer_knots.specs.Ties.{AgreeAt, AgreeTo, Ties}
use Rattle.oer_kept.specs.KeptNumbers.{no_leaf}
use Rattle.oer_kept.specs.KeptTags.{is_newer, kept_roots, roots_of, kept_tag, kept_child, chosen_tree, IsKeptOne, chosen_is, chosen_alike, KeptRefused}
use Rattle.oer_kept.specs.declared.choices.KeptChoice.{KeptChoice}
use Rattle.oer_kept.specs.declared.choices.KeptChoice.TheVariants.{Known, Other}

-- the most that a knot weighs in a value: there is none in the octets of another alternative
abbrev pub kept_weight : {A : Type 0} → (A → ℕ) → KeptChoice A → ℕ
kept_weight own (Known v) = own v
kept_weight own (Other g o) = 0

module _ {K A R : Type 0} (choices : Typed K → Choices R) (weight : (K → ℕ) → R → ℕ) (alternative : A → R) where
  abbrev pub seen : Typed K → Choices A
  seen of = through alternative (choices of)

  abbrev pub kept_tied : Typed K → Typed (KeptChoice A)
  kept_tied of = record { tree = λ w. chosen_tree (seen of) w; IsPart = λ w. IsKeptOne (seen of) w }

  known_tree : List Tag → List Tag → Bool → Tag → Tree → Tree
  known_tree roots additions extensible tag child = Choice (kept_roots roots additions extensible) additions tag (cond (holds (roots ++ additions) tag) child (Choice [] [] tag child))

  other_tree : Tag → Octets → List Tag → List Tag → Bool → Tree
  other_tree tag octets roots additions extensible = Choice (kept_roots roots additions extensible) additions tag (cond (is_newer roots additions extensible tag) (unsized_text AnyOctets octets) (Primitive no_leaf))

  module _ (t : TiesChoice choices weight) (own : (K → ℕ) → A → ℕ) (same : (size : K → ℕ) (v : A) → weight size (alternative v) ≡ own size v) where
    local : (size : K → ℕ) (of to : Typed K) (w : KeptChoice A) → AgreeTo size (kept_weight (own size) w) of to → AgreeAt (kept_tied of) (kept_tied to) w
    unfolding known_tree other_tree
    local size of to (Known v) a =
        let h = t.local size of to (alternative v) (subst (λ (n : ℕ). AgreeTo size n of to) (sym (same size v)) a) in
        record {
          tree = λ i. known_tree (h.roots i) (h.additions i) (t.mark of to i) (h.tag i) (h.child i);
          part = λ p. (subst (λ (gs : List Tag). are_apart gs ≡ true) (λ i. h.roots i ++ h.additions i) p.0, h.part p.1);
        }
    local size of to (Other g o) a =
        let tags = t.tags of to in
        record {
          tree = λ i. other_tree g o.0 (tags.0 i) (tags.1 i) (t.mark of to i);
          part = λ p. (sym (λ i. is_newer (tags.0 i) (tags.1 i) (t.mark of to i) g) ∙ p.0, p.1, p.2);
        }

    pub kept_ties : Ties kept_tied (λ size w. kept_weight (own size) w)
    kept_ties = record {
      is = λ of o. let are = through_is alternative (choices of) (t.is of o) in record { is = λ w i. chosen_is (seen of) are w i; like = λ v w i j. chosen_alike (seen of) are v w i j };
      local = local;
    }

-- ---- what reading promises

module _ {K A : Type 0} (c : Choices A) (row : Tag → Refusing K) where
  -- why an alternative was not read: what the type's own refuses, or what an open type's octets are refused by
  abbrev pub kept_refusing : Tag → Refusing K
  kept_refusing g = record {
    Refuses = λ P s e. KeptRefused c (λ g s e. (row g).Refuses P s e) g s e;
    also = λ P Q h s e k. ((λ n. (row g).also P Q h s e (k.0 n)), k.1);
  }

  abbrev pub of_kept : Answering K (KeptChoice A)
  of_kept = of_choice (kept_child c) (λ g w. IsKeptOne c w × (kept_tag c w ≡ g)) (roots_of c) c.additions c.is_extensible kept_refusing
