-- A leaf that is refused by its first failure is refused by the law.
use Rattle.std.proofs.Common.{◌≡◌, ◌/◌, ℕ, ℤ, List, length, Bool, true, false, cond, inl, inr, refl, sym, ap, ◌∙◌, Option, Some, None}
use Rattle.std.specs.Prelude.{Result, IfErr}
use Rattle.std.proofs.lemmas.Result.{IfErr-weaker}
use Rattle.asn1_core.specs.Bounds.{size_bounds, value_bounds}
use Rattle.asn1_core.specs.Octets.{Octets}
use Rattle.asn1_core.specs.Texts.{Rule}
use Rattle.asn1_core.specs.declared.constraints.Constraints.{Constraints}
use Rattle.asn1_core.specs.declared.error.EncodeError.{EncodeError}
use Rattle.asn1_core.specs.declared.error.EncodeErrorKind.{EncodeErrorKind}
use Rattle.asn1_core.specs.declared.error.EncodeErrorKind.TheVariants.{ValueConstraintNotSatisfied, SizeConstraintNotSatisfied, InvalidObjectIdentifier, TimeNotRepresentable, LengthExceedsPlatformSize}
use Rattle.oer_spec.specs.Encoding.{fails}
use Rattle.oer_spec.specs.Failures.{Fails, SizeFails, failure_of, first_failure}
use Rattle.oer_spec.specs.Leaves.{Failure, BadValue, BadSize, BadTime, TooLong, leaf_fails, named_bits, unit_of}
use Rattle.oer_spec.specs.Spelled.{IsIdentifier, bit_string, identifier, integer, named_bit_string, text, time, unsized_text}
use Rattle.oer_spec.specs.TimeTexts.{time_content}
use Rattle.oer_spec.specs.Tree.{Leaf, Boolean, Null, Enum, Int, Bits, Named, Text, InOctets, Civil, Primitive}
use Rattle.oer_spec.specs.WritingTexts.{identifier_leaf}
use Rattle.oer_write.specs.Written as state

abbrev LeafFails : Leaf → EncodeErrorKind → Type 0
LeafFails l kind = (f : Failure) × (failure_of kind ≡ Some f) × (leaf_fails l f ≡ true)

-- of two tests, the first that holds
first_of_two : (l : Leaf) (a b : Failure) (j k kind : EncodeErrorKind) → failure_of j ≡ Some a → failure_of k ≡ Some b → (x y : Bool) → leaf_fails l a ≡ x → leaf_fails l b ≡ y → cond x (Some j) (cond y (Some k) None) ≡ Some kind → LeafFails l kind
first_of_two l a b j k kind named_a named_b true y is_a is_b e = let same : j ≡ kind = cc in (a, ap failure_of (sym same) ∙ named_a, is_a)
first_of_two l a b j k kind named_a named_b false true is_a is_b e = let same : k ≡ kind = cc in (b, ap failure_of (sym same) ∙ named_b, is_b)
first_of_two l a b j k kind named_a named_b false false is_a is_b e = absurd cc

first_leaf_fails : (l : Leaf) (kind : EncodeErrorKind) → first_failure l ≡ Some kind → LeafFails l kind
first_leaf_fails (Boolean b) kind e = absurd cc
first_leaf_fails Null kind e = absurd cc
first_leaf_fails (Enum n) kind e = absurd cc
first_leaf_fails (Int r n) kind e = first_of_two (Int r n) BadValue TooLong ValueConstraintNotSatisfied LengthExceedsPlatformSize kind refl refl _ _ refl refl e
first_leaf_fails (Bits s b) kind e = first_of_two (Bits s b) BadSize TooLong (SizeConstraintNotSatisfied (length b)) LengthExceedsPlatformSize kind refl refl _ _ refl refl e
first_leaf_fails (Named s b) kind e = first_of_two (Named s b) BadSize TooLong (SizeConstraintNotSatisfied (length (named_bits s b))) LengthExceedsPlatformSize kind refl refl _ _ refl refl e
first_leaf_fails (Text r s (InOctets c)) kind e = first_of_two (Text r s (InOctets c)) BadSize TooLong (SizeConstraintNotSatisfied (length c / unit_of r)) LengthExceedsPlatformSize kind refl refl _ _ refl refl e
first_leaf_fails (Text r s (Civil fields)) kind e = let same : TimeNotRepresentable ≡ kind = cc in (BadTime, ap failure_of (sym same), refl)

pub first_fails : (l : Leaf) (kind : EncodeErrorKind) → first_failure l ≡ Some kind → Fails (Primitive l) kind
unfolding fails SizeFails
first_fails l kind e = let f = first_leaf_fails l kind e in (f.0, f.1, f.2, λ n s. e ∙ ap (λ (k : EncodeErrorKind). Some k) s)

pub leaf_refused : (l : Leaf) (x : EncodeError) (e e' : state.Written) → state.RefusedLeaf l x e e' → state.Refused (Primitive l) x e e'
leaf_refused l x e e' h = record {
  reason = elim h.reason [ inl m ↦ inl m | inr f ↦ inr (first_fails l x.kind f) ];
  mode = h.mode;
  keeps = h.keeps;
}

pub by_law : (r : Result (Unit {0}) EncodeError) (l : Leaf) (e e' : state.Written) → IfErr r (λ x. state.RefusedLeaf l x e e') → IfErr r (λ x. state.Refused (Primitive l) x e e')
by_law r l e e' h = IfErr-weaker r _ _ (λ x i. leaf_refused l x e e' i) h

pub integer_by_law : (r : Result (Unit {0}) EncodeError) (c : Constraints) (n : ℤ) (e e' : state.Written) → IfErr r (λ x. state.RefusedLeaf (Int (value_bounds c) n) x e e') → IfErr r (λ x. state.Refused (integer c n) x e e')
unfolding integer
integer_by_law r c n e e' h = by_law r (Int (value_bounds c) n) e e' h

pub bit_string_by_law : (r : Result (Unit {0}) EncodeError) (c : Constraints) (b : List Bool) (e e' : state.Written) → IfErr r (λ x. state.RefusedLeaf (Bits (size_bounds c) b) x e e') → IfErr r (λ x. state.Refused (bit_string c b) x e e')
unfolding bit_string
bit_string_by_law r c b e e' h = by_law r (Bits (size_bounds c) b) e e' h

pub named_bits_by_law : (r : Result (Unit {0}) EncodeError) (c : Constraints) (b : List Bool) (e e' : state.Written) → IfErr r (λ x. state.RefusedLeaf (Named (size_bounds c) b) x e e') → IfErr r (λ x. state.Refused (named_bit_string c b) x e e')
unfolding named_bit_string
named_bits_by_law r c b e e' h = by_law r (Named (size_bounds c) b) e e' h

pub text_by_law : (r : Result (Unit {0}) EncodeError) (rule : Rule) (c : Constraints) (o : Octets) (e e' : state.Written) → IfErr r (λ x. state.RefusedLeaf (Text rule (size_bounds c) (InOctets o)) x e e') → IfErr r (λ x. state.Refused (text rule c o) x e e')
unfolding text
text_by_law r rule c o e e' h = by_law r (Text rule (size_bounds c) (InOctets o)) e e' h

pub unsized_by_law : (r : Result (Unit {0}) EncodeError) (rule : Rule) (o : Octets) (e e' : state.Written) → IfErr r (λ x. state.RefusedLeaf (Text rule None (InOctets o)) x e e') → IfErr r (λ x. state.Refused (unsized_text rule o) x e e')
unfolding unsized_text
unsized_by_law r rule o e e' h = by_law r (Text rule None (InOctets o)) e e' h

pub time_by_law : (r : Result (Unit {0}) EncodeError) (rule : Rule) (o : Option Octets) (fields : List ℕ) (e e' : state.Written) → IfErr r (λ x. state.RefusedLeaf (Text rule None (time_content o fields)) x e e') → IfErr r (λ x. state.Refused (time rule o fields) x e e')
unfolding time
time_by_law r rule o fields e e' h = by_law r (Text rule None (time_content o fields)) e e' h

-- of arcs that are an identifier
as_leaf : (arcs : List ℕ) (x : EncodeError) (e e' : state.Written) → IsIdentifier arcs → state.RefusedIdentifier arcs x e e' → state.RefusedLeaf (identifier_leaf arcs) x e e'
as_leaf arcs x e e' i h = record {
  reason = elim h.reason [ inl m ↦ inl m | inr f ↦ inr (sym (ap (λ b. cond b (first_failure (identifier_leaf arcs)) (Some InvalidObjectIdentifier)) i) ∙ f) ];
  mode = h.mode;
  keeps = h.keeps;
}

pub identifier_by_law : (r : Result (Unit {0}) EncodeError) (arcs : List ℕ) (e e' : state.Written) → IfErr r (λ x. state.RefusedIdentifier arcs x e e') → IsIdentifier arcs → IfErr r (λ x. state.Refused (identifier arcs) x e e')
unfolding identifier
identifier_by_law r arcs e e' h i = IfErr-weaker r _ _ (λ x w. leaf_refused (identifier_leaf arcs) x e e' (as_leaf arcs x e e' i w)) h
