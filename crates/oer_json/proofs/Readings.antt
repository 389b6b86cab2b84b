-- What JSON stands for is a tree of the type, and its canonical octets are an encoding that a walk takes.
use Rattle.std.proofs.Common.{◌≡◌, ℕ, Bool, true, false, List, ◌++◌, length, Option, Some, None, Result, Ok, Err, refl, sym, ap, ap₂, subst, ◌∙◌, ◌/◌, inl, inr, ◌⊎◌}
use Rattle.std.specs.Prelude.{Vec, IsTrue, cond, ◌&&◌, ◌==◌, ℤ}
use Rattle.std.specs.Result.{IsErrAnd}
use Rattle.std.proofs.lemmas.Result.{err_from_is_err_and}
use Rattle.std.specs.declared.alloc.Global.{Global}
use Rattle.asn1_core.specs.Bounds.{Range, Size, fixed_size}
use Rattle.asn1_core.specs.Octets.{Octets}
use Rattle.asn1_strings.specs.NamedBits.{without_zeros}
use Rattle.asn1_strings.proofs.NamedLists.{without_zeros_is_named}
use Rattle.oer_json.specs.Readings.{Reading, Stands, Misfits, Unsaid, boolean_in, null_in, word_of, bounds_of, allowed, free_range, is_free, counted_of, bits_in, bits_of_size, sizes_of, reading_of_kind, reading_of, Puts, IsWritten, Answers}
use Rattle.oer_json.specs.Whole.{HasTooManyParts}
use Rattle.oer_json.specs.declared.json.Json.{Json, Null, Bool as Truth, Number}
use Rattle.oer_json.specs.declared.refusals.Refusal.{Refusal}
use Rattle.oer_json.specs.declared.refusals.Refusal.TheVariants.{NotWalked, OutOfMemory}
use Rattle.oer_json.specs.declared.tables.Bounds.{Bounds}
use Rattle.oer_json.specs.declared.tables.Tables.{Tables}
use Rattle.asn1_core.specs.declared.error.EncodeErrorKind.{EncodeErrorKind}
use Rattle.asn1_core.specs.declared.error.EncodeErrorKind.TheVariants.{ValueConstraintNotSatisfied, SizeConstraintNotSatisfied, LengthExceedsPlatformSize}
use Rattle.asn1_core.specs.declared.error.EncodeErrorKind.TheVariants as encode
use Rattle.oer_json.specs.declared.refusals.Fault.{Fault}
use Rattle.oer_json.specs.declared.refusals.Fault.TheVariants as fault
use Rattle.oer_spec.specs.Failures.{first_bits_failure, first_failure}
use Rattle.oer_spec.specs.Encoding.{IsTree, IsEncodable, IsEncoding, canonical_octets, fails}
use Rattle.oer_spec.specs.Leaves.{Failure, BadValue, BadSize, BadTime, TooLong, IsLeaf, bits_fail, named_bits, unit_of, width_of, leaf_octets, leaf_fails}
use Rattle.oer_spec.specs.Mode.{Lenient}
use Rattle.oer_spec.specs.Tree.{Tree, Primitive, InOctets, Civil, Leaf, Boolean, Null as NullLeaf, Enum, Int, Bits, Named, Text as TextLeaf}
use Rattle.oer_spec.proofs.Within.{own_sized_within_canonical, canonical_within_lenient}
use Rattle.oer_spec.proofs.WrittenLeaves.{leaf_form}
use Rattle.oer_walk.specs.Described.{Describes}
use Rattle.oer_walk.specs.Forms.{width_form, bits_form, leaf_form as form_of_leaf}
use Rattle.oer_walk.specs.Kinds.{kind_numbered}
use Rattle.oer_walk.specs.Tables.{kind_of, kind_at, place_of, form_of, form_at, form_if, form_of_kind}
use Rattle.oer_walk.specs.declared.table.Form.TheVariants.{Counted}
use Rattle.oer_walk.specs.declared.kinds.Kind.{Kind}
use Rattle.oer_walk.specs.declared.kinds.Kind.TheVariants as kinds

-- ---- tables
-- the form of a type by its kind, and where this stands
form_is : (ws : List ℕ) (n : ℕ) (k : Kind) → kind_numbered (kind_of ws n) ≡ Some k → (i : ℕ) × (place_of ws n ≡ Some i) × (form_of ws n ≡ form_of_kind ws i (Some k))
unfolding kind_of form_of form_at
form_is ws n k e = at (place_of ws n) refl e
  where
    at : (o : Option ℕ) → place_of ws n ≡ o → kind_numbered (kind_at ws o) ≡ Some k → (i : ℕ) × (o ≡ Some i) × (form_if ws o ≡ form_of_kind ws i (Some k))
    at (Some i) p h = (i, refl, ap (form_of_kind ws i) h)
    at None p h = absurd cc

-- ---- leaves
leaf_taken : (l : Leaf) → IsLeaf l → IsEncodable (Primitive l) → IsEncoding Lenient 1024 (canonical_octets (Primitive l)) (Primitive l)
unfolding IsEncoding canonical_octets fails
leaf_taken l i f = canonical_within_lenient (Primitive l) 1024 (leaf_octets l) (own_sized_within_canonical (Primitive l) 1024 (leaf_octets l) (leaf_form l i f).0)

-- a leaf is put behind what is there
pub puts_leaf : {T : Type 0} (reading : Reading) (l : Leaf) (x : T) (old new : Octets) → reading ≡ Stands (Primitive l) → ((k : Failure) → leaf_fails l k ≡ false) → new ≡ old ++ leaf_octets l → Puts reading (Ok x) old new
unfolding canonical_octets fails
puts_leaf reading l x old new e f h = subst (λ (z : Reading). Puts z (Ok x) old new) (sym e) (f, h)

first_bits : (s : Size) (b : List Bool) (kind : EncodeErrorKind) → first_bits_failure s b ≡ Some kind → ((k : Failure) → bits_fail s b k ≡ false) → ⊥
first_bits s b kind e f = let a = f BadSize in let c = f TooLong in cc (sym e ∙ ap₂ (λ (x y : Bool). cond x (Some (SizeConstraintNotSatisfied (length b))) (cond y (Some LengthExceedsPlatformSize) None)) a c)

-- a leaf that can't be put there can't be written, or memory was refused
first_is : (l : Leaf) (kind : EncodeErrorKind) → first_failure l ≡ Some kind → ((k : Failure) → leaf_fails l k ≡ false) → ⊥
first_is (Boolean b) kind e f = cc
first_is NullLeaf kind e f = cc
first_is (Enum n) kind e f = cc
first_is (Int r n) kind e f = let a = f BadValue in let b = f TooLong in cc (sym e ∙ ap₂ (λ (x y : Bool). cond x (Some ValueConstraintNotSatisfied) (cond y (Some LengthExceedsPlatformSize) None)) a b)
first_is (Bits s b) kind e f = first_bits s b kind e f
first_is (Named s b) kind e f = first_bits s (named_bits s b) kind e f
first_is (TextLeaf r s (InOctets o)) kind e f = let a = f BadSize in let c = f TooLong in cc (sym e ∙ ap₂ (λ (x y : Bool). cond x (Some (SizeConstraintNotSatisfied (length o / unit_of r))) (cond y (Some LengthExceedsPlatformSize) None)) a c)
first_is (TextLeaf r s (Civil fields)) kind e f = cc (f BadTime)

pub leaf_refused : (T : Type 0) (reading : Reading) (l : Leaf) (kind : EncodeErrorKind) (e : Fault) (old new : Octets) → reading ≡ Stands (Primitive l) → (kind ≡ encode.OutOfMemory → e ≡ fault.OutOfMemory) → (kind ≡ encode.OutOfMemory) ⊎ (first_failure l ≡ Some kind) → Puts {T = T} reading (Err e) old new
unfolding fails
leaf_refused T reading l kind e old new is gives (inl m) = subst (λ (z : Reading). Puts {T = T} z (Err e) old new) (sym is) (inl (gives m))
leaf_refused T reading l kind e old new is gives (inr f) = subst (λ (z : Reading). Puts {T = T} z (Err e) old new) (sym is) (inr (λ fine. first_is l kind f fine))

-- a number of that range, which is read back from what was handed in
pub number_put : (r s : Range) (m n : ℤ) (old new : Octets) → r ≡ s → m ≡ n → ((k : Failure) → leaf_fails (Int r m) k ≡ false) → new ≡ old ++ leaf_octets (Int r m) → Puts {T = Unit {0}} (Stands (Primitive (Int s n))) (Ok tt) old new
number_put r s m n old new e same f h = subst (λ (z : Tree). Puts {T = Unit {0}} (Stands z) (Ok tt) old new) (ap₂ (λ (x : Range) (y : ℤ). Primitive (Int x y)) e same) (puts_leaf {T = Unit {0}} (Stands (Primitive (Int r m))) (Int r m) tt old new refl f h)

pub number_refused : (r s : Range) (m n : ℤ) (kind : EncodeErrorKind) (e : Fault) (old new : Octets) → r ≡ s → m ≡ n → (kind ≡ encode.OutOfMemory → e ≡ fault.OutOfMemory) → (kind ≡ encode.OutOfMemory) ⊎ (first_failure (Int r m) ≡ Some kind) → Puts {T = Unit {0}} (Stands (Primitive (Int s n))) (Err e) old new
number_refused r s m n kind e old new is same gives h = subst (λ (z : Tree). Puts {T = Unit {0}} (Stands z) (Err e) old new) (ap₂ (λ (x : Range) (y : ℤ). Primitive (Int x y)) is same) (leaf_refused (Unit {0}) (Stands (Primitive (Int r m))) (Int r m) kind e old new refl gives h)

-- bits, which are found in what was handed in
module _ (leaf : List Bool → Leaf) (size : Option ℕ) (found : Option (List Bool)) where
  bits_stand : (b : List Bool) (l : Leaf) → size ≡ None → found ≡ Some b → l ≡ leaf b → bits_of_size size leaf found ≡ Stands (Primitive l)
  bits_stand b l free is same = ap₂ (λ (n : Option ℕ) (o : Option (List Bool)). bits_of_size n leaf o) free is ∙ ap (λ (z : Leaf). Stands (Primitive z)) (sym same)

  pub bits_put : (b : List Bool) (l : Leaf) (old new : Octets) → size ≡ None → found ≡ Some b → l ≡ leaf b → ((k : Failure) → leaf_fails l k ≡ false) → new ≡ old ++ leaf_octets l → Puts {T = Unit {0}} (bits_of_size size leaf found) (Ok tt) old new
  bits_put b l old new free is same f h = puts_leaf (bits_of_size size leaf found) l tt old new (bits_stand b l free is same) f h

  pub bits_refused : (b : List Bool) (l : Leaf) (kind : EncodeErrorKind) (e : Fault) (old new : Octets) → size ≡ None → found ≡ Some b → l ≡ leaf b → (kind ≡ encode.OutOfMemory → e ≡ fault.OutOfMemory) → (kind ≡ encode.OutOfMemory) ⊎ (first_failure l ≡ Some kind) → Puts {T = Unit {0}} (bits_of_size size leaf found) (Err e) old new
  bits_refused b l kind e old new free is same gives h = leaf_refused (Unit {0}) (bits_of_size size leaf found) l kind e old new (bits_stand b l free is same) gives h

-- a tree of the type, whose canonical octets are an encoding
pub record IsOf (ws : List ℕ) (n : ℕ) (t : Tree) : Type 0 where
  pub tree : IsTree t
  pub described : Describes ws n t
  pub spelled : IsEncodable t → IsEncoding Lenient 1024 (canonical_octets t) t

boolean_of : (ws : List ℕ) (n : ℕ) (b : Bool) → kind_numbered (kind_of ws n) ≡ Some kinds.Boolean → IsOf ws n (Primitive (Boolean b))
unfolding IsTree Describes
boolean_of ws n b e = record { tree = tt; described = (form_is ws n kinds.Boolean e).2; spelled = leaf_taken (Boolean b) tt }

null_of : (ws : List ℕ) (n : ℕ) → kind_numbered (kind_of ws n) ≡ Some kinds.Null → IsOf ws n (Primitive NullLeaf)
unfolding IsTree Describes
null_of ws n e = record { tree = tt; described = (form_is ws n kinds.Null e).2; spelled = leaf_taken NullLeaf tt }

free_form : (is_signed : Bool) → width_form (width_of (free_range is_signed)) ≡ Counted
free_form true = refl
free_form false = refl

counted_is_of : (ws : List ℕ) (n : ℕ) (is_signed : Bool) (i : ℤ) → kind_numbered (kind_of ws n) ≡ Some kinds.Integer → IsOf ws n (Primitive (Int (free_range is_signed) i))
unfolding IsTree Describes
counted_is_of ws n is_signed i e = record { tree = tt; described = (form_is ws n kinds.Integer e).2 ∙ sym (free_form is_signed); spelled = leaf_taken (Int (free_range is_signed) i) tt }

-- bits that lie behind a length
bits_of : (ws : List ℕ) (n : ℕ) (k : Kind) (l : Leaf) → kind_numbered (kind_of ws n) ≡ Some k → ((i : ℕ) → form_of_kind ws i (Some k) ≡ Counted) → IsLeaf l → form_of_leaf l ≡ Counted → IsOf ws n (Primitive l)
unfolding IsTree Describes
bits_of ws n k l e form i counted = let f = form_is ws n k e in record { tree = i; described = f.2 ∙ form f.0 ∙ sym counted; spelled = leaf_taken l i }

same_tree : (t u : Tree) → Stands t ≡ Stands u → t ≡ u
same_tree t u e = cc

boolean_is : (ws : List ℕ) (n : ℕ) (json : Json) (t : Tree) → kind_numbered (kind_of ws n) ≡ Some kinds.Boolean → boolean_in json ≡ Stands t → IsOf ws n t
boolean_is ws n (Truth b) t e s = subst (IsOf ws n) (same_tree (Primitive (Boolean b)) t s) (boolean_of ws n b e)
boolean_is ws n _ t e s = absurd cc

null_is : (ws : List ℕ) (n : ℕ) (json : Json) (t : Tree) → kind_numbered (kind_of ws n) ≡ Some kinds.Null → null_in json ≡ Stands t → IsOf ws n t
null_is ws n Null t e s = subst (IsOf ws n) (same_tree (Primitive NullLeaf) t s) (null_of ws n e)
null_is ws n _ t e s = absurd cc

counted_is : (ws : List ℕ) (n : ℕ) (is_signed : Bool) (range : Option Bounds) (json : Json) (t : Tree) → kind_numbered (kind_of ws n) ≡ Some kinds.Integer → counted_of is_signed range json ≡ Stands t → IsOf ws n t
counted_is ws n is_signed range (Number i) t e s = at (allowed range i && is_free is_signed i) s
  where
    at : (b : Bool) → cond b (Stands (Primitive (Int (free_range is_signed) i))) Misfits ≡ Stands t → IsOf ws n t
    at true h = subst (IsOf ws n) (same_tree (Primitive (Int (free_range is_signed) i)) t h) (counted_is_of ws n is_signed i e)
    at false h = absurd cc
counted_is ws n is_signed range _ t e s = absurd cc

bits_is : (ws : List ℕ) (n : ℕ) (k : Kind) (leaf : List Bool → Leaf) (size : Option ℕ) (found : Option (List Bool)) (t : Tree) → kind_numbered (kind_of ws n) ≡ Some k → ((i : ℕ) → form_of_kind ws i (Some k) ≡ Counted) → ((b : List Bool) → IsLeaf (leaf b)) → ((b : List Bool) → form_of_leaf (leaf b) ≡ bits_form size) → bits_of_size size leaf found ≡ Stands t → IsOf ws n t
bits_is ws n k leaf None (Some b) t e form i lies s = subst (IsOf ws n) (same_tree (Primitive (leaf b)) t s) (bits_of ws n k (leaf b) e form (i b) (lies b))
bits_is ws n k leaf None None t e form i lies s = absurd cc
bits_is ws n k leaf (Some m) found t e form i lies s = absurd cc

pub stands_of : (tables : Tables) (n : ℕ) (json : Json) (t : Tree) → reading_of tables n json ≡ Stands t → IsOf tables.words.items n t
stands_of tables n json t s = at (kind_numbered (kind_of tables.words.items n)) refl s
  where
    at : (k : Option Kind) → kind_numbered (kind_of tables.words.items n) ≡ k → reading_of_kind tables n k json ≡ Stands t → IsOf tables.words.items n t
    at (Some kinds.Boolean) e h = boolean_is tables.words.items n json t e h
    at (Some kinds.Null) e h = null_is tables.words.items n json t e h
    at (Some kinds.Integer) e h = counted_is tables.words.items n (word_of tables.words.items n 0 == 1) (bounds_of tables.ranges.items n) json t e h
    at (Some kinds.BitString) e h =
        let s = sizes_of tables n in
        bits_is tables.words.items n kinds.BitString (λ b. Bits s b) (fixed_size s) (bits_in json) t e (λ i. refl) (λ b. tt) (λ b. refl) h
    at (Some kinds.NamedBitString) e h =
        let s = sizes_of tables n in
        bits_is tables.words.items n kinds.NamedBitString (λ b. Named s (without_zeros b)) (fixed_size s) (bits_in json) t e (λ i. refl) without_zeros_is_named (λ b. refl) h
    at (Some _) e h = absurd cc
    at None e h = absurd cc

-- ---- answers
-- what a fault while a value is put comes to
pub written_not : (reading : Reading) (f : Fault) (e : Refusal) (old new : Octets) → Puts {T = Unit {0}} reading (Err f) old new → (f ≡ fault.OutOfMemory → e ≡ OutOfMemory) → IsWritten reading (Err e)
written_not (Stands t) f e old new (inl m) gives = inl (gives m)
written_not (Stands t) f e old new (inr x) gives = inr x
written_not Misfits f e old new h gives = refl
written_not Unsaid f e old new h gives = tt

no_memory : (reading : Reading) (e : Refusal) → e ≡ OutOfMemory → IsWritten reading (Err e)
no_memory (Stands t) e same = inl same
no_memory Misfits e same = refl
no_memory Unsaid e same = tt

pub written_no_memory : (reading : Reading) (q : Result (Vec ℕ Global) Refusal) → IsErrAnd q (λ d. d ≡ OutOfMemory) → IsWritten reading q
written_no_memory reading q h = let p = err_from_is_err_and q h in subst (IsWritten reading) (sym p.1) (no_memory reading p.0 p.2)

module _ (ws : List ℕ) (n : ℕ) where
  pub answered : (reading : Reading) (v : Vec ℕ Global) → IsWritten reading (Ok v) → Answers ws n 1024 reading (Ok v)
  answered (Stands t) v h = h.1
  answered Misfits v h = h
  answered Unsaid v h = tt

  refused : (reading : Reading) (e f : Refusal) → f ≡ e → IsWritten reading (Err e) → Answers ws n 1024 reading (Err f)
  refused (Stands t) e f same (inl h) = inl (same ∙ h)
  refused (Stands t) e f same (inr h) = inr (inl h)
  refused Misfits e f same h = refl
  refused Unsaid e f same h = tt

  pub refused_by : (reading : Reading) (q : Result (Vec ℕ Global) Refusal) (e : Refusal) → IsErrAnd q (λ d. d ≡ e) → IsWritten reading (Err e) → Answers ws n 1024 reading q
  refused_by reading q e h w = let p = err_from_is_err_and q h in subst (Answers ws n 1024 reading) (sym p.1) (refused reading e p.0 p.2 w)

  pub not_walked : (reading : Reading) (v : Vec ℕ Global) → IsWritten reading (Ok v) → ((t : Tree) → reading ≡ Stands t → IsEncodable t → HasTooManyParts ws n 1024 v.items) → Answers ws n 1024 reading (Err NotWalked)
  not_walked (Stands t) v h f = inr (inr (refl, subst (HasTooManyParts ws n 1024) h.1 (f t refl h.0)))
  not_walked Misfits v h f = refl
  not_walked Unsaid v h f = tt

-- What stands for a value has octets that the walk takes, unless it has too many parts.
pub stands_taken : (tables : Tables) (n : ℕ) (json : Json) (t : Tree) (v : Vec ℕ Global) (octets : Octets) (taken : Bool) → reading_of tables n json ≡ Stands t → IsEncodable t → IsWritten (reading_of tables n json) (Ok v) → octets ≡ v.items → taken ≡ false
    → ((u : Tree) → IsTree u → Describes tables.words.items n u → IsEncoding Lenient 1024 octets u → IsTrue taken ⊎ HasTooManyParts tables.words.items n 1024 octets) → HasTooManyParts tables.words.items n 1024 v.items
stands_taken tables n json t v octets taken e f w same not takes = by_case (takes t is.tree is.described (subst (λ (z : Octets). IsEncoding Lenient 1024 z t) (sym (same ∙ written)) (is.spelled f)))
  where
    is : IsOf tables.words.items n t
    is = stands_of tables n json t e

    written : v.items ≡ canonical_octets t
    written = (subst (λ (z : Reading). IsWritten z (Ok v)) e w).1

    not_true : (b : Bool) → b ≡ false → IsTrue b → ⊥
    not_true true z x = cc
    not_true false z x = cc

    by_case : IsTrue taken ⊎ HasTooManyParts tables.words.items n 1024 octets → HasTooManyParts tables.words.items n 1024 v.items
    by_case (inl x) = absurd (not_true taken not x)
    by_case (inr x) = subst (HasTooManyParts tables.words.items n 1024) same x
