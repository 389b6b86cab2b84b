-- What a value in JSON stands for (X.697), by a table of types. It is said of BOOLEAN, NULL, and INTEGER and BIT STRING behind a length, and
-- of no other type.
use Rattle.std.specs.Prelude.{◌≡◌, ◌⊎◌, ⊤, ◌++◌, ◌+◌, ◌-◌, ◌^◌, ◌&&◌, ◌==◌, ℕ, ℤ, pos, int_le, Bool, true, false, cond, nat_lt, min, Option, Some, None, option_and_then, unwrap_or, Result, MatchResult, IsErr, List, [], ◌∷◌, length, take, Vec, slice_get, String, string_bytes, codes, nat_eq, nat_le, negsuc, option_map}
use Rattle.std.specs.Cmp.Lexicographic.{pointwise}
use Rattle.std.specs.List.{find}
use Rattle.std.specs.Result.{result_ok}
use Rattle.std.specs.declared.alloc.Global.{Global}
use Rattle.asn1_core.specs.Bounds.{Range, Size, fixed_size, is_from, is_to}
use Rattle.asn1_core.specs.Octets.{Octets, bits_of, octets_for, pack, usize_max}
use Rattle.asn1_strings.specs.NamedBits.{without_zeros}
use Rattle.hex.specs.Hex.{decode_of}
use Rattle.oer_json.specs.Whole.{HasTooManyParts}
use Rattle.oer_json.specs.declared.json.Json.{Json, Null, Bool as Truth, Number, Text}
use Rattle.oer_json.specs.declared.json.Json.TheOpen.{Members}
use Rattle.oer_json.specs.declared.json.Json.TheViews.{out-Json}
use Rattle.oer_json.specs.declared.refusals.Fault.{Fault}
use Rattle.oer_json.specs.declared.refusals.Fault.TheVariants as fault
use Rattle.oer_json.specs.declared.refusals.Refusal.{Refusal}
use Rattle.oer_json.specs.declared.refusals.Refusal.TheVariants as refusal
use Rattle.oer_json.specs.declared.tables.Bounds.{Bounds}
use Rattle.oer_json.specs.declared.tables.Tables.{Tables}
use Rattle.oer_spec.specs.Encoding.{IsEncodable, canonical_octets}
use Rattle.oer_spec.specs.Tree.{Tree, Leaf, Primitive, Boolean, Null as NullLeaf, Int, Bits, Named}
use Rattle.oer_walk.specs.Kinds.{kind_numbered}
use Rattle.oer_walk.specs.Tables.{kind_of}
use Rattle.oer_walk.specs.declared.kinds.Kind.{Kind}
use Rattle.oer_walk.specs.declared.kinds.Kind.TheVariants as kinds

-- what it stands for: a value, no value of the type, or what isn't said here
pub data Reading : Type 0 where
  Stands : Tree → Reading
  Misfits : Reading
  Unsaid : Reading

-- ---- what a table says

-- a word of what describes a type, the number of its kind being the first
abbrev pub described : List ℕ → ℕ → ℕ → Option ℕ
described ws type_number index =
    cond (nat_lt type_number (unwrap_or (slice_get ws 0) 0)) (option_and_then (λ place. slice_get ws (min (place + index) (2 ^ 64 - 1))) (slice_get ws (min (type_number + 1) (2 ^ 64 - 1)))) None

-- a word that goes with a type's kind, the first of them being 0; 0 where there is none
abbrev pub word_of : List ℕ → ℕ → ℕ → ℕ
word_of ws type_number index = unwrap_or (described ws type_number (min (index + 1) (2 ^ 64 - 1))) 0

-- the range or the sizes of a type, where it has some
abbrev pub bounds_of : List Bounds → ℕ → Option Bounds
bounds_of bounds type_number = find (λ b. b.type_number == type_number) bounds

abbrev pub allows : Bounds → ℤ → Bool
allows b n = is_from int_le b.low n && is_to int_le b.high n

abbrev pub allowed : Option Bounds → ℤ → Bool
allowed (Some b) n = allows b n
allowed None n = true

-- ---- leaves

abbrev pub boolean_in : Json → Reading
boolean_in (Truth b) = Stands (Primitive (Boolean b))
boolean_in _ = Misfits

abbrev pub null_in : Json → Reading
null_in Null = Stands (Primitive NullLeaf)
null_in _ = Misfits

-- a number behind a length, with a sign or without; in hexadecimal stand those past 128 bits
abbrev pub free_range : Bool → Range
free_range true = None
free_range false = Some (Some (pos 0), None)

abbrev pub is_free : Bool → ℤ → Bool
is_free true n = true
is_free false n = int_le (pos 0) n

abbrev pub counted_of : Bool → Option Bounds → Json → Reading
counted_of is_signed range (Number n) = cond (allowed range n && is_free is_signed n) (Stands (Primitive (Int (free_range is_signed) n))) Misfits
counted_of is_signed range (Text s) = Unsaid
counted_of is_signed range _ = Misfits

abbrev pub counted_in : Tables → ℕ → Json → Reading
counted_in tables n json = counted_of (word_of tables.words.items n 0 == 1) (bounds_of tables.ranges.items n) json

-- ---- bits

-- the octets of a text in hexadecimal
abbrev pub octets_in : Json → Option Octets
octets_in (Text s) = result_ok (decode_of (string_bytes s))
octets_in _ = None

-- a count of bits, which is one of usize
abbrev pub count_of : ℤ → Option ℕ
count_of (pos n) = cond (nat_le n usize_max) (Some n) None
count_of (negsuc n) = None

abbrev pub count_in : Json → Option ℕ
count_in (Number n) = count_of n
count_in _ = None

-- a member of an object, by its name
abbrev pub is_named : List ℕ → String Global × Json → Bool
is_named name member = pointwise nat_eq (string_bytes member.0) name

-- what stands in an object of `value` and `length`, in either order
abbrev pub parts_of : List (String Global × Json) → Option (Json × Json)
parts_of (a ∷ b ∷ []) = cond (is_named (codes "value") a && is_named (codes "length") b) (Some (a.1, b.1)) (cond (is_named (codes "value") b && is_named (codes "length") a) (Some (b.1, a.1)) None)
parts_of _ = None

abbrev pub parts_in : Json → Option (Json × Json)
parts_in json = elim (out-Json json) [ Members members ↦ parts_of members.items | _ ↦ None ]

-- the first n bits of octets that are as many as these need, and have no other bit that is set
abbrev pub first_bits : Octets → ℕ → Option (List Bool)
first_bits octets n = cond ((length octets == octets_for n) && pointwise nat_eq (pack (take n (bits_of octets))) octets) (Some (take n (bits_of octets))) None

abbrev pub bits_of_parts : Json × Json → Option (List Bool)
bits_of_parts parts = option_and_then (λ n. option_and_then (λ octets. first_bits octets n) (octets_in parts.0)) (count_in parts.1)

abbrev pub bits_in : Json → Option (List Bool)
bits_in json = option_and_then bits_of_parts (parts_in json)

-- a number as a size, or the nearest one that is a size
abbrev pub size_at : ℤ → ℕ
size_at (pos n) = min n usize_max
size_at (negsuc n) = 0

abbrev pub size_in : Option Bounds → Size
size_in None = None
size_in (Some b) = Some (unwrap_or (option_map size_at b.low) 0, unwrap_or (option_map size_at b.high) usize_max)

-- bits of the sizes that are allowed; of one size alone they have no length
abbrev pub bits_of_size : Option ℕ → (List Bool → Leaf) → Option (List Bool) → Reading
bits_of_size None leaf (Some b) = Stands (Primitive (leaf b))
bits_of_size None leaf None = Misfits
bits_of_size (Some n) leaf _ = Misfits

abbrev pub sizes_of : Tables → ℕ → Size
sizes_of tables n = size_in (bounds_of tables.sizes.items n)

abbrev pub bit_string_in : Tables → ℕ → Json → Reading
bit_string_in tables n json = bits_of_size (fixed_size (sizes_of tables n)) (λ b. Bits (sizes_of tables n) b) (bits_in json)

-- named bits: 0 bits at their end carry no meaning (X.680, 22.7)
abbrev pub named_bits_in : Tables → ℕ → Json → Reading
named_bits_in tables n json = bits_of_size (fixed_size (sizes_of tables n)) (λ b. Named (sizes_of tables n) (without_zeros b)) (bits_in json)

-- ---- types

-- of the kinds of numbers
abbrev pub number_in : Tables → ℕ → Kind → Json → Reading
number_in tables n kinds.Integer json = counted_in tables n json
number_in tables n _ json = Unsaid

-- of a type of that kind; none is of a type that the table doesn't have
abbrev pub reading_of_kind : Tables → ℕ → Option Kind → Json → Reading
reading_of_kind tables n (Some kinds.Boolean) json = boolean_in json
reading_of_kind tables n (Some kinds.Null) json = null_in json
reading_of_kind tables n (Some kinds.Integer) json = counted_in tables n json
reading_of_kind tables n (Some kinds.BitString) json = bit_string_in tables n json
reading_of_kind tables n (Some kinds.NamedBitString) json = named_bits_in tables n json
reading_of_kind tables n (Some _) json = Unsaid
reading_of_kind tables n None json = Misfits

abbrev pub reading_of : Tables → ℕ → Json → Reading
reading_of tables n json = reading_of_kind tables n (kind_numbered (kind_of tables.words.items n)) json

-- ---- what is found

-- What is asked for is found, unless it isn't there or memory is refused.
abbrev pub Finds : {T A : Type 0} → (T → A) → Result T Fault → Option A → Type 0
Finds view r found = MatchResult r (λ x. found ≡ Some (view x)) (λ e. (e ≡ fault.OutOfMemory) ⊎ (found ≡ None))

-- ---- what is written

-- A value that can be written has its canonical octets put behind those of before, unless memory is refused.
abbrev pub Puts : {T : Type 0} → Reading → Result T Fault → Octets → Octets → Type 0
Puts (Stands t) r old new = MatchResult r (λ _. IsEncodable t × (new ≡ old ++ canonical_octets t)) (λ e. (e ≡ fault.OutOfMemory) ⊎ (IsEncodable t → ⊥))
Puts Misfits r old new = IsErr r
Puts Unsaid r old new = ⊤

-- the same of octets that are answered
abbrev pub IsWritten : Reading → Result (Vec ℕ Global) Refusal → Type 0
IsWritten (Stands t) r = MatchResult r (λ v. IsEncodable t × (v.items ≡ canonical_octets t)) (λ e. (e ≡ refusal.OutOfMemory) ⊎ (IsEncodable t → ⊥))
IsWritten Misfits r = IsErr r
IsWritten Unsaid r = ⊤

-- What is answered: of a value its canonical octets, unless memory is refused, it can't be written, or it has too many parts for a
-- walk; of what is no value of the type a refusal.
abbrev pub Answers : List ℕ → ℕ → ℕ → Reading → Result (Vec ℕ Global) Refusal → Type 0
Answers ws type_number levels (Stands t) r =
    MatchResult r (λ v. v.items ≡ canonical_octets t)
    (λ e. (e ≡ refusal.OutOfMemory) ⊎ ((IsEncodable t → ⊥) ⊎ ((e ≡ refusal.NotWalked) × HasTooManyParts ws type_number levels (canonical_octets t))))
Answers ws type_number levels Misfits r = IsErr r
Answers ws type_number levels Unsaid r = ⊤
