-- Types for examples, each as the trees of its values, and what a row about octets says.
use Rattle.std.specs.Prelude.{ℕ, Bool, true, false, List, [], ◌∷◌, ℤ, pos, Option, Some, None, ⊤}
use Rattle.asn1_core.specs.Octets.{Octets}
use Rattle.asn1_core.specs.Texts.{Rule}
use Rattle.asn1_core.specs.declared.tag.Class.TheVariants.{Application, Context}
use Rattle.asn1_core.specs.declared.tag.Tag.{Tag}
use Rattle.oer_spec.specs.Encoding.{IsEncoding, IsTree}
use Rattle.oer_spec.specs.Mode.{Mode, Lenient, Canonical}
use Rattle.oer_spec.specs.Tree.{Boolean, Null, Enum, Int, Bits, Named, Text, InOctets, Tree, Primitive, Struct, ListOf, Choice, NoRows, Required, Optional, Default, Slot, Absent, Present, Trees, NoTrees, More}

-- ---- leaves

abbrev pub boolean : Bool → Tree
boolean b = Primitive (Boolean b)

abbrev pub null : ⊤ → Tree
null v = Primitive Null

abbrev pub enumerated : ℤ → Tree
enumerated n = Primitive (Enum n)

-- INTEGER; INTEGER (low..MAX); INTEGER (MIN..high); INTEGER (low..high)
abbrev pub integer : ℤ → Tree
integer n = Primitive (Int None n)

abbrev pub integer_from : ℤ → ℤ → Tree
integer_from low n = Primitive (Int (Some (Some low, None)) n)

abbrev pub integer_to : ℤ → ℤ → Tree
integer_to high n = Primitive (Int (Some (None, Some high)) n)

abbrev pub integer_in : ℤ → ℤ → ℤ → Tree
integer_in low high n = Primitive (Int (Some (Some low, Some high)) n)

-- BIT STRING, and one of so many bits
abbrev pub bit_string : List Bool → Tree
bit_string b = Primitive (Bits None b)

abbrev pub bit_string_of : ℕ → List Bool → Tree
bit_string_of size b = Primitive (Bits (Some (size, size)) b)

-- BIT STRING with named bits, and one of a size from low to high
abbrev pub named : List Bool → Tree
named b = Primitive (Named None b)

abbrev pub named_within : ℕ → ℕ → List Bool → Tree
named_within low high b = Primitive (Named (Some (low, high)) b)

-- octet strings, character strings, identifiers and times by their rule, and those of a fixed size
abbrev pub text : Rule → Octets → Tree
text rule c = Primitive (Text rule None (InOctets c))

abbrev pub text_of : Rule → ℕ → Octets → Tree
text_of rule size c = Primitive (Text rule (Some (size, size)) (InOctets c))

-- ---- sequences and sets

abbrev pub context : ℕ → Tag
context n = record { class = Context; value = n }

abbrev pub application : ℕ → Tag
application n = record { class = Application; value = n }

abbrev pub slot : {V : Type 0} → (V → Tree) → Option V → Slot
slot type None = Absent
slot type (Some v) = Present (type v)

-- SEQUENCE { INTEGER, INTEGER }
abbrev pub pair : ℤ × ℤ → Tree
pair (a, b) = Struct false false (Required (context 0) (integer a) (Required (context 1) (integer b) NoRows)) NoRows

-- SEQUENCE { INTEGER OPTIONAL, INTEGER OPTIONAL }
abbrev pub two_optional : Option ℤ × Option ℤ → Tree
two_optional (a, b) = Struct false false (Optional (context 0) (slot integer a) (Optional (context 1) (slot integer b) NoRows)) NoRows

-- SEQUENCE { INTEGER DEFAULT 0 }: None is the default
abbrev pub with_default : Option ℤ → Tree
with_default a = Struct false false (Default (context 0) (integer (pos 0)) (slot integer a) NoRows) NoRows

-- SEQUENCE { BOOLEAN, ... }
abbrev pub first_version : Bool → Tree
first_version a = Struct false true (Required (context 0) (boolean a) NoRows) NoRows

-- SEQUENCE { BOOLEAN, ..., BOOLEAN OPTIONAL, BOOLEAN OPTIONAL }: the same type with two additions
abbrev pub second_version : Bool × Option Bool × Option Bool → Tree
second_version (a, b, c) =
    Struct false true (Required (context 0) (boolean a) NoRows) (Optional (context 1) (slot boolean b) (Optional (context 2) (slot boolean c) NoRows))

-- SEQUENCE { BOOLEAN, ..., INTEGER }: an addition that is required
abbrev pub required_addition : Bool × ℤ → Tree
required_addition (a, b) = Struct false true (Required (context 0) (boolean a) NoRows) (Required (context 1) (integer b) NoRows)

-- SEQUENCE { BOOLEAN, ..., second_version OPTIONAL }
abbrev pub nested_addition : Bool × Option (Bool × Option Bool × Option Bool) → Tree
nested_addition (a, b) = Struct false true (Required (context 0) (boolean a) NoRows) (Optional (context 1) (slot second_version b) NoRows)

-- SEQUENCE { BOOLEAN, ..., [[ BOOLEAN OPTIONAL ]] }: the group is a sequence
abbrev pub group : Option Bool → Tree
group b = Struct false false (Optional (context 0) (slot boolean b) NoRows) NoRows

abbrev pub with_group : Bool × Option (Option Bool) → Tree
with_group (a, b) = Struct false true (Required (context 0) (boolean a) NoRows) (Optional (context 1) (slot group b) NoRows)

-- SEQUENCE { ..., BOOLEAN OPTIONAL }
abbrev pub additions_alone : Option Bool → Tree
additions_alone a = Struct false true NoRows (Optional (context 0) (slot boolean a) NoRows)

-- SEQUENCE { first_version DEFAULT { true } }, and SEQUENCE { second_version DEFAULT { true, absent, absent } }
abbrev pub first_held : Option Bool → Tree
first_held a = Struct false false (Default (context 0) (first_version true) (slot first_version a) NoRows) NoRows

abbrev pub second_held : Option (Bool × Option Bool × Option Bool) → Tree
second_held a = Struct false false (Default (context 0) (second_version (true, None, None)) (slot second_version a) NoRows) NoRows

-- SET { [444] INTEGER OPTIONAL, [5] INTEGER OPTIONAL, [APPLICATION 9] INTEGER OPTIONAL }
abbrev pub set : Option ℤ × Option ℤ × Option ℤ → Tree
set (a, b, c) =
    Struct true false (Optional (context 444) (slot integer a) (Optional (context 5) (slot integer b) (Optional (application 9) (slot integer c) NoRows))) NoRows

-- SET { [2] BOOLEAN, [1] INTEGER }
abbrev pub set_of_two : Bool × ℤ → Tree
set_of_two (a, b) = Struct true false (Required (context 2) (boolean a) (Required (context 1) (integer b) NoRows)) NoRows

-- ---- lists and choices

abbrev pub elements : {V : Type 0} → (V → Tree) → List V → Trees
elements type [] = NoTrees
elements type (v ∷ vs) = More (type v) (elements type vs)

-- SEQUENCE OF, SET OF
abbrev pub list_of : {V : Type 0} → (V → Tree) → List V → Tree
list_of type vs = ListOf true (elements type vs)

abbrev pub set_of : {V : Type 0} → (V → Tree) → List V → Tree
set_of type vs = ListOf false (elements type vs)

-- CHOICE { [0] INTEGER, [1] INTEGER, ..., [2] INTEGER }
abbrev pub choice : Tag × ℤ → Tree
choice (g, n) = Choice (context 0 ∷ context 1 ∷ []) (context 2 ∷ []) g (integer n)

-- CHOICE { [130] BOOLEAN, [4294967295] BOOLEAN }
abbrev pub long_tags : Tag × Bool → Tree
long_tags (g, b) = Choice (context 130 ∷ context 4294967295 ∷ []) [] g (boolean b)

-- SEQUENCE { SET OF INTEGER, INTEGER DEFAULT 0, ..., BOOLEAN OPTIONAL }: an unordered list, a default and an addition
abbrev pub mixed : List ℤ × Option ℤ × Option Bool → Tree
mixed (a, b, c) =
    Struct false true (Required (context 0) (set_of integer a) (Default (context 1) (integer (pos 0)) (slot integer b) NoRows)) (Optional (context 2) (slot boolean c) NoRows)

-- ---- what a row says: levels are the 128 that a reader has unless told otherwise

-- The octets spell the value in both modes of reading.
pub record IsSpelled (o : Octets) (t : Tree) : Type 0 where
  pub is_tree : IsTree t
  pub leniently : IsEncoding Lenient 128 o t
  pub canonically : IsEncoding Canonical 128 o t

-- Leniently the octets spell the value; canonically they spell no value of the type, however many levels there are.
pub record IsSpelledLeniently {V : Type 0} (type : V → Tree) (o : Octets) (v : V) : Type 0 where
  pub is_tree : IsTree (type v)
  pub leniently : IsEncoding Lenient 128 o (type v)
  pub canonically : (d : ℕ) (w : V) → IsTree (type w) → IsEncoding Canonical d o (type w) → ⊥

-- The octets spell no value of the type, in any mode and however many levels there are.
abbrev pub SpellNone : {V : Type 0} → (V → Tree) → Octets → Type 0
SpellNone {V} type o = (m : Mode) (d : ℕ) (v : V) → IsTree (type v) → IsEncoding m d o (type v) → ⊥
