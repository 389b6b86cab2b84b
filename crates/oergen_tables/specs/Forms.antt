-- The words of a type's form in a table: the number of its kind, and what goes with it, as the comments of `Kind` say.
use Rattle.std.specs.Prelude.{◌≡◌, ◌⊎◌, ℕ, ◌+◌, ◌-◌, ◌^◌, ℤ, pos, ◌*ℤ◌, ◌≤ℤ◌, ◌<ℤ◌, unsigned_abs, Bool, true, false, cond, not, ◌==◌, count_by, Option, Some, None, List, [], ◌∷◌, ◌++◌, length, string_bytes}
use Rattle.std.specs.Int.{from_bool}
use Rattle.std.specs.List.{flat_map}
use Rattle.std.specs.Ordering.{int_eq}
use Rattle.asn1_core.specs.Tags.{class_number}
use Rattle.asn1_core.specs.declared.tag.Tag.{Tag}
use Rattle.oergen_layouts.specs.Widths.{width_of}
use Rattle.oergen_layouts.specs.declared.rows.Position.TheVariants.{Root, Addition, Group}
use Rattle.oergen_layouts.specs.declared.visible.Limits.{Limits}
use Rattle.oergen_parse.specs.declared.ast.Body.{Body}
use Rattle.oergen_parse.specs.declared.ast.Body.TheVariants.{Integer as IntegerBody, BitString as BitsBody, Simple as SimpleBody}
use Rattle.oergen_parse.specs.declared.ast.Simple.{Simple}
use Rattle.oergen_parse.specs.declared.ast.Simple.TheVariants.{Boolean, Null, OctetString, ObjectIdentifier, Utf8String, NumericString, PrintableString, VisibleString, Ia5String, GeneralString, GraphicString, TeletexString, BmpString, UniversalString, UtcTime, GeneralizedTime, Date, Any}
use Rattle.oer_walk.specs.Kinds.{kind_number}
use Rattle.oer_walk.specs.declared.kinds.Kind.TheVariants.{Boolean as BooleanKind, Null as NullKind, FixedInteger, Integer, FixedBitString, BitString, FixedString, String, NamedBitString, Sequence, Choice}
use Rattle.oer_walk.specs.StringKinds.{string_kind_number}
use Rattle.oer_walk.specs.declared.string_kinds.StringKind.{StringKind}
use Rattle.oer_walk.specs.declared.string_kinds.StringKind.TheVariants as kinds
use Rattle.oergen_tables.specs.declared.rows.Field.{Field}

-- a number that is a word of a table: below the one that stands for nothing
abbrev pub IsWord : ℤ → Type 0
IsWord size = (pos 0 ≤ℤ size) × (size <ℤ pos (2 ^ 32 - 1))

-- an INTEGER: whether it is signed, behind its octets where their count is fixed
abbrev pub words_of_width : Option ℕ × Bool → List ℕ
words_of_width (Some octets, is_signed) = kind_number FixedInteger ∷ octets ∷ from_bool is_signed ∷ []
words_of_width (None, is_signed) = kind_number Integer ∷ from_bool is_signed ∷ []

abbrev pub integer_words : Limits → List ℕ
integer_words limits = words_of_width (width_of limits.low limits.high limits.is_extensible)

abbrev pub same_limit : Option ℤ → Option ℤ → Option ℤ
same_limit (Some low) (Some high) = cond (int_eq low high) (Some low) None
same_limit _ _ = None

-- the one size that limits without an extension mark leave
abbrev pub fixed_size : Limits → Option ℤ
fixed_size limits = cond limits.is_extensible None (same_limit limits.low limits.high)

-- a BIT STRING, of named bits or not: its bits where their count is fixed
abbrev pub bits_words : Bool → Option ℤ → List ℕ
bits_words is_named (Some bits) = kind_number FixedBitString ∷ unsigned_abs bits ∷ []
bits_words true None = kind_number NamedBitString ∷ []
bits_words false None = kind_number BitString ∷ []

-- a string whose sizes count units of so many octets: what its octets are, behind their count where it is fixed
abbrev pub string_words : ℕ → ℤ → Option ℤ → List ℕ
string_words text unit (Some size) = kind_number FixedString ∷ unsigned_abs (size *ℤ unit) ∷ text ∷ []
string_words text unit None = kind_number String ∷ text ∷ []

-- what octets are
abbrev pub string_kind : Simple → StringKind
string_kind Boolean = kinds.OctetString
string_kind Null = kinds.OctetString
string_kind OctetString = kinds.OctetString
string_kind Utf8String = kinds.Utf8String
string_kind NumericString = kinds.NumericString
string_kind PrintableString = kinds.PrintableString
string_kind VisibleString = kinds.VisibleString
string_kind Ia5String = kinds.Ia5String
string_kind GeneralString = kinds.GeneralString
string_kind GraphicString = kinds.GraphicString
string_kind TeletexString = kinds.TeletexString
string_kind BmpString = kinds.BmpString
string_kind UniversalString = kinds.UniversalString
string_kind ObjectIdentifier = kinds.ObjectIdentifier
string_kind UtcTime = kinds.UtcTime
string_kind GeneralizedTime = kinds.GeneralizedTime
string_kind Date = kinds.Date
string_kind Any = kinds.Any

-- the number of that
abbrev pub text_number : Simple → ℕ
text_number simple = string_kind_number (string_kind simple)

-- a type whose size isn't seen
abbrev pub sizeless_words : Simple → List ℕ
sizeless_words Boolean = kind_number BooleanKind ∷ []
sizeless_words Null = kind_number NullKind ∷ []
sizeless_words simple = kind_number String ∷ text_number simple ∷ []

-- A type without parts: an INTEGER by its range, a BIT STRING by its names and its size, another with or without a size.
abbrev pub AreLeafWords : Body → Limits → Limits → List ℕ → Type 0
AreLeafWords (IntegerBody _) range size words = words ≡ integer_words range
AreLeafWords (BitsBody names) range size words = words ≡ bits_words (not (length names.items == 0)) (fixed_size size)
AreLeafWords (SimpleBody simple) range size words = (words ≡ sizeless_words simple) ⊎ ((unit : ℤ) × (words ≡ string_words (text_number simple) unit (fixed_size size)))
AreLeafWords _ range size words = ⊥

-- a component: its name, whether it may be absent, and its type
abbrev pub component_words : Field → List ℕ
component_words field = field.name ∷ from_bool field.may_be_absent ∷ field.type_number ∷ []

-- a SEQUENCE or a SET of components, the first of which are of the root
abbrev pub sequence_words : Bool → ℕ → List Field → List ℕ
sequence_words is_extensible roots fields =
    kind_number Sequence ∷ from_bool is_extensible ∷ roots ∷ (length fields - roots) ∷ flat_map component_words fields

-- the defaults of components, of which the next one has this number
abbrev pub defaults_from : ℕ → List Field → List (ℕ × List ℕ)
defaults_from at [] = []
defaults_from at (field ∷ fields) = elim field.default_value [ None ↦ defaults_from (at + 1) fields | Some value ↦ (at, string_bytes value) ∷ defaults_from (at + 1) fields ]

abbrev pub is_root : Field → Bool
is_root field = elim field.position [ Root ↦ true | Addition ↦ false | Group _ ↦ false ]

-- class and number of a tag; those of the tag that stands for none, where there is none
abbrev pub tag_words : Option Tag → List ℕ
tag_words (Some tag) = class_number tag.class ∷ tag.value ∷ []
tag_words None = 0 ∷ 0 ∷ []

-- an alternative: its name, its tag and its type
abbrev pub alternative_words : Field → List ℕ
alternative_words field = field.name ∷ tag_words field.tag ++ field.type_number ∷ []

abbrev pub stands_there : Bool → Field → Bool
stands_there true field = is_root field
stands_there false field = not (is_root field)

-- those of the root, or the others
abbrev pub alternatives : Bool → List Field → List ℕ
alternatives of_root [] = []
alternatives of_root (field ∷ fields) = cond (stands_there of_root field) (alternative_words field ++ alternatives of_root fields) (alternatives of_root fields)

-- a CHOICE: the alternatives of the root, then the others
abbrev pub choice_words : Bool → List Field → List ℕ
choice_words is_extensible fields =
    let roots = count_by is_root fields in
    kind_number Choice ∷ from_bool is_extensible ∷ roots ∷ (length fields - roots) ∷ alternatives true fields ++ alternatives false fields
