-- What the octets of strings are, by numbers in a table.
use Rattle.std.specs.Prelude.{ℕ, cond, ◌==◌, Option, Some, None}
use Rattle.asn1_core.specs.Texts.{Rule, AnyOctets, Utf8, Numeric, Printable, Visible, Ia5, General, Graphic, Teletex, Bmp, Universal, Identifier, Utc, Generalized, Date as DateRule}
use Rattle.oer_walk.specs.declared.string_kinds.StringKind.{StringKind}
use Rattle.oer_walk.specs.declared.string_kinds.StringKind.TheVariants.{OctetString, Utf8String, NumericString, PrintableString, VisibleString, Ia5String, GeneralString, GraphicString, TeletexString, BmpString, UniversalString, ObjectIdentifier, UtcTime, GeneralizedTime, Date, Any}

abbrev pub string_kind_numbered : ℕ → Option StringKind
string_kind_numbered n =
    cond (n == 0) (Some OctetString)
    (cond (n == 1) (Some Utf8String)
    (cond (n == 2) (Some NumericString)
    (cond (n == 3) (Some PrintableString)
    (cond (n == 4) (Some VisibleString)
    (cond (n == 5) (Some Ia5String)
    (cond (n == 6) (Some GeneralString)
    (cond (n == 7) (Some GraphicString)
    (cond (n == 8) (Some TeletexString)
    (cond (n == 9) (Some BmpString)
    (cond (n == 10) (Some UniversalString)
    (cond (n == 20) (Some ObjectIdentifier)
    (cond (n == 21) (Some UtcTime)
    (cond (n == 22) (Some GeneralizedTime)
    (cond (n == 23) (Some Date)
    (cond (n == 24) (Some Any) None)))))))))))))))

abbrev pub string_kind_number : StringKind → ℕ
string_kind_number OctetString = 0
string_kind_number Utf8String = 1
string_kind_number NumericString = 2
string_kind_number PrintableString = 3
string_kind_number VisibleString = 4
string_kind_number Ia5String = 5
string_kind_number GeneralString = 6
string_kind_number GraphicString = 7
string_kind_number TeletexString = 8
string_kind_number BmpString = 9
string_kind_number UniversalString = 10
string_kind_number ObjectIdentifier = 20
string_kind_number UtcTime = 21
string_kind_number GeneralizedTime = 22
string_kind_number Date = 23
string_kind_number Any = 24

-- what the octets obey
abbrev pub rule_of : StringKind → Rule
rule_of OctetString = AnyOctets
rule_of Utf8String = Utf8
rule_of NumericString = Numeric
rule_of PrintableString = Printable
rule_of VisibleString = Visible
rule_of Ia5String = Ia5
rule_of GeneralString = General
rule_of GraphicString = Graphic
rule_of TeletexString = Teletex
rule_of BmpString = Bmp
rule_of UniversalString = Universal
rule_of ObjectIdentifier = Identifier
rule_of UtcTime = Utc
rule_of GeneralizedTime = Generalized
rule_of Date = DateRule
rule_of Any = AnyOctets
