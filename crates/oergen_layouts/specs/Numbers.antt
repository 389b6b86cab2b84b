-- The number that a value is by its own text (X.680, 19.8): digits, or digits behind a minus. A name stands for another value.
use Rattle.std.specs.Prelude.{ℕ, ◌-◌, ◌^◌, ℤ, pos, negsuc, neg_ℤ, ◌≤ℤ◌, ◌<ℤ◌, Bool, true, false, cond, ◌&&◌, nat_lt, Option, Some, None, List, length}
use Rattle.std.specs.List.{slice_get}
use Rattle.std.specs.Str.{all_ascii_digits}
use Rattle.std.specs.Str.Parse.{digits_value}
use Rattle.oergen_parse.specs.declared.ast.Value.{Value}
use Rattle.oergen_parse.specs.declared.ast.Value.TheVariants.{Literal, Negative, Reference, Names, Braces}
use Rattle.oergen_parse.specs.declared.lexer.Kind.{Kind}
use Rattle.oergen_parse.specs.declared.lexer.Kind.TheVariants.{Name, Word, Number, Bits, Hex, Text, Sign, End}
use Rattle.oergen_parse.specs.declared.lexer.Token.{Token}

abbrev pub IsI128 : ℤ → Type 0
IsI128 number = (negsuc (2 ^ 127 - 1) ≤ℤ number) × (number <ℤ pos (2 ^ 127))

-- one digit or more, and nothing else
abbrev pub are_digits : List ℕ → Bool
are_digits text = nat_lt 0 (length text) && all_ascii_digits text

abbrev pub number_of_digits : Bool → List ℕ → ℤ
number_of_digits false text = pos (digits_value 10 text)
number_of_digits true text = neg_ℤ (pos (digits_value 10 text))

abbrev pub number_of_text : Bool → List ℕ → Option ℤ
number_of_text is_negative text = cond (are_digits text) (Some (number_of_digits is_negative text)) None

abbrev pub is_number : Kind → Bool
is_number Number = true
is_number Name = false
is_number Word = false
is_number Bits = false
is_number Hex = false
is_number Text = false
is_number Sign = false
is_number End = false

abbrev pub own_number : List Token → Value → Option ℤ
own_number tokens (Literal id) = elim (slice_get tokens id.index) [ None ↦ None | Some token ↦ cond (is_number token.kind) (number_of_text false token.text.now) None ]
own_number tokens (Negative id) = elim (slice_get tokens id.index) [ None ↦ None | Some token ↦ number_of_text true token.text.now ]
own_number tokens (Reference _) = None
own_number tokens (Names _ _) = None
own_number tokens (Braces _) = None

abbrev pub is_name : Value → Bool
is_name (Reference _) = true
is_name (Literal _) = false
is_name (Negative _) = false
is_name (Names _ _) = false
is_name (Braces _) = false
