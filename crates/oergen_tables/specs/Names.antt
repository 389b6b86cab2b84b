-- The names of a type's numbers.
use Rattle.std.specs.Prelude.{◌≡◌, ℕ, ℤ, true, Option, Some, None, is_some, IfSome, List, string_bytes}
use Rattle.std.specs.List.{slice_get}
use Rattle.oergen_layouts.specs.Enumerations.{IsDigits, number_behind}
use Rattle.oergen_parse.specs.declared.ast.Numbered.{Numbered}
use Rattle.oergen_parse.specs.declared.lexer.Token.{Token}
use Rattle.oergen_parse.specs.declared.lexer.TokenId.{TokenId}
use Rattle.oergen_tables.specs.declared.forms.ValueName.{ValueName}

-- a name as the module has it
abbrev pub IsNamed : List Token → TokenId → ValueName → Type 0
IsNamed tokens name value = IfSome (slice_get tokens name.index) (λ token. string_bytes value.name ≡ token.text.now)

abbrev pub shown : ValueName → ℤ × List ℕ
shown value = (value.number, string_bytes value.name)

-- the number that is written behind a name, where there is one, with the name
abbrev pub value_of : List Token → Numbered → Option (ℤ × List ℕ)
value_of tokens item = elim (number_behind tokens item) [ None ↦ None | Some number ↦ elim (slice_get tokens item.name.index) [ None ↦ None | Some token ↦ Some (number, token.text.now) ] ]

-- its name is a token, and what is written behind it a number by its own text
pub record IsReadable (tokens : List Token) (item : Numbered) : Type 0 where
  pub is_there : is_some (slice_get tokens item.name.index) ≡ true
  pub is_digits : IsDigits tokens item
