-- What the words of a table say.
use Rattle.std.specs.Prelude.{ℕ, zero, suc, ◌+◌, ◌-◌, ◌*◌, ◌/◌, ◌^◌, Bool, cond, not, ◌&&◌, ◌==◌, nat_lt, List, length, Option, Some, None, slice_index_or}
use Rattle.asn1_core.specs.Tags.{class_number}
use Rattle.asn1_core.specs.declared.tag.Tag.{Tag}
use Rattle.oer_walk.specs.Kinds.{kind_numbered}
use Rattle.oer_walk.specs.declared.kinds.Kind.{Kind}
use Rattle.oer_walk.specs.declared.kinds.Kind.TheVariants.{Boolean, Null, FixedInteger, Integer, Enumerated as EnumeratedKind, FixedBitString, BitString, FixedString, String, NamedBitString, List as ListKind, Sequence as SequenceKind, Choice as ChoiceKind}
use Rattle.oer_walk.specs.declared.table.Form.{Form}
use Rattle.oer_walk.specs.declared.table.Form.TheVariants.{Fixed, Counted, Enumerated, List as ListForm, Sequence, Choice, Nothing}
use Rattle.oer_walk.specs.declared.table.Parts.{Parts}
use Rattle.oer_walk.specs.declared.table.Component.{Component}
use Rattle.oer_walk.specs.declared.table.Alternative.{Alternative}

-- the number that stands for nothing
abbrev pub nothing : ℕ
nothing = 2 ^ 32 - 1

-- the word at a place, nothing past the table
abbrev pub word : List ℕ → ℕ → ℕ
word ws i = slice_index_or ws i nothing

-- where the kind of the type with that number stands
unfoldable pub place_of : List ℕ → ℕ → Option ℕ
place_of ws n = cond (nat_lt n (word ws 0)) (Some (word ws (n + 1))) None

abbrev pub kind_at : List ℕ → Option ℕ → ℕ
kind_at ws (Some i) = word ws i
kind_at ws None = nothing

unfoldable pub kind_of : List ℕ → ℕ → ℕ
kind_of ws n = kind_at ws (place_of ws n)

-- a count of parts, which are no more than the table's words
abbrev pub count_at : List ℕ → ℕ → ℕ
count_at ws i = cond (nat_lt (word ws i) (length ws)) (word ws i) (length ws)

unfoldable pub parts_at : List ℕ → ℕ → Parts
parts_at ws i = record { is_extensible = word ws (i + 1) == 1; roots = count_at ws (i + 2); additions = count_at ws (i + 3); place = i }

-- how a type of that kind, which stands there, lies in octets
abbrev pub form_of_kind : List ℕ → ℕ → Option Kind → Form
form_of_kind ws i (Some Boolean) = Fixed 1
form_of_kind ws i (Some Null) = Fixed 0
form_of_kind ws i (Some FixedInteger) = Fixed (word ws (i + 1))
form_of_kind ws i (Some Integer) = Counted
form_of_kind ws i (Some EnumeratedKind) = Enumerated
form_of_kind ws i (Some FixedBitString) = Fixed ((word ws (i + 1) + 7) / 8)
form_of_kind ws i (Some BitString) = Counted
form_of_kind ws i (Some NamedBitString) = Counted
form_of_kind ws i (Some FixedString) = Fixed (word ws (i + 1))
form_of_kind ws i (Some String) = Counted
form_of_kind ws i (Some ListKind) = ListForm (word ws (i + 2))
form_of_kind ws i (Some SequenceKind) = Sequence (parts_at ws i)
form_of_kind ws i (Some ChoiceKind) = Choice (parts_at ws i)
form_of_kind ws i None = Nothing

unfoldable pub form_at : List ℕ → ℕ → Form
form_at ws i = form_of_kind ws i (kind_numbered (word ws i))

abbrev pub form_if : List ℕ → Option ℕ → Form
form_if ws (Some i) = form_at ws i
form_if ws None = Nothing

unfoldable pub form_of : List ℕ → ℕ → Form
form_of ws n = form_if ws (place_of ws n)

-- the component with that number, and the alternative
unfoldable pub component_of : List ℕ → Parts → ℕ → Component
component_of ws p i = let at = p.place + 3 * i + 4 in record { name = word ws at; may_be_absent = not (word ws (at + 1) == 0); type_number = word ws (at + 2) }

unfoldable pub alternative_at : List ℕ → Parts → ℕ → Alternative
alternative_at ws p i = let at = p.place + 4 * i + 4 in record { name = word ws at; class = word ws (at + 1); number = word ws (at + 2); type_number = word ws (at + 3) }

abbrev pub is_of : Alternative → Tag → Bool
is_of a t = (a.class == class_number t.class) && (a.number == t.value)

-- the number of the first alternative with that tag, among k from i on
abbrev pub alternative_from : List ℕ → Parts → Tag → ℕ → ℕ → Option ℕ
alternative_from ws p t zero i = None
alternative_from ws p t (suc k) i = cond (is_of (alternative_at ws p i) t) (Some i) (alternative_from ws p t k (i + 1))

unfoldable pub alternative_of : List ℕ → Parts → Tag → Option ℕ
alternative_of ws p t = alternative_from ws p t (p.roots + p.additions) 0

-- how many of the first k components may be absent
abbrev pub optionals : List ℕ → Parts → ℕ → ℕ
optionals ws p zero = zero
optionals ws p (suc k) = cond (component_of ws p k).may_be_absent (suc (optionals ws p k)) (optionals ws p k)
