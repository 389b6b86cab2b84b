-- A set of a required component and an optional one, whose table isn't in the order of their tags.
use Rattle.std.specs.Option.{option_map}
use Rattle.std.specs.Prelude.{◌≡◌, ℕ, zero, suc, true, false, List, [], ◌∷◌, Some, None, Result, Ok, Err, refl}
use Rattle.asn1_core.specs.Rows.{Row}
use Rattle.asn1_core.specs.declared.error.DecodeError.{DecodeError}
use Rattle.asn1_core.specs.declared.fields.FieldPresence.TheVariants as presence
use Rattle.oer_spec.specs.Encoding.{IsTree}
use Rattle.oer_spec.specs.Same.{Alike}
use Rattle.oer_spec.specs.Spelled.{boolean, boolean_is, booleans_alike}
use Rattle.oer_spec.specs.Tree.{Tree, Rows, NoRows, Required, Optional, Struct, Slot, Present}
use Rattle.oer_read.specs.SetRows.{found}
use Rattle.oer_rows.specs.Integers.{plain_integer, integer_slot, option_is, options_alike}
use Rattle.oer_rows.specs.Schema.{context}
use Rattle.example_closures.specs.declared.statuses.Status.{Status}
use Rattle.example_closures.specs.declared.statuses.Part.{Part}
use Rattle.example_closures.specs.declared.statuses.Part.TheVariants.{Ready, Code}

-- the table's rows
abbrev pub status_table : List Row
status_table = record { index = 0; tag = context 1; presence = presence.Required } ∷ record { index = 1; tag = context 0; presence = presence.Optional } ∷ []

-- the rows of a value, in the order of the table
abbrev pub status_rows : Status → Rows
status_rows v = Required (context 1) (boolean v.ready) (Optional (context 0) (integer_slot v.code) NoRows)

unfoldable pub status_tree : Status → Tree
status_tree v = Struct true false (status_rows v) NoRows

pub status_is : (v : Status) → IsTree (status_tree v)
unfolding status_tree Rattle.oer_spec.specs.Encoding.IsTree
status_is v = ((boolean_is v.ready, (option_is v.code, tt)), tt, (λ e. refl), (λ e. (refl, (refl, tt))))

pub statuses_alike : (v w : Status) → Alike (status_tree v) (status_tree w)
unfolding status_tree Rattle.oer_spec.specs.Same.Alike
statuses_alike v w = (refl, refl, (refl, booleans_alike v.ready w.ready, (refl, options_alike v.code w.code, tt)), tt)

-- the slot of each index
abbrev pub status_slot : Status → ℕ → Slot
status_slot v zero = Present (boolean v.ready)
status_slot v (suc n) = integer_slot v.code

-- a component's index, and its tree
abbrev pub part_index : Part → ℕ
part_index (Ready b) = 0
part_index (Code n) = 1

abbrev pub part_tree : Part → Tree
part_tree (Ready b) = boolean b
part_tree (Code n) = plain_integer n

-- it is the component of that index
abbrev pub IsPartAt : ℕ → Part → Type 0
IsPartAt n p = part_index p ≡ n

-- a set has the components that are found; it is refused where the required one isn't
abbrev pub StatusMade : List Part → Result Status DecodeError → Type 0
StatusMade parts (Ok v) = (found part_index 0 parts ≡ Some (Ready v.ready)) × (found part_index 1 parts ≡ option_map Code v.code)
StatusMade parts (Err e) = found part_index 0 parts ≡ None
