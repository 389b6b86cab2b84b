-- A sequence of a component with a default, and an optional one.
use Rattle.std.specs.Bool.{beq}
use Rattle.std.specs.Prelude.{Bool, false, List, [], ◌∷◌, refl}
use Rattle.asn1_core.specs.Rows.{Row}
use Rattle.asn1_core.specs.declared.fields.FieldPresence.TheVariants as presence
use Rattle.oer_spec.specs.Encoding.{IsTree}
use Rattle.oer_spec.specs.Same.{Alike}
use Rattle.oer_spec.specs.Spelled.{IsAny, boolean, boolean_is, booleans_alike, booleans_same}
use Rattle.oer_spec.specs.Tree.{Tree, Rows, NoRows, Optional, Default, Struct, Slot, present_unless}
use Rattle.oer_read.specs.Defaults.{IsDefault}
use Rattle.oer_read.specs.Parts.{Parts, NoParts, OptionalPart, DefaultPart, Admits, AreOf}
use Rattle.oer_rows.specs.DefaultSlots.{default_slot_is, default_slot_differs, default_slot_admitted, default_slots_alike}
use Rattle.oer_rows.specs.Integers.{WholePart, integer_slot, option_is, options_alike, option_admitted}
use Rattle.oer_rows.specs.Schema.{context}
use Rattle.example_closures.specs.declared.reports.Report.{Report}

-- what a type has to have for a component with a default
pub default_is_known : IsDefault boolean IsAny beq false
default_is_known = record { value = tt; is_tree = λ v i. boolean_is v; alike = λ v w i j. booleans_alike v w; decides = λ v i. booleans_same v false }

-- the slot of `urgent`: absent where it is FALSE
abbrev pub urgent_slot : Bool → Slot
urgent_slot b = present_unless (beq b false) (boolean b)

abbrev pub report_rows : Report → Rows
report_rows r = Default (context 0) (boolean false) (urgent_slot r.urgent) (Optional (context 1) (integer_slot r.number) NoRows)

unfoldable pub report_tree : Report → Tree
report_tree r = Struct false false (report_rows r) NoRows

pub report_is : (r : Report) → IsTree (report_tree r)
unfolding report_tree Rattle.oer_spec.specs.Encoding.IsTree
report_is r = ((boolean_is false, default_slot_is boolean IsAny beq false default_is_known r.urgent (λ e. tt), default_slot_differs boolean IsAny beq false default_is_known r.urgent (λ e. tt), (option_is r.number, tt)), tt, (λ e. refl), (λ e. absurd (cc e)))

pub reports_alike : (r s : Report) → Alike (report_tree r) (report_tree s)
unfolding report_tree Rattle.oer_spec.specs.Same.Alike
reports_alike r s = (refl, refl, (let k = default_slots_alike boolean IsAny beq false default_is_known r.urgent s.urgent (λ e. tt) (λ e. tt) in (refl, refl, k.itself, k.other, k.own, k.both, (refl, options_alike r.number s.number, tt))), tt)

-- the table's rows
abbrev pub report_table : List Row
report_table = record { index = 0; tag = context 0; presence = presence.Default } ∷ record { index = 1; tag = context 1; presence = presence.Optional } ∷ []

-- the trees that each component may have
abbrev pub report_parts : Parts
report_parts = DefaultPart (context 0) (boolean false) (Admits boolean IsAny) (OptionalPart (context 1) WholePart NoParts)

pub report_made : (r : Report) → IsAny r → AreOf report_parts (report_rows r) × AreOf NoParts NoRows
report_made r i = ((refl, refl, default_slot_admitted boolean IsAny beq false default_is_known r.urgent (λ e. tt), default_slot_differs boolean IsAny beq false default_is_known r.urgent (λ e. tt), (refl, option_admitted r.number, tt)), tt)
