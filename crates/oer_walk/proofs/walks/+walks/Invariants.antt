use Rattle.std.proofs.Common.{◌+◌, ◌-◌, ◌*◌, false, length}
use Rattle.oer_leaf_read.specs.Views.{bits_left}
use Rattle.oer_walk.specs.Tables.{nothing}
use Rattle.oer_walk.specs.Walks.{Resumes, components_by, elements_by, known_by, unknown_by, part_at, inside}
use Rattle.oer_walk.proofs.walks.+walks.Given as goal

abbrev pub decreases-walk_part : goal.decreases-walk_part
decreases-walk_part l = 16 * l.levels + 4

abbrev pub decreases-walk_within : goal.decreases-walk_within
decreases-walk_within l = 16 * l.levels + 3

abbrev pub decreases-walk_open : goal.decreases-walk_open
decreases-walk_open l = 16 * l.levels + 2

abbrev pub decreases-walk_value : goal.decreases-walk_value
decreases-walk_value l = 16 * l.levels + 1

abbrev pub decreases-walk_scope : goal.decreases-walk_scope
decreases-walk_scope l = 16 * l.levels + 12

abbrev pub decreases-walk_list : goal.decreases-walk_list
decreases-walk_list l = 16 * l.levels + 11

abbrev pub decreases-walk_choice : goal.decreases-walk_choice
decreases-walk_choice l = 16 * l.levels + 11

abbrev pub decreases-walk_sequence : goal.decreases-walk_sequence
decreases-walk_sequence l = 16 * l.levels + 11

abbrev pub decreases-walk_body : goal.decreases-walk_body
decreases-walk_body l = 16 * l.levels + 10

abbrev pub decreases-walk_additions : goal.decreases-walk_additions
decreases-walk_additions l = 16 * l.levels + 9

abbrev pub decreases-walk_known : goal.decreases-walk_known
decreases-walk_known l = 16 * l.levels + 8

abbrev pub decreases-walk_elements : goal.decreases-walk_elements
decreases-walk_elements l = 16 * l.levels + 8

abbrev pub decreases-walk_components : goal.decreases-walk_components
decreases-walk_components l = 16 * l.levels + 8

abbrev pub decreases-walk_unknown : goal.decreases-walk_unknown
decreases-walk_unknown l = 16 * l.levels + 7

abbrev pub decreases-walk_if : goal.decreases-walk_if
decreases-walk_if l = 16 * l.levels + 6

abbrev pub invariant-walk_components-loop-index : goal.invariant-walk_components-loop-index
invariant-walk_components-loop-index l = Resumes l.initial.count l.initial.room (components_by (part_at l.table.words.now l.levels) l.table.words.now l.parts l.scope l.parts.roots 0 (bits_left l.initial.bits) l.initial.count l.initial.rest) l.count l.room (components_by (part_at l.table.words.now l.levels) l.table.words.now l.parts l.scope (l.parts.roots - l.index) l.index (bits_left l.bits) l.count l.rest)

abbrev pub invariant-walk_elements-loop-index : goal.invariant-walk_elements-loop-index
invariant-walk_elements-loop-index l = Resumes l.initial.count l.initial.room (elements_by (part_at l.table.words.now l.levels) l.scope (inside l.scope l.element nothing false) l.quantity 0 l.initial.count l.initial.rest) l.count l.room (elements_by (part_at l.table.words.now l.levels) l.scope (inside l.scope l.element nothing false) (l.quantity - l._index) l.empty l.count l.rest)

abbrev pub invariant-walk_known-loop-index : goal.invariant-walk_known-loop-index
invariant-walk_known-loop-index l = Resumes l.initial.count l.initial.room (known_by (part_at l.table.words.now l.levels) l.table.words.now l.parts l.scope l.parts.additions 0 (bits_left l.initial.bits) l.initial.count l.initial.rest) l.count l.room (known_by (part_at l.table.words.now l.levels) l.table.words.now l.parts l.scope (l.parts.additions - l.index) l.index (bits_left l.bits) l.count l.rest)

abbrev pub invariant-walk_unknown-loop-bit : goal.invariant-walk_unknown-loop-bit
invariant-walk_unknown-loop-bit l = Resumes l.initial.count l.initial.room (unknown_by (part_at l.table.words.now l.levels) l.fn.scope (bits_left l.initial.bits) l.initial.count l.initial.rest) l.count l.room (unknown_by (part_at l.table.words.now l.levels) l.fn.scope (bits_left l.bits) l.count l.rest)

abbrev pub decreases-walk_unknown-loop-bit : goal.decreases-walk_unknown-loop-bit
decreases-walk_unknown-loop-bit l = length (bits_left l.bits)
