use Rattle.std.proofs.Common.{◌+◌, ◌*◌}
use Rattle.oergen_layouts.proofs.visible.+seen.Given as goal

abbrev pub decreases-see_type : goal.decreases-see_type
decreases-see_type l = 7 * l.levels + 6

abbrev pub decreases-see_chain : goal.decreases-see_chain
decreases-see_chain l = 7 * l.levels + 5

abbrev pub decreases-see_constraints : goal.decreases-see_constraints
decreases-see_constraints l = 7 * l.levels + 4

abbrev pub decreases-see_constraint : goal.decreases-see_constraint
decreases-see_constraint l = 7 * l.levels + 3

abbrev pub decreases-see_set : goal.decreases-see_set
decreases-see_set l = 7 * l.levels + 2

abbrev pub decreases-see_intersection : goal.decreases-see_intersection
decreases-see_intersection l = 7 * l.levels + 1

abbrev pub decreases-see_element : goal.decreases-see_element
decreases-see_element l = 7 * l.levels
