use Rattle.std.proofs.Common.{◌+◌, ◌*◌}
use Rattle.oergen_parse.proofs.constraints.+sets.Given as goal

abbrev pub decreases-read_constraint : goal.decreases-read_constraint
decreases-read_constraint l = 5 * l.levels

abbrev pub decreases-read_set : goal.decreases-read_set
decreases-read_set l = 5 * l.levels + 3

abbrev pub decreases-read_intersection : goal.decreases-read_intersection
decreases-read_intersection l = 5 * l.levels + 2

abbrev pub decreases-read_operand : goal.decreases-read_operand
decreases-read_operand l = 5 * l.levels + 1

abbrev pub decreases-read_element : goal.decreases-read_element
decreases-read_element l = 5 * l.levels
