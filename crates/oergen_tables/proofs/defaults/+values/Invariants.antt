use Rattle.std.proofs.Common.{◌+◌, ◌*◌}
use Rattle.oergen_tables.proofs.defaults.+values.Given as goal

abbrev pub decreases-json_of_parts : goal.decreases-json_of_parts
decreases-json_of_parts l = 3 * l.levels + 3

abbrev pub decreases-json_of : goal.decreases-json_of
decreases-json_of l = 3 * l.levels + 2

abbrev pub decreases-json_of_structure : goal.decreases-json_of_structure
decreases-json_of_structure l = 3 * l.levels + 1
