use Rattle.std.proofs.Common.{◌+◌, ◌*◌}
use Rattle.oergen_parse.proofs.types.+types.Given as goal

abbrev pub decreases-read_type : goal.decreases-read_type
decreases-read_type l = 6 * l.levels

abbrev pub decreases-read_body : goal.decreases-read_body
decreases-read_body l = 6 * l.levels + 5

abbrev pub decreases-read_structure : goal.decreases-read_structure
decreases-read_structure l = 6 * l.levels + 4

abbrev pub decreases-read_list : goal.decreases-read_list
decreases-read_list l = 6 * l.levels + 1

abbrev pub decreases-read_members : goal.decreases-read_members
decreases-read_members l = 6 * l.levels + 3

abbrev pub decreases-read_member : goal.decreases-read_member
decreases-read_member l = 6 * l.levels + 2

abbrev pub decreases-read_component : goal.decreases-read_component
decreases-read_component l = 6 * l.levels + 1
