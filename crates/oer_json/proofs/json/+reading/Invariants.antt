use Rattle.std.proofs.Common.{◌+◌, ◌*◌}
use Rattle.oer_json.proofs.json.+reading.Given as goal

abbrev pub decreases-read_value : goal.decreases-read_value
decreases-read_value g l = 2 * l.depth

abbrev pub decreases-read_list : goal.decreases-read_list
decreases-read_list g l = 2 * l.depth + 1

abbrev pub decreases-read_members : goal.decreases-read_members
decreases-read_members g l = 2 * l.depth + 1
