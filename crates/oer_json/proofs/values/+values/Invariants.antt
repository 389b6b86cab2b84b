use Rattle.std.proofs.Common.{◌+◌, ◌*◌}
use Rattle.oer_json.proofs.values.+values.Given as goal

abbrev pub decreases-put_value : goal.decreases-put_value
decreases-put_value l = 16 * l.levels + 0

abbrev pub decreases-octets_at : goal.decreases-octets_at
decreases-octets_at l = 16 * l.levels + 1

abbrev pub decreases-elements_of : goal.decreases-elements_of
decreases-elements_of l = 16 * l.levels + 2

abbrev pub decreases-put_list : goal.decreases-put_list
decreases-put_list l = 16 * l.levels + 3

abbrev pub decreases-put_choice : goal.decreases-put_choice
decreases-put_choice l = 16 * l.levels + 3

abbrev pub decreases-is_default : goal.decreases-is_default
decreases-is_default l = 16 * l.levels + 2

abbrev pub decreases-component_of : goal.decreases-component_of
decreases-component_of l = 16 * l.levels + 3

abbrev pub decreases-roots_of : goal.decreases-roots_of
decreases-roots_of l = 16 * l.levels + 4

abbrev pub decreases-group_of : goal.decreases-group_of
decreases-group_of l = 16 * l.levels + 5

abbrev pub decreases-addition_of : goal.decreases-addition_of
decreases-addition_of l = 16 * l.levels + 6

abbrev pub decreases-additions_of : goal.decreases-additions_of
decreases-additions_of l = 16 * l.levels + 7

abbrev pub decreases-put_sequence : goal.decreases-put_sequence
decreases-put_sequence l = 16 * l.levels + 8
