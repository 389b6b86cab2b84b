use Rattle.std.proofs.Common.{◌+◌, ◌*◌}
use Rattle.oergen_print.proofs.+defaults.Given as goal

abbrev pub decreases-defaults::push_default : goal.decreases-defaults::push_default
decreases-defaults::push_default l = 8 * l.wish.levels + 5

abbrev pub decreases-default_parts::push_parts : goal.decreases-default_parts::push_parts
decreases-default_parts::push_parts l = 8 * l.wish.levels + 4

abbrev pub decreases-default_parts::push_components : goal.decreases-default_parts::push_components
decreases-default_parts::push_components l = 8 * l.wish.levels + 3

abbrev pub decreases-default_parts::push_alternative : goal.decreases-default_parts::push_alternative
decreases-default_parts::push_alternative l = 8 * l.wish.levels + 3

abbrev pub decreases-default_parts::push_fields : goal.decreases-default_parts::push_fields
decreases-default_parts::push_fields l = 8 * l.wish.levels + 2

abbrev pub decreases-default_parts::push_part : goal.decreases-default_parts::push_part
decreases-default_parts::push_part l = 8 * l.wish.levels + 1
