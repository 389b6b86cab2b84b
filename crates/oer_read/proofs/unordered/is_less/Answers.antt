use Rattle.std.proofs.Common.{◌∙◌, ap}
use Rattle.std.specs.Ordering.{is_lt}
use Rattle.oer_spec.proofs.Sorted.{less_is}
use Rattle.oer_read.proofs.unordered.is_less.Goals as goal

pub returns : goal.returns
returns c = c.is_lt.ensures ∙ ap is_lt c.cmp.ensures ∙ less_is c.args.others.now c.args.octets.now
