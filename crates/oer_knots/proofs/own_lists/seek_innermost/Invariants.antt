use Rattle.std.proofs.Common.{◌≤◌, ◌-◌, length}
use Rattle.oer_read.specs.State.{apart}
use Rattle.oer_knots.specs.OwnLists.{LiesWithin}
use Rattle.oer_knots.proofs.own_lists.seek_innermost.Given as goal

abbrev pub invariant-loop-around : goal.invariant-loop-around
invariant-loop-around l = record {
  within : LiesWithin (apart l.fn.codec l.fn.levels l.fn.input) l.around (apart l.fn.codec (l.fn.levels - l.around) l.inner);
  takes : length l.inner ≤ length l.fn.input;
}
