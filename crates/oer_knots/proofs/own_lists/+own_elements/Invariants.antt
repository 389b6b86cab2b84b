use Rattle.std.proofs.Common.{◌≡◌, ◌≤◌, ◌+◌, ◌*◌, ◌-◌, length}
use Rattle.oer_read.specs.Lists.{lent_element, RanEach}
use Rattle.oer_read.specs.State.{apart}
use Rattle.oer_knots.specs.OwnLists.{OwnElement}
use Rattle.oer_knots.proofs.ListsOfOne.{ReadWithin}
use Rattle.oer_knots.proofs.own_lists.+own_elements.Given as goal

abbrev pub decreases-read_own : goal.decreases-read_own
decreases-read_own g l = 2 * l.list.now.levels

abbrev pub decreases-push_element : goal.decreases-push_element
decreases-push_element g l = 2 * l.levels + 1

abbrev pub invariant-read_own-loop-i : goal.invariant-read_own-loop-i
invariant-read_own-loop-i g l = record {
  counted : length l.own.items ≡ l.i;
  lends : l.lent ≡ lent_element l.fn.list l.lent.input;
  ran : RanEach (OwnElement (g.B.Spelled.tree g.B.AsnType.CONSTRAINTS) g.B.Spelled.IsValue g.B.Knot.content g.K.Knot.content l.fn.list.levels) l.fn.list l.initial.lent.input 0 l.own.items l.lent.input 0;
  within : length l.lent.input ≤ length l.initial.lent.input;
}

abbrev pub invariant-push_element-loop-i : goal.invariant-push_element-loop-i
invariant-push_element-loop-i g l = record {
  read : ReadWithin (g.B.Spelled.tree g.B.AsnType.CONSTRAINTS) g.B.Spelled.IsValue g.B.Knot.content g.K.Knot.content (apart l.fn.codec l.fn.levels l.fn.input) (l.around - l.i) l.own.items l.rest;
}
