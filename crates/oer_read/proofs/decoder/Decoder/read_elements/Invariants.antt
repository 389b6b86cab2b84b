use Rattle.std.proofs.Common.{◌≡◌, ◌≤◌, length}
use Rattle.oer_read.specs.Lists.{lent_element, RanEach, FnReturnsAtMut}
use Rattle.oer_read.proofs.decoder.Decoder.read_elements.Given as goal

abbrev pub invariant-loop-i : goal.invariant-loop-i
invariant-loop-i g l = record {
  counted : length l.items.items ≡ l.i;
  lends : l.lent ≡ lent_element l.fn.self l.lent.input;
  ran : RanEach (FnReturnsAtMut g.F.Fn l.fn.f) l.fn.self l.fn.start 0 l.items.items l.lent.input l.empties;
  few : l.empties ≤ 65536;
}
