use Rattle.std.proofs.Common.{◌≡◌, [], length, take}
use Rattle.std.specs.Prelude.{sum}
use Rattle.oer_write.specs.Unordered.{parts, Gathered}
use Rattle.oer_write.proofs.unordered.contents_of.Given as goal

abbrev pub invariant-loop-x : goal.invariant-loop-x
invariant-loop-x g l = record {
  gathered : Gathered (g.E.Spelled.tree g.E.AsnType.CONSTRAINTS) g.E.Spelled.IsValue (take (length l.yielded) l.elements) (parts l.sizes.items l.octets.items) l.empty_count;
  whole : sum l.sizes.items ≡ length l.octets.items;
  none : l.insertions ≡ [];
}
