use Rattle.std.proofs.Common.{◌≡◌, take}
use Rattle.oer_write.specs.Lists.{ByLaw, AppendedSoFar}
use Rattle.oer_write.specs.Written.{Keeps}
use Rattle.oer_write.proofs.lists.put_values.Given as goal

abbrev pub invariant-loop-x : goal.invariant-loop-x
invariant-loop-x g l = record {
  keeps : Keeps l.initial.encoder l.encoder;
  left : l.encoder ≡ record l.initial.encoder { octets = l.encoder.octets };
  so_far : AppendedSoFar (ByLaw (g.E.Spelled.tree g.E.AsnType.CONSTRAINTS) g.E.Spelled.IsValue) (take l.x-index l.elements) l.initial.encoder.octets l.encoder.octets l.empty_count;
}
