use Rattle.std.proofs.Common.{◌≡◌, false, take}
use Rattle.oer_write.specs.Lists.{PromiseAt, AppendedSoFar}
use Rattle.oer_write.specs.Written.{Keeps}
use Rattle.oer_write.proofs.lists.put_elements.Given as goal

abbrev pub invariant-loop-x : goal.invariant-loop-x
invariant-loop-x g l = record {
  shut : l.encoder.frame.is_open ≡ false;
  keeps : Keeps l.initial.encoder l.encoder;
  so_far : AppendedSoFar (PromiseAt g.F.Fn l.f) (take l.x-index l.elements) l.initial.encoder.octets l.encoder.octets l.empty_count;
}
