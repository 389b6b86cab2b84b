use Rattle.std.proofs.Common.{◌≡◌, ◌++◌, drop, map}
use Rattle.oer_spec.specs.Places.{bodies}
use Rattle.oer_spec.specs.Writing.{BeginsWith}
use Rattle.oer_write.specs.Kept.{item}
use Rattle.oer_write.proofs.sets.put_bodies.Given as goal

abbrev pub invariant-loop-component : goal.invariant-loop-component
invariant-loop-component l = record {
  rest : l.out.items ++ bodies (map (item l.octets) (drop l.component-index l.components)) ≡ l.initial.out.items ++ bodies (map (item l.octets) l.components);
  begins : BeginsWith l.initial.out.items l.out.items;
}
