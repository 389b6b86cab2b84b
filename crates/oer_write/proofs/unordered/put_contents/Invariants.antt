use Rattle.std.proofs.Common.{◌≡◌, ◌++◌, drop, map}
use Rattle.asn1_core.specs.Octets.{joined}
use Rattle.oer_spec.specs.Writing.{BeginsWith}
use Rattle.oer_write.specs.Unordered.{octets_in}
use Rattle.oer_write.proofs.unordered.put_contents.Given as goal

abbrev pub invariant-loop-content : goal.invariant-loop-content
invariant-loop-content l = record {
  rest : l.out.items ++ joined (map octets_in (drop l.content-index l.contents)) ≡ l.initial.out.items ++ joined (map octets_in l.contents);
  begins : BeginsWith l.initial.out.items l.out.items;
}
