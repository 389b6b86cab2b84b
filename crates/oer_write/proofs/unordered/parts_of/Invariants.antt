use Rattle.std.proofs.Common.{◌≡◌, ◌++◌, drop, map}
use Rattle.oer_write.specs.Unordered.{octets_in, parts}
use Rattle.oer_write.proofs.unordered.parts_of.Given as goal

abbrev pub invariant-loop-size : goal.invariant-loop-size
invariant-loop-size l = map octets_in l.contents.items ++ parts (drop l.size-index l.sizes) l.rest ≡ parts l.sizes l.octets
