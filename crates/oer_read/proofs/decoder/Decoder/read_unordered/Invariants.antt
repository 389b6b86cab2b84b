use Rattle.std.proofs.Common.{◌≡◌, List, length}
use Rattle.asn1_core.specs.Octets.{Octets}
use Rattle.oer_spec.specs.Encoding.{empties}
use Rattle.oer_read.specs.Lists.{lent_element, FnReturnsAtMut}
use Rattle.oer_read.specs.Unordered.{last_of, SoFar}
use Rattle.oer_read.proofs.decoder.Decoder.read_unordered.Given as goal

abbrev pub invariant-loop-i : goal.invariant-loop-i
invariant-loop-i g l =
    (elements : List Octets) × (length l.items.items ≡ l.i) × SoFar (FnReturnsAtMut g.F.Fn l.fn.f) l.fn.self l.fn.start l.items.items elements l.lent.input × (l.empties ≡ empties elements) × (l.last ≡ last_of elements) × (l.lent ≡ lent_element l.fn.self l.lent.input)
