use Rattle.std.proofs.Common.{List, ap, ◌∙◌, map}
use Rattle.std.specs.Cmp.Lexicographic.{slice_cmp}
use Rattle.std.specs.Ordering.{nat_cmp, is_lt}
use Rattle.std.specs.Borrow.{Bor}
use Rattle.asn1_core.specs.Octets.{Octets}
use Rattle.oer_write.specs.Unordered.{octets_in}
use Rattle.oer_write.proofs.Arranging.{arranged_is}
use Rattle.oer_spec.proofs.Sorted.{less_is}
use Rattle.oer_write.proofs.OctetOrder.{arranged_octets, by_octets, octet_order}
use Rattle.oer_write.proofs.unordered.arrange_octets.Goals as goal

pub returns-clause-done : goal.returns-clause-done
returns-clause-done c = ap (λ (vs : List (Bor Octets)). map octets_in vs) (arranged_is by_octets octet_order (λ a b. is_lt (slice_cmp nat_cmp a.now b.now)) (λ a b. less_is a.now b.now) _ _ c.in_ok-sort.ensures.sorted c.sort.ensures.stable) ∙ arranged_octets c.args.contents.now.items
