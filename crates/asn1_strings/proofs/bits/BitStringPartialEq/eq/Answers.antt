use Rattle.std.proofs.Common.{◌≡◌, take, sym, ap, ap₂, ◌∙◌, length}
use Rattle.std.proofs.Math.Bool.{beq}
use Rattle.std.specs.Cmp.Lexicographic.{pointwise}
use Rattle.asn1_core.specs.Octets.{bits_of, pack}
use Rattle.asn1_strings.proofs.BitLists.{length-front, same_bits, other_bits}
use Rattle.asn1_strings.proofs.bits.BitStringPartialEq.eq.Goals as goal

pub returns-then-self-other : goal.returns-then-self-other
returns-then-self-other c =
    let p = c.self.inside.octets.items in
    let q = c.other.inside.octets.items in
    let n = c.self.inside.bits in
    let other : q ≡ pack (take n (bits_of q)) = c.other.invariant.packed ∙ ap (λ k. pack (take k (bits_of q))) (sym c.if-self-other.true) in
    c.eq.ensures ∙ same_bits p q n c.self.invariant.packed other
    ∙ ap₂ (pointwise beq) c.self.view_is (ap (λ k. take k (bits_of q)) c.if-self-other.true ∙ c.other.view_is)

pub returns-else-self-other : goal.returns-else-self-other
returns-else-self-other c =
    let own = sym (ap length c.self.view_is) ∙ length-front c.self.inside.octets.items c.self.inside.bits c.self.invariant.enough in
    let other = sym (ap length c.other.view_is) ∙ length-front c.other.inside.octets.items c.other.inside.bits c.other.invariant.enough in
    other_bits c.self.inside.bits c.other.inside.bits c.args.self.now c.args.other.now own other c.if-self-other.false
