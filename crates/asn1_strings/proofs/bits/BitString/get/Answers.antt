use Rattle.std.proofs.Common.{◌≡◌, ◌/◌, ◌%◌, ◌-◌, ◌^◌, ◌≤◌, get_or, Some, length, ap, ◌∙◌, arith}
use Rattle.std.specs.Prelude.{slice_get}
use Rattle.asn1_core.specs.Octets.{is_odd}
use Rattle.std.proofs.lemmas.List.{get_or_read}
use Rattle.asn1_strings.proofs.BitLists.{length-front, get_bit, slice_get-past}
use Rattle.asn1_strings.proofs.bits.BitString.get.Goals as goal

pub returns-then-index-self : goal.returns-then-index-self
returns-then-index-self c =
    let octets = c.self.inside.octets.items in
    let enough = c.self.invariant.enough in
    let read : c.index.result.now ≡ get_or octets (c.args.index / 8) 0 = get_or_read octets (c.args.index / 8) _ (omega arith) c.index.ensures 0 in
    ap (λ x. Some (is_odd (x / 2 ^ (7 - c.args.index % 8)))) read ∙ get_bit octets c.self.inside.bits c.args.index enough c.if-index-self.true ∙ ap (λ l. slice_get l c.args.index) c.self.view_is

pub returns-else-index-self : goal.returns-else-index-self
returns-else-index-self c =
    let count = length-front c.self.inside.octets.items c.self.inside.bits c.self.invariant.enough in
    let past : length c.args.self.now ≤ c.args.index = omega (arith, count, ap length c.self.view_is) in
    slice_get-past c.args.self.now c.args.index past
