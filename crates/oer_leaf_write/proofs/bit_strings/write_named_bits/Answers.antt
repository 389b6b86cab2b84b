use Rattle.std.proofs.Common.{◌≡◌, true, false, refl, ap, ◌∙◌}
use Rattle.std.specs.Option.{is_some}
use Rattle.asn1_core.specs.Bounds.{size_bounds, fixed_size}
use Rattle.asn1_core.specs.Octets.{pack}
use Rattle.oer_leaf_write.proofs.NamedBits.{octets_enough, fixed_appends, counted_appends}
use Rattle.oer_leaf_write.proofs.bit_strings.write_named_bits.Goals as goal

pub write_filled_up-requires-clause-enough : goal.write_filled_up-requires-clause-enough
write_filled_up-requires-clause-enough c =
    let packed = c.as_octets-octets.ensures ∙ ap pack c.as_bits.ensures.value in
    octets_enough (size_bounds c.args.constraints) c.args.value.now c.as_octets-octets.result.now c.in_ok-size.size c.octets_for.result packed c.in_ok-size.ensures.0 c.octets_for.ensures

pub returns-then-is_some-clause-done : goal.returns-then-is_some-clause-done
returns-then-is_some-clause-done c =
    let packed = c.as_octets-octets.ensures ∙ ap pack c.as_bits.ensures.value in
    let old = c.args.out.now.items in
    let fixed : is_some (fixed_size (size_bounds c.args.constraints)) ≡ true = cc in
    fixed_appends (size_bounds c.args.constraints) c.args.value.now c.as_octets-octets.result.now c.in_ok-size.size c.octets_for.result packed c.in_ok-size.ensures.0 c.octets_for.ensures
    c.write_filled_up.result old old c.write_filled_up.new.out.items c.in_ok-size.ensures.1 c.write_filled_up.ensures fixed refl

pub write_filled_up-requires-2-clause-enough : goal.write_filled_up-requires-2-clause-enough
write_filled_up-requires-2-clause-enough c =
    let packed = c.as_octets-octets.ensures ∙ ap pack c.as_bits.ensures.value in
    octets_enough (size_bounds c.args.constraints) c.args.value.now c.as_octets-octets.result.now c.in_ok-size.size c.octets_for-2.result packed c.in_ok-size.ensures.0 c.octets_for-2.ensures

pub returns-clause-done : goal.returns-clause-done
returns-clause-done c =
    let packed = c.as_octets-octets.ensures ∙ ap pack c.as_bits.ensures.value in
    let counted : is_some (fixed_size (size_bounds c.args.constraints)) ≡ false = cc in
    counted_appends (size_bounds c.args.constraints) c.args.value.now c.as_octets-octets.result.now c.in_ok-size.size c.octets_for-2.result packed c.in_ok-size.ensures.0 c.octets_for-2.ensures
    c.write_filled_up-2.result c.args.out.now.items c.write_bits_front.new.out.items c.write_filled_up-2.new.out.items c.in_ok-size.ensures.1 c.write_filled_up-2.ensures counted c.in_ok-write_bits_front.ensures
