use Rattle.std.proofs.Common.{sym, ap, ◌∙◌}
use Rattle.asn1_core.specs.Bounds.{size_bounds, fixed_size}
use Rattle.oer_json.specs.Readings.{bits_in, size_in, sizes_of}
use Rattle.oer_spec.specs.Tree.{Bits}
use Rattle.oer_json.proofs.Readings.{bits_put, bits_refused}
use Rattle.oer_json.proofs.bits.put_bits.Goals as goal

pub returns-in-Ok : goal.returns-in-Ok
returns-in-Ok c =
    let s = sizes_of c.args.tables.now c.args.type_number in
    let bits = c.in_ok-bits.bits in
    bits_put (λ b. Bits s b) (fixed_size s) (bits_in c.args.json.now) bits (Bits (size_bounds c.in_ok-counted_constraint.field-0) bits) c.args.out.now.items c.write_bit_string.new.out.items
    (ap (λ z. fixed_size (size_in z)) (sym c.size_of-sizes.ensures) ∙ c.in_ok-counted_constraint.ensures.1) c.in_ok-bits.ensures
    (ap (λ z. Bits z bits) (c.in_ok-counted_constraint.ensures.0 ∙ ap size_in c.size_of-sizes.ensures)) c.in-Ok.ensures.0 c.in-Ok.ensures.1

pub returns : goal.returns
returns c =
    let s = sizes_of c.args.tables.now c.args.type_number in
    let bits = c.in_ok-bits.bits in
    bits_refused (λ b. Bits s b) (fixed_size s) (bits_in c.args.json.now) bits (Bits (size_bounds c.in_ok-counted_constraint.field-0) bits) c.in-Err.kind c.fault_of.result c.args.out.now.items c.write_bit_string.new.out.items
    (ap (λ z. fixed_size (size_in z)) (sym c.size_of-sizes.ensures) ∙ c.in_ok-counted_constraint.ensures.1) c.in_ok-bits.ensures
    (ap (λ z. Bits z bits) (c.in_ok-counted_constraint.ensures.0 ∙ ap size_in c.size_of-sizes.ensures)) c.fault_of.ensures c.in-Err.ensures.0
