use Rattle.std.proofs.Common.{sym, ap, ap₂, ◌∙◌}
use Rattle.asn1_core.specs.Bounds.{size_bounds, fixed_size}
use Rattle.asn1_strings.specs.NamedBits.{without_zeros}
use Rattle.oer_json.specs.Readings.{bits_in, size_in, sizes_of}
use Rattle.oer_spec.specs.Tree.{Named}
use Rattle.oer_json.proofs.Readings.{bits_put, bits_refused}
use Rattle.oer_json.proofs.bits.put_named_bits.Goals as goal

pub returns-in-Ok : goal.returns-in-Ok
returns-in-Ok c =
    let s = sizes_of c.args.tables.now c.args.type_number in
    bits_put (λ b. Named s (without_zeros b)) (fixed_size s) (bits_in c.args.json.now) c.in_ok-bits_in.field-0 (Named (size_bounds c.in_ok-counted_constraint.field-0) c.new-bits.result) c.args.out.now.items c.write_named_bits.new.out.items
    (ap (λ z. fixed_size (size_in z)) (sym c.size_of-sizes.ensures) ∙ c.in_ok-counted_constraint.ensures.1) c.in_ok-bits_in.ensures
    (ap₂ Named (c.in_ok-counted_constraint.ensures.0 ∙ ap size_in c.size_of-sizes.ensures) c.new-bits.ensures) c.in-Ok.ensures.done.0 c.in-Ok.ensures.done.1

pub returns : goal.returns
returns c =
    let s = sizes_of c.args.tables.now c.args.type_number in
    bits_refused (λ b. Named s (without_zeros b)) (fixed_size s) (bits_in c.args.json.now) c.in_ok-bits_in.field-0 (Named (size_bounds c.in_ok-counted_constraint.field-0) c.new-bits.result) c.in-Err.kind c.fault_of.result c.args.out.now.items c.write_named_bits.new.out.items
    (ap (λ z. fixed_size (size_in z)) (sym c.size_of-sizes.ensures) ∙ c.in_ok-counted_constraint.ensures.1) c.in_ok-bits_in.ensures
    (ap₂ Named (c.in_ok-counted_constraint.ensures.0 ∙ ap size_in c.size_of-sizes.ensures) c.new-bits.ensures) c.fault_of.ensures c.in-Err.ensures.done.0
