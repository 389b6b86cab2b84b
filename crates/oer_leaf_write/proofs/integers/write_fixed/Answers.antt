use Rattle.std.specs.Prelude.{FitsSigned}
use Rattle.std.specs.Int.{w128}
use Rattle.std.proofs.lemmas.Int.{to_z-of_z}
use Rattle.oer_spec.proofs.Digits.{fixed_written}
use Rattle.oer_leaf_write.proofs.integers.write_fixed.Goals as goal

pub returns : goal.returns
returns c =
    let fits : FitsSigned w128 c.args.n = c.ranges.n in
    let bytes = simp to_z-of_z at c.to_be_bytes-all.ensures in
    fixed_written c.args.octets c.args.n c.to_be_bytes-all.result c.split_at.result.1.now c.args.out.now.items c.extend_from_slice.new.self.items fits c.requires bytes c.split_at.ensures.back c.in_ok-extend_from_slice.ensures.items
