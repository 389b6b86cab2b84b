use Rattle.std.proofs.Common.{◌++◌, ap, ◌∙◌}
use Rattle.std.specs.Prelude.{FitsSigned}
use Rattle.std.specs.Int.{w16}
use Rattle.std.proofs.lemmas.Int.{to_z-of_z}
use Rattle.oer_leaf_write.proofs.WriteNumbers.{short_one, short_two, IsWide, above, below}
use Rattle.oer_leaf_write.proofs.integers.write_short.Goals as goal
use Rattle.oer_leaf_write.proofs.integers.write_short.Goals.{else-n-via-then-n+else-n-2, else-n-via-else-n}

pub returns-then-n-2 : goal.returns-then-n-2
returns-then-n-2 c =
    let fits : FitsSigned w16 c.args.n = c.ranges.n in
    let octets = simp to_z-of_z at c.to_be_bytes.ensures in
    let low = simp to_z-of_z at c.if-n.true in
    let high = simp to_z-of_z at c.if-n-2.true in
    c.in_ok-push_two.ensures.done ∙ ap (λ o. c.args.out.now.items ++ o) (short_one c.args.n c.to_be_bytes.result fits octets low high)

pub returns : goal.returns
returns c =
    let fits : FitsSigned w16 c.args.n = c.ranges.n in
    let octets = simp to_z-of_z at c.to_be_bytes.ensures in
    let wide : IsWide c.args.n = elim c.else-n.branch [
      | else-n-via-then-n+else-n-2 w ↦ above (simp to_z-of_z at w.if-n-2.false)
      | else-n-via-else-n w ↦ below (simp to_z-of_z at w.if-n.false)
    ] in
    c.in_ok-push_three.ensures.done ∙ ap (λ o. c.args.out.now.items ++ o) (short_two c.args.n c.to_be_bytes.result fits octets wide)
