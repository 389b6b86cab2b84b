use Rattle.std.proofs.Common.{◌≤◌, length, arith, ap, sym, ◌∙◌}
use Rattle.oer_write.proofs.Words.{length_all}
use Rattle.oer_write.proofs.Mapped.{mapped_is}
use Rattle.oer_write.proofs.bits.Bits.mapped.Goals as goal

pub returns-then-self-gt-MAPPED-clause-many : goal.returns-then-self-gt-MAPPED-clause-many
returns-then-self-gt-MAPPED-clause-many c = λ _.
    let i = c.self.inside in
    omega (arith, ap length c.self.view_is, length_all i.count i.word i.more.items, c.if-self-gt-MAPPED.true)

pub returns-clause-mapped : goal.returns-clause-mapped
returns-clause-mapped c =
    let i = c.self.inside in
    let a = c.aligned.ensures in
    let b = c.behind_count.ensures in
    let h : i.count ≤ 48 = omega arith in
    (omega (arith, b.octets, a.octets, h), b.number ∙ mapped_is i.count i.word c.aligned.result.octets c.aligned.result.number i.more.items c.args.self.now (sym c.self.view_is) (c.self.invariant.full (omega (arith, h))) h a.octets a.packed.same)
