use Rattle.std.proofs.Common.{◌≡◌, ◌+◌, length, ap, ◌∙◌, rules, arith}
use Rattle.oer_write.specs.Layout.{total}
use Rattle.oer_write.specs.Held.{length_within}
use Rattle.oer_write.specs.Written.{Written}
use Rattle.oer_write.proofs.Holding.{all_written}
use Rattle.oer_write.proofs.encoder.Encoder.written.Goals as goal

pub returns : goal.returns
returns c =
    let n : c.len.result ≡ length c.self.inside.output.now.items = search rules in
    let i = c.inserted.ensures in
    let w = all_written c.self.inside.scope c.self.inside.is_lent c.self.inside.is_inside c.self.inside.output.now.items c.self.inside.insertions c.self.invariant in
    let a : c.len.result + c.inserted.result ≡ length c.self.inside.output.now.items + total c.self.inside.insertions = omega (arith, n, i) in
    a ∙ w ∙ ap (λ (z : Written). length z.octets + length_within z.frame) c.self.view_is
