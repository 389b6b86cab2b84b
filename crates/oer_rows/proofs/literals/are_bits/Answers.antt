use Rattle.std.proofs.Common.{eqb, ap, ◌∙◌, sym}
use Rattle.std.specs.Cmp.Lexicographic.{pointwise}
use Rattle.oer_rows.proofs.LiteralBits.{compared}
use Rattle.oer_rows.proofs.literals.are_bits.Goals as goal

pub returns-then-len-count : goal.returns-then-len-count
returns-then-len-count c =
    c.eq.ensures ∙ ap (λ l. pointwise eqb l c.args.octets.now) c.as_octets.ensures ∙ compared c.args.value.now c.args.octets.now c.args.count c.requires (sym c.len.ensures ∙ c.if-len-count.true)
