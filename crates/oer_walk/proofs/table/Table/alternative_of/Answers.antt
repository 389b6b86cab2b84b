use Rattle.std.proofs.Common.{◌≡◌, ◌+◌, false, sym, ◌∙◌, arith}
use Rattle.oer_walk.specs.Tables.{alternative_at, is_of}
use Rattle.oer_walk.proofs.Tags.{alternative_later}
use Rattle.oer_walk.proofs.table.Table.alternative_of.Goals as goal

pub loop-index-preserved : goal.loop-index-preserved
loop-index-preserved c =
    let other : is_of (alternative_at c.args.self.words.now c.args.parts c.loop-index.index) c.args.tag ≡ false = cc (c.is_of.ensures, c.alternative.ensures, c.if-is_of.false) in
    sym (alternative_later c.args.self.words.now c.args.parts c.args.tag (c.args.parts.roots + c.args.parts.additions) c.loop-index.index (omega arith) other) ∙ c.loop-index.invariant
