use Rattle.std.proofs.Common.{ap, sym, ◌∙◌}
use Rattle.oer_write.specs.Layout.{total}
use Rattle.oer_write.proofs.Stored.{total_counts}
use Rattle.oer_write.proofs.insertions.Insertions.inserted.Goals as goal

pub returns : goal.returns
returns c =
    let i = c.self.inside in
    c.self.invariant.size ∙ sym (total_counts i.long i.slots c.self.invariant.there) ∙ ap total c.self.view_is
