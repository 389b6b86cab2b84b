use Rattle.std.proofs.Common.{drop, ap, sym, ◌∙◌, List}
use Rattle.oer_write.specs.Layout.{Piece, total}
use Rattle.oer_write.specs.Inserted.{counts}
use Rattle.oer_write.specs.declared.slots.Insertion.{Insertion}
use Rattle.oer_write.proofs.Stored.{behind_counts}
use Rattle.oer_write.proofs.insertions.Insertions.size_behind.Goals as goal

pub returns : goal.returns
returns c =
    let i = c.self.inside in
    c.size_behind.ensures ∙ ap (λ (xs : List Insertion). counts (drop c.args.count xs)) c.as_slice.ensures ∙ sym (behind_counts i.long c.args.count i.slots c.self.invariant.there) ∙ ap (λ (ps : List Piece). total (drop c.args.count ps)) c.self.view_is
