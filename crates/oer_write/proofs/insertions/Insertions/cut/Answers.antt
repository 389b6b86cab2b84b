use Rattle.std.proofs.Common.{◌≡◌, map, ap, sym, ◌∙◌, take, drop, length, subst, arith, List}
use Rattle.std.proofs.lemmas.List.{take-map}
use Rattle.oer_write.specs.Layout.{Piece, total}
use Rattle.oer_write.specs.Inserted.{AreThere, counts, piece}
use Rattle.oer_write.proofs.Stored.{behind_counts, counts_cut, there_take}
use Rattle.oer_write.proofs.insertions.Insertions.cut.Goals as goal

pub overflow_sub-self : goal.overflow_sub-self
overflow_sub-self c =
    let i = c.self.inside in
    let t = counts_cut c.args.count i.slots in
    let k = c.self.invariant.size in
    let b = behind_counts i.long c.args.count i.slots c.self.invariant.there in
    let v = ap (λ (ps : List Piece). total (drop c.args.count ps)) c.self.view_is in
    let e = c.size_behind-dropped.ensures in
    omega (arith, t, k, b, v, e)

pub invariant_of-self : goal.invariant_of-self
invariant_of-self c =
    let i = c.self.inside in
    let t = counts_cut c.args.count i.slots in
    let k = c.self.invariant.size in
    let b = behind_counts i.long c.args.count i.slots c.self.invariant.there in
    let v = ap (λ (ps : List Piece). total (drop c.args.count ps)) c.self.view_is in
    let e = c.size_behind-dropped.ensures in
    let n : counts c.truncate.new.self ≡ counts (take c.args.count i.slots) = ap counts c.truncate.ensures in
    record {
      size = omega (arith, t, k, b, v, e, n);
      there = subst (AreThere (length i.long)) (sym c.truncate.ensures) (there_take (length i.long) c.args.count i.slots c.self.invariant.there);
    }

pub returns : goal.returns
returns c =
    let i = c.self.inside in
    ap (map (piece i.long)) c.truncate.ensures ∙ sym (take-map (piece i.long) c.args.count i.slots) ∙ ap (λ (ps : List Piece). take c.args.count ps) c.self.view_is
