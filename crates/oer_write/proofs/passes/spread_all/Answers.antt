use Rattle.std.proofs.Common.{◌≡◌, ◌≤◌, ◌++◌, length, take, drop, map, arith, ap, sym, ◌∙◌, subst, rules, ℕ, List}
use Rattle.asn1_core.specs.Octets.{Octets}
use Rattle.oer_write.specs.Inserted.{Passed, piece}
use Rattle.oer_write.specs.Layout.{Piece, Ascends}
use Rattle.oer_write.proofs.Passing.{grown_whole, grown_base}
use Rattle.oer_write.proofs.Stored.{total_counts}
use Rattle.oer_write.proofs.passes.spread_all.Goals as goal

pub spread_out-requires-clause-full : goal.spread_out-requires-clause-full
spread_out-requires-clause-full c =
    let t = total_counts c.args.long.now c.args.insertions.now c.requires.there in
    let k = c.requires.counted in
    let a = c.in-Some.ensures.1 in
    let b = c.in-Some-checked_add.ensures.1 in
    let l = c.as_mut_slice.ensures.len in
    let n = c.in_ok-resize.ensures.len in
    omega (arith, t, k, a, b, l, n)

pub spread_out-requires-clause-ascends : goal.spread_out-requires-clause-ascends
spread_out-requires-clause-ascends c =
    let w : c.len-written.result ≡ length c.args.output.now.items = search rules in
    (c.requires.ascends.0, subst (λ (n : ℕ). Ascends c.requires.ascends.0 (map (piece c.args.long.now) c.args.insertions.now) n) (sym w) c.requires.ascends.1)

pub returns-clause-done : goal.returns-clause-done
returns-clause-done c = λ start a.
    let old : Octets = c.args.output.now.items in
    let ps : List Piece = map (piece c.args.long.now) c.args.insertions.now in
    let w : c.len-written.result ≡ length old = search rules in
    let f : length old ≤ c.in-Some-checked_add.full = (let e = c.in-Some-checked_add.ensures.1 in omega (arith, w, e)) in
    let v : c.as_mut_slice.result.now ≡ c.resize.new.self.items = c.as_mut_slice.ensures.value in
    let p = c.spread_out.ensures.passed start (subst (λ (n : ℕ). Ascends start ps n) (sym w) a) in
    let b : take c.len-written.result c.as_mut_slice.result.now ≡ old = grown_base c.len-written.result c.in-Some-checked_add.full old _ c.as_mut_slice.result.now c.resize.new.self.items v c.in_ok-resize.ensures.items f w in
    let new : Octets = c.spread_out.new.output in
    let n : c.resize.new.self.len ≡ length c.resize.new.self.items = search rules in
    let e : take c.resize.new.self.len (new ++ drop (length new) c.resize.new.self.items) ≡ new = grown_whole c.resize.new.self.len new c.resize.new.self.items (p.full ∙ ap length v) n in
    subst (λ (o : Octets). Passed start old o ps c.args.more 0 c.spread_out.result.0 c.spread_out.result.1 (length o)) (sym e)
    (subst (λ (m : ℕ). Passed start old new ps c.args.more 0 c.spread_out.result.0 c.spread_out.result.1 m) (sym p.full)
    (subst (λ (o : Octets). Passed start o new ps c.args.more 0 c.spread_out.result.0 c.spread_out.result.1 (length c.as_mut_slice.result.now)) b p))
