use Rattle.std.proofs.Common.{◌≡◌, ◌+◌, ◌-◌, ◌<◌, ◌≤◌, length, drop, arith, ap, sym, ◌∙◌, inl, inr, get_or, ℕ, List}
use Rattle.std.proofs.lemmas.List.{drop_all}
use Rattle.oer_write.specs.Inserted.{counts}
use Rattle.oer_write.specs.declared.slots.Insertion.{Insertion}
use Rattle.oer_write.proofs.Stored.{counts_at, counts_cut}
use Rattle.oer_write.proofs.passes.size_behind.Goals as goal

step : (xs : List Insertion) (left size : ℕ) (d : Insertion) → 0 < left → left ≤ length xs → size ≡ counts (drop left xs) → size + (get_or xs (left - 1) d).count ≡ counts (drop (left - 1) xs)
step xs left size d h w s =
    let g : (left - 1) + 1 ≡ left = omega arith in
    let r = counts_at xs (left - 1) d (omega arith) in
    let t : counts (drop ((left - 1) + 1) xs) ≡ counts (drop left xs) = ap (λ (m : ℕ). counts (drop m xs)) g in
    omega (arith, r, t, s)

pub overflow_add-size : goal.overflow_add-size
overflow_add-size c =
    let n = step c.args.insertions.now c.loop-left.left c.loop-left.size (record { place = 0; count = 0; number = 0 }) (omega arith) c.loop-left.invariant.within c.loop-left.invariant.size in
    let t = counts_cut (c.loop-left.left - 1) c.args.insertions.now in
    let b = c.requires in
    omega (arith, n, t, b)

pub loop-left-preserved : goal.loop-left-preserved
loop-left-preserved c =
    let n = step c.args.insertions.now c.loop-left.left c.loop-left.size (record { place = 0; count = 0; number = 0 }) (omega arith) c.loop-left.invariant.within c.loop-left.invariant.size in
    record { least = inl (omega arith); within = (let k = c.loop-left.invariant.within in omega (arith, k)); size = n }

pub returns : goal.returns
returns c =
    let s = c.loop-left.invariant.size in
    let k = c.loop-left.invariant.within in
    let f = c.loop-left-test.false in
    elim c.loop-left.invariant.least [
      | inl h ↦ s ∙ ap (λ (m : ℕ). counts (drop m c.args.insertions.now)) (omega (arith, h, f))
      | inr h ↦ s ∙ ap counts (drop_all c.loop-left.left c.args.insertions.now (omega (arith, h)) ∙ sym (drop_all c.args.count c.args.insertions.now (omega (arith, h, f))))
    ]
