use Rattle.std.proofs.Common.{◌≡◌, ◌++◌, ◌%◌, ◌+◌, ◌-◌, Bool, arith, rules, length, drop, refl, ap, sym, ◌∙◌, append-nil}
use Rattle.std.specs.Prelude.{slice_set}
use Rattle.std.proofs.lemmas.List.{length-drop, take-set}
use Rattle.std.proofs.lemmas.Result.{on_ok_weaker}
use Rattle.oer_spec.specs.Lengths.{length_octets}
use Rattle.oer_write.specs.Layout.{slots}
use Rattle.oer_write.proofs.Holding.{kept_added}
use Rattle.oer_write.proofs.Opened.{adds_retitled, adds_whole, kept_either, kept_longer, lengthened, slotted}
use Rattle.oer_write.proofs.opening.put_length.Goals as goal
use Rattle.oer_write.proofs.opening.put_length.Goals.{then-is_inside+in_ok-open, else-is_inside}

pub returns-in_err-octets-clause-kept : goal.returns-in_err-octets-clause-kept
returns-in_err-octets-clause-kept c = kept_added _ _ _ _ _ (adds_whole c.args.start c.args.out.now.items c.args.insertions.now c.args.insertions.now refl)

pub returns-in_err-open-clause-kept : goal.returns-in_err-open-clause-kept
returns-in_err-open-clause-kept c = kept_added _ _ _ _ _ (adds_whole c.args.start c.args.out.now.items c.args.insertions.now c.open.new.self c.in_err-open.ensures.refused.1)

with_slot : (c : goal.After-close_scope-arg-2-1) → c.if-is_inside.insertions ≡ c.args.insertions.now ++ slots c.args.is_inside c.args.start
with_slot c = elim c.if-is_inside.branch [
  | then-is_inside+in_ok-open w ↦ w.insertions-is ∙ w.in_ok-open.ensures.done ∙ ap (λ (b : Bool). c.args.insertions.now ++ slots b c.args.start) (sym w.if-is_inside.true)
  | else-is_inside w ↦ w.insertions-is ∙ sym (append-nil c.args.insertions.now) ∙ ap (λ (b : Bool). c.args.insertions.now ++ slots b c.args.start) (sym w.if-is_inside.false)
]

pub close_scope-requires-clause-adds : goal.close_scope-requires-clause-adds
close_scope-requires-clause-adds c =
    let o = slice_set c.args.out.now.items c.args.start (c.in_ok-octets.octets.number % 256) in
    let t = slotted c.len-slot.result c.args.insertions.now c.if-is_inside.insertions (slots c.args.is_inside c.args.start) c.len-slot.ensures (with_slot c) in
    (drop c.args.start o, adds_whole c.args.start o _ c.if-is_inside.insertions t.1)

slot_taken : (c : goal.After-close_scope) → c.if-is_inside.insertions ≡ c.args.insertions.now ++ slots c.args.is_inside c.args.start
slot_taken c = elim c.if-is_inside.branch [
  | then-is_inside+in_ok-open w ↦ w.insertions-is ∙ w.in_ok-open.ensures.done ∙ ap (λ (b : Bool). c.args.insertions.now ++ slots b c.args.start) (sym w.if-is_inside.true)
  | else-is_inside w ↦ w.insertions-is ∙ sym (append-nil c.args.insertions.now) ∙ ap (λ (b : Bool). c.args.insertions.now ++ slots b c.args.start) (sym w.if-is_inside.false)
]

pub returns-clause-done : goal.returns-clause-done
returns-clause-done c =
    let v = c.in_ok-octets.octets.number % 256 in
    let o = slice_set c.args.out.now.items c.args.start v in
    let t = slotted c.len-slot.result c.args.insertions.now c.if-is_inside.insertions (slots c.args.is_inside c.args.start) c.len-slot.ensures (slot_taken c) in
    let n : c.len.result ≡ length c.args.out.now.items = search rules in
    let size : c.len.result - c.args.start - 1 ≡ length (drop (c.args.start + 1) c.args.out.now.items) = omega (arith, n, length-drop (c.args.start + 1) c.args.out.now.items) in
    let e = lengthened c.args.start c.in_ok-octets.octets.octets c.in_ok-octets.octets.number c.args.out.now.items c.requires.start c.in_ok-octets.ensures.some (c.in_ok-octets.ensures.number ∙ ap length_octets size) in
    on_ok_weaker c.close_scope.result (λ h. adds_retitled _ _ _ _ _ _ _ _ e (take-set c.args.out.now.items c.args.start v) t.0 h) (c.close_scope.ensures.done (drop c.args.start o) (adds_whole c.args.start o _ c.if-is_inside.insertions t.1))

pub returns-clause-kept : goal.returns-clause-kept
returns-clause-kept c =
    let v = c.in_ok-octets.octets.number % 256 in
    let o = slice_set c.args.out.now.items c.args.start v in
    kept_either c.close_scope.result _ _ _ o _ _ c.if-is_inside.insertions (returns-clause-done c) c.close_scope.ensures.refused (kept_longer c.args.start c.args.out.now.items o c.args.insertions.now c.if-is_inside.insertions (slots c.args.is_inside c.args.start) (take-set c.args.out.now.items c.args.start v) (slot_taken c))
