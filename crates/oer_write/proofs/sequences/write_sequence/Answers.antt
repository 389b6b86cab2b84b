use Rattle.std.proofs.Common.{◌≡◌, ◌++◌, Ok, false, length, refl, ap, sym, ◌∙◌, subst, rules}
use Rattle.std.specs.Prelude.{OnOk, IfOk}
use Rattle.oer_write.specs.Preambles.{IsSized, preamble_octets}
use Rattle.asn1_core.specs.Octets.{Octets, pack}
use Rattle.oer_spec.specs.Places.{extension_bit}
use Rattle.oer_write.specs.Held.{Holds}
use Rattle.oer_write.specs.Layout.{Adds, slots}
use Rattle.oer_write.specs.Scopes.{Promise, any_true, extension_of}
use Rattle.oer_write.specs.Written.{Written, append, fresh}
use Rattle.oer_write.proofs.Closing.{opened_new}
use Rattle.oer_write.proofs.Nesting.{kept_same, kept_less, kept_alike, opened_adds, opened_kept, taken_adds, taken_long, taken_ascends}
use Rattle.oer_write.proofs.Holding.{kept_added}
use Rattle.oer_write.proofs.sequences.write_sequence.Goals as goal

pub returns-in_err-open_scope-clause-kept : goal.returns-in_err-open_scope-clause-kept
returns-in_err-open_scope-clause-kept g c =
    kept_same c.args.output.now.items c.open_scope.new.output.items c.args.insertions.now c.open_scope.new.insertions c.in_err-open_scope.ensures.unchanged c.in_err-open_scope.ensures.refused.1

pub lend-answer-requires-clause-orderly : goal.lend-answer-requires-clause-orderly
lend-answer-requires-clause-orderly g c = λ r left p. c.requires.orderly _ left r (opened_new _ _ _ _ _ c.open-inner.ensures) p

pub returns-in_err-answer-clause-kept : goal.returns-in_err-answer-clause-kept
returns-in_err-answer-clause-kept g c =
    let q : c.replace-pieces.result ≡ c.args.insertions.now ++ slots c.args.is_inside (length c.args.output.now.items) = search rules in
    kept_less _ _ _ _ _ (opened_kept c.args.extensible false c.open-inner.result c.open_scope.new.output.items c.args.output.now.items c.replace-pieces.result (c.args.insertions.now ++ slots c.args.is_inside (length c.args.output.now.items)) c.open-inner.ensures c.in_ok-open_scope.ensures.unchanged q (taken_ascends c.args.is_inside c.args.output.now.items c.open_scope.new.output.items c.args.insertions.now c.replace-pieces.result c.requires.ascends c.in_ok-open_scope.ensures.unchanged q)
    c.close_sequence-octets.result.2 c.lend-answer.new.encoder (extension_of c.lend-answer.new.encoder.frame.bitmap c.lend-answer.new.encoder.frame.opens) c.close_sequence-octets.result.0.items c.close_sequence-octets.result.1 c.lend-answer.ensures.keeps c.close_sequence-octets.ensures.done c.close_sequence-octets.ensures.refused)

pub returns-in_err-preamble-clause-kept : goal.returns-in_err-preamble-clause-kept
returns-in_err-preamble-clause-kept g c =
    let q : c.replace-pieces.result ≡ c.args.insertions.now ++ slots c.args.is_inside (length c.args.output.now.items) = search rules in
    kept_less _ _ _ _ _ (opened_kept c.args.extensible false c.open-inner.result c.open_scope.new.output.items c.args.output.now.items c.replace-pieces.result (c.args.insertions.now ++ slots c.args.is_inside (length c.args.output.now.items)) c.open-inner.ensures c.in_ok-open_scope.ensures.unchanged q (taken_ascends c.args.is_inside c.args.output.now.items c.open_scope.new.output.items c.args.insertions.now c.replace-pieces.result c.requires.ascends c.in_ok-open_scope.ensures.unchanged q)
    c.close_sequence-octets.result.2 c.lend-answer.new.encoder (extension_of c.lend-answer.new.encoder.frame.bitmap c.lend-answer.new.encoder.frame.opens) c.close_sequence-octets.result.0.items c.close_sequence-octets.result.1 c.lend-answer.ensures.keeps c.close_sequence-octets.ensures.done c.close_sequence-octets.ensures.refused)

pub close_by-requires-clause-sized : goal.close_by-requires-clause-sized
close_by-requires-clause-sized g c =
    let closed : c.close_sequence-octets.result.2 ≡ Ok c.in_ok-preamble.preamble = search rules in
    (subst (λ r. IfOk r (λ p. IsSized p × (preamble_octets p ≡ pack (extension_bit c.lend-answer.new.encoder.frame.extensible (any_true c.lend-answer.new.encoder.frame.bitmap) ++ c.lend-answer.new.encoder.frame.presence)))) closed c.close_sequence-octets.ensures.preamble).0

pub close_by-requires-clause-start : goal.close_by-requires-clause-start
close_by-requires-clause-start g c =
    let q : c.replace-pieces.result ≡ c.args.insertions.now ++ slots c.args.is_inside (length c.args.output.now.items) = search rules in
    let closed : c.close_sequence-octets.result.2 ≡ Ok c.in_ok-preamble.preamble = search rules in
    let start : c.len-start.result ≡ length c.args.output.now.items = c.len-start.ensures ∙ c.args.output.now.ok.0 in
    let ext : Octets = extension_of c.lend-answer.new.encoder.frame.bitmap c.lend-answer.new.encoder.frame.opens in
    let holds : Holds (append ext c.lend-answer.new.encoder) c.close_sequence-octets.result.0.items c.close_sequence-octets.result.1 = subst (λ r. OnOk r (Holds (append ext c.lend-answer.new.encoder) c.close_sequence-octets.result.0.items c.close_sequence-octets.result.1)) closed c.close_sequence-octets.ensures.done in
    let adds = opened_adds c.args.extensible false c.open-inner.result c.open_scope.new.output.items c.args.output.now.items c.replace-pieces.result (c.args.insertions.now ++ slots c.args.is_inside (length c.args.output.now.items)) c.open-inner.ensures c.in_ok-open_scope.ensures.unchanged q (taken_ascends c.args.is_inside c.args.output.now.items c.open_scope.new.output.items c.args.insertions.now c.replace-pieces.result c.requires.ascends c.in_ok-open_scope.ensures.unchanged q)
    c.lend-answer.new.encoder ext c.close_sequence-octets.result.0.items c.close_sequence-octets.result.1 c.lend-answer.ensures.keeps holds c.lend-answer.ensures.keeps.octets.0 c.lend-answer.ensures.keeps.octets.1 in
    (taken_long c.args.is_inside c.len-start.result c.len-slot.result c.args.output.now.items c.close_sequence-octets.result.0.items c.args.insertions.now c.close_sequence-octets.result.1 _ start c.len-slot.ensures adds).0

pub close_by-requires-clause-slot : goal.close_by-requires-clause-slot
close_by-requires-clause-slot g c =
    let q : c.replace-pieces.result ≡ c.args.insertions.now ++ slots c.args.is_inside (length c.args.output.now.items) = search rules in
    let closed : c.close_sequence-octets.result.2 ≡ Ok c.in_ok-preamble.preamble = search rules in
    let start : c.len-start.result ≡ length c.args.output.now.items = c.len-start.ensures ∙ c.args.output.now.ok.0 in
    let ext : Octets = extension_of c.lend-answer.new.encoder.frame.bitmap c.lend-answer.new.encoder.frame.opens in
    let holds : Holds (append ext c.lend-answer.new.encoder) c.close_sequence-octets.result.0.items c.close_sequence-octets.result.1 = subst (λ r. OnOk r (Holds (append ext c.lend-answer.new.encoder) c.close_sequence-octets.result.0.items c.close_sequence-octets.result.1)) closed c.close_sequence-octets.ensures.done in
    let adds = opened_adds c.args.extensible false c.open-inner.result c.open_scope.new.output.items c.args.output.now.items c.replace-pieces.result (c.args.insertions.now ++ slots c.args.is_inside (length c.args.output.now.items)) c.open-inner.ensures c.in_ok-open_scope.ensures.unchanged q (taken_ascends c.args.is_inside c.args.output.now.items c.open_scope.new.output.items c.args.insertions.now c.replace-pieces.result c.requires.ascends c.in_ok-open_scope.ensures.unchanged q)
    c.lend-answer.new.encoder ext c.close_sequence-octets.result.0.items c.close_sequence-octets.result.1 c.lend-answer.ensures.keeps holds c.lend-answer.ensures.keeps.octets.0 c.lend-answer.ensures.keeps.octets.1 in
    (taken_long c.args.is_inside c.len-start.result c.len-slot.result c.args.output.now.items c.close_sequence-octets.result.0.items c.args.insertions.now c.close_sequence-octets.result.1 _ start c.len-slot.ensures adds).1

pub close_by-requires-clause-adds : goal.close_by-requires-clause-adds
close_by-requires-clause-adds g c =
    let q : c.replace-pieces.result ≡ c.args.insertions.now ++ slots c.args.is_inside (length c.args.output.now.items) = search rules in
    let closed : c.close_sequence-octets.result.2 ≡ Ok c.in_ok-preamble.preamble = search rules in
    let start : c.len-start.result ≡ length c.args.output.now.items = c.len-start.ensures ∙ c.args.output.now.ok.0 in
    let ext : Octets = extension_of c.lend-answer.new.encoder.frame.bitmap c.lend-answer.new.encoder.frame.opens in
    let holds : Holds (append ext c.lend-answer.new.encoder) c.close_sequence-octets.result.0.items c.close_sequence-octets.result.1 = subst (λ r. OnOk r (Holds (append ext c.lend-answer.new.encoder) c.close_sequence-octets.result.0.items c.close_sequence-octets.result.1)) closed c.close_sequence-octets.ensures.done in
    let adds = opened_adds c.args.extensible false c.open-inner.result c.open_scope.new.output.items c.args.output.now.items c.replace-pieces.result (c.args.insertions.now ++ slots c.args.is_inside (length c.args.output.now.items)) c.open-inner.ensures c.in_ok-open_scope.ensures.unchanged q (taken_ascends c.args.is_inside c.args.output.now.items c.open_scope.new.output.items c.args.insertions.now c.replace-pieces.result c.requires.ascends c.in_ok-open_scope.ensures.unchanged q)
    c.lend-answer.new.encoder ext c.close_sequence-octets.result.0.items c.close_sequence-octets.result.1 c.lend-answer.ensures.keeps holds c.lend-answer.ensures.keeps.octets.0 c.lend-answer.ensures.keeps.octets.1 in
    (_, (taken_adds c.args.is_inside c.len-start.result c.len-slot.result c.args.output.now.items c.close_sequence-octets.result.0.items c.args.insertions.now c.close_sequence-octets.result.1 _ start c.len-slot.ensures adds).2)

pub returns-in_err-close_by-clause-kept : goal.returns-in_err-close_by-clause-kept
returns-in_err-close_by-clause-kept g c =
    let q : c.replace-pieces.result ≡ c.args.insertions.now ++ slots c.args.is_inside (length c.args.output.now.items) = search rules in
    let closed : c.close_sequence-octets.result.2 ≡ Ok c.in_ok-preamble.preamble = search rules in
    let start : c.len-start.result ≡ length c.args.output.now.items = c.len-start.ensures ∙ c.args.output.now.ok.0 in
    let ext : Octets = extension_of c.lend-answer.new.encoder.frame.bitmap c.lend-answer.new.encoder.frame.opens in
    let holds : Holds (append ext c.lend-answer.new.encoder) c.close_sequence-octets.result.0.items c.close_sequence-octets.result.1 = subst (λ r. OnOk r (Holds (append ext c.lend-answer.new.encoder) c.close_sequence-octets.result.0.items c.close_sequence-octets.result.1)) closed c.close_sequence-octets.ensures.done in
    let adds = opened_adds c.args.extensible false c.open-inner.result c.open_scope.new.output.items c.args.output.now.items c.replace-pieces.result (c.args.insertions.now ++ slots c.args.is_inside (length c.args.output.now.items)) c.open-inner.ensures c.in_ok-open_scope.ensures.unchanged q (taken_ascends c.args.is_inside c.args.output.now.items c.open_scope.new.output.items c.args.insertions.now c.replace-pieces.result c.requires.ascends c.in_ok-open_scope.ensures.unchanged q)
    c.lend-answer.new.encoder ext c.close_sequence-octets.result.0.items c.close_sequence-octets.result.1 c.lend-answer.ensures.keeps holds c.lend-answer.ensures.keeps.octets.0 c.lend-answer.ensures.keeps.octets.1 in
    let r = c.in_err-close_by.ensures.refused in
    kept_alike _ _ _ _ _ _ (kept_less _ _ _ _ _ (kept_added _ _ _ _ _ adds)) r.1 r.2

pub returns-clause-done : goal.returns-clause-done
returns-clause-done g c =
    let q : c.replace-pieces.result ≡ c.args.insertions.now ++ slots c.args.is_inside (length c.args.output.now.items) = search rules in
    let closed : c.close_sequence-octets.result.2 ≡ Ok c.in_ok-preamble.preamble = search rules in
    let start : c.len-start.result ≡ length c.args.output.now.items = c.len-start.ensures ∙ c.args.output.now.ok.0 in
    let ext : Octets = extension_of c.lend-answer.new.encoder.frame.bitmap c.lend-answer.new.encoder.frame.opens in
    let holds : Holds (append ext c.lend-answer.new.encoder) c.close_sequence-octets.result.0.items c.close_sequence-octets.result.1 = subst (λ r. OnOk r (Holds (append ext c.lend-answer.new.encoder) c.close_sequence-octets.result.0.items c.close_sequence-octets.result.1)) closed c.close_sequence-octets.ensures.done in
    let adds = opened_adds c.args.extensible false c.open-inner.result c.open_scope.new.output.items c.args.output.now.items c.replace-pieces.result (c.args.insertions.now ++ slots c.args.is_inside (length c.args.output.now.items)) c.open-inner.ensures c.in_ok-open_scope.ensures.unchanged q (taken_ascends c.args.is_inside c.args.output.now.items c.open_scope.new.output.items c.args.insertions.now c.replace-pieces.result c.requires.ascends c.in_ok-open_scope.ensures.unchanged q)
    c.lend-answer.new.encoder ext c.close_sequence-octets.result.0.items c.close_sequence-octets.result.1 c.lend-answer.ensures.keeps holds c.lend-answer.ensures.keeps.octets.0 c.lend-answer.ensures.keeps.octets.1 in
    let t = taken_adds c.args.is_inside c.len-start.result c.len-slot.result c.args.output.now.items c.close_sequence-octets.result.0.items c.args.insertions.now c.close_sequence-octets.result.1 (c.lend-answer.ensures.keeps.octets.0 ++ ext) start c.len-slot.ensures adds in
    let put = c.in_ok-close_by.ensures.done (c.lend-answer.ensures.keeps.octets.0 ++ ext) t.2 in
    let answered : c.lend-answer.result ≡ Ok tt = search rules in
    let pre = subst (λ r. IfOk r (λ p. IsSized p × (preamble_octets p ≡ pack (extension_bit c.lend-answer.new.encoder.frame.extensible (any_true c.lend-answer.new.encoder.frame.bitmap) ++ c.lend-answer.new.encoder.frame.presence)))) closed c.close_sequence-octets.ensures.preamble in
    let preamble : preamble_octets c.in_ok-preamble.preamble ≡ pack (extension_bit c.lend-answer.new.encoder.frame.extensible (any_true c.lend-answer.new.encoder.frame.bitmap) ++ c.lend-answer.new.encoder.frame.presence) = pre.1 in (
      c.lend-answer.new.encoder.frame,
      c.lend-answer.ensures.keeps.octets.0,
      record {
        entered = c.open-inner.result;
        left = c.lend-answer.new.encoder;
        opened = ap (λ (w : Written). w.frame) c.open-inner.ensures ∙ ap (λ (w : Written). fresh false c.args.extensible (length w.octets)) (sym c.open-inner.ensures);
        ran = subst (λ r. Promise g.F.FnOnce c.args.f c.open-inner.result r c.lend-answer.new.encoder) answered c.lend-answer.ensures.ran;
        closed = refl;
        wrote = c.lend-answer.ensures.keeps.octets.1;
        counted = c.close_sequence-octets.ensures.counted;
      },
      subst (λ (z : Octets). Adds (z ++ (c.lend-answer.ensures.keeps.octets.0 ++ ext)) c.args.output.now.items c.args.insertions.now c.close_by.new.output.items c.close_by.new.insertions) preamble (rw (t.0, t.1) at put),
    )

pub returns-clause-kept : goal.returns-clause-kept
returns-clause-kept g c =
    let done = returns-clause-done g c in kept_added _ _ _ _ _ done.3

pub open-inner-requires : goal.open-inner-requires
open-inner-requires g c =
    let q : c.replace-pieces.result ≡ c.args.insertions.now ++ slots c.args.is_inside (length c.args.output.now.items) = search rules in
    taken_ascends c.args.is_inside c.args.output.now.items c.open_scope.new.output.items c.args.insertions.now c.replace-pieces.result c.requires.ascends c.in_ok-open_scope.ensures.unchanged q
