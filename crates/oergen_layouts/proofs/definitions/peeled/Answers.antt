use Rattle.std.proofs.Common.{◌≡◌, ◌∙◌, ◌+◌, sym, ap, arith}
use Rattle.oergen_layouts.specs.Definitions.{peeled}
use Rattle.oergen_layouts.proofs.Defining.{peel_all, peel_end, peel_more}
use Rattle.oergen_layouts.proofs.definitions.peeled.Goals as goal
use Rattle.oergen_layouts.proofs.definitions.peeled.Goals.{else-loop-test, then-loop-test+in_default}

pub loop-preserved : goal.loop-preserved
loop-preserved c =
    let at = c.loop.counter in
    let lists = c.loop.invariant.0 in
    let more : c.saturating_add-lists.result ≡ at + 1 = omega (arith, lists, c.loop-test.true, c.saturating_add-lists.ensures) in
    (more, omega (arith, c.loop-test.true), peel_more c.args.start.now c.loop.of.now c.in-Some.element.now c.in-Some.field-0-1 at c.loop-test.true c.in-Some.ensures c.loop.invariant.2)

pub returns : goal.returns
returns c =
    let start = c.args.start.now in
    let of = c.loop.of.now in
    let by = λ (is : peeled 64 start ≡ (c.loop.counter, of)). is ∙ ap (λ k. (k, of)) (sym c.loop.invariant.0) in
    elim c.loop-test.branch [
      | else-loop-test w ↦ by (peel_all start of c.loop.counter (omega (arith, w.loop-test.false)) c.loop.invariant.2)
      | then-loop-test+in_default w ↦ by (peel_end start of c.loop.counter w.in_default.ensures c.loop.invariant.2)
    ]
