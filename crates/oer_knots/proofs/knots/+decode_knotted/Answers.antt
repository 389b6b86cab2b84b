use Rattle.std.proofs.Common.{◌<◌, arith}
use Rattle.std.proofs.lemmas.Result.{err_from_is_err_and}
use Rattle.oer_read.proofs.Promises.{promise_of_fn}
use Rattle.oer_knots.specs.Answering.{within_more}
use Rattle.oer_knots.proofs.Layers.{layer_read, layer_stops, layer_answers, layer_refuses}
use Rattle.oer_knots.proofs.knots.+decode_knotted.Goals as goal

pub returns-clause-law : goal.returns-clause-law
returns-clause-law g t c = layer_read _ _ _ _ _ g.met.K.Knot.layered _ _ _ _ c.from_content.ensures c.in_ok-content.ensures.law

pub returns-in_err-content-clause-law : goal.returns-in_err-content-clause-law
returns-in_err-content-clause-law g t c =
    let p = err_from_is_err_and c.from_residual.result c.from_residual.ensures.1 in
    rw (p.1, p.2) (layer_stops _ _ _ _ _ g.met.K.Knot.layered _ _ _ c.in_err-content.ensures.law)

pub returns-clause-answered : goal.returns-clause-answered
returns-clause-answered g t c =
    let l = c.levels-levels.ensures in
    layer_answers _ _ _ _ (promise_of_fn _ _ _ (λ p q r k. within_more _ _ _ _ (omega (arith, l)) _ _ _ k.1)) _ _ _ _ c.from_content.ensures c.in_ok-content.ensures.answered

pub returns-in_err-content-clause-answered : goal.returns-in_err-content-clause-answered
returns-in_err-content-clause-answered g t c =
    let p = err_from_is_err_and c.from_residual.result c.from_residual.ensures.1 in
    let l = c.levels-levels.ensures in
    rw (p.1, p.2) (layer_refuses _ _ _ _ (promise_of_fn _ _ _ (λ p q r k. within_more _ _ _ _ (omega (arith, l)) _ _ _ k.1)) _ _ _ c.in_err-content.ensures.answered)

pub read-returns : goal.read-returns
read-returns g t c =
    let h : c.args.inner.now.levels < c.captures.levels = c.requires in
    record { law = c.decode_knotted.ensures.law; answered = within_more _ _ _ _ (omega (arith, h)) _ _ _ c.decode_knotted.ensures.answered }
