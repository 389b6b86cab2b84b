use Rattle.oer_knots.proofs.Layers.{layer_done, layer_value, layer_refused}
use Rattle.oer_knots.proofs.knots.layer_of.Goals as goal

pub returns : goal.returns
returns g c = record {
  done = λ r e f h. layer_done _ _ r e f (g.met.K.Layered.layers.same _) h;
  value = λ r h. layer_value _ _ r (g.met.K.Layered.layers.back _) h;
  refused = λ r e f h. layer_refused _ _ r e f (g.met.K.Layered.layers.same _) h;
}
