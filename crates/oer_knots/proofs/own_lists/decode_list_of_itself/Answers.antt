use Rattle.std.proofs.Common.{refl}
use Rattle.oer_knots.proofs.PushedElements.{knot_read, knot_answers, knot_stops, knot_refuses}
use Rattle.oer_knots.proofs.own_lists.decode_list_of_itself.Goals as goal

pub returns-in-Ok-clause-law : goal.returns-in-Ok-clause-law
returns-in-Ok-clause-law g c = rw c.set_remaining.ensures (knot_read _ _ _ _ _ _ (g.B.Spelled.is_tree g.B.AsnType.CONSTRAINTS g.B.AsnType.consistent) g.met.K.Knot.layered _ _ _ _ _ c.from_content.ensures c.in-Ok.ensures.read)

pub returns-in-Ok-clause-answered : goal.returns-in-Ok-clause-answered
returns-in-Ok-clause-answered g c = rw c.set_remaining.ensures (knot_answers _ _ _ _ _ _ (g.B.Spelled.is_tree g.B.AsnType.CONSTRAINTS g.B.AsnType.consistent) g.met.K.Knot.layered _ _ _ _ _ c.from_content.ensures c.in-Ok.ensures.read)

pub returns-in-Err-clause-law : goal.returns-in-Err-clause-law
returns-in-Err-clause-law g c = knot_stops _ _ _ _ _ _ (g.B.Spelled.is_tree g.B.AsnType.CONSTRAINTS g.B.AsnType.consistent) g.met.K.Knot.layered _ _ _ _ refl c.in-Err.ensures.refused

pub returns-in-Err-clause-answered : goal.returns-in-Err-clause-answered
returns-in-Err-clause-answered g c = knot_refuses _ _ _ _ _ _ (g.B.Spelled.is_tree g.B.AsnType.CONSTRAINTS g.B.AsnType.consistent) g.met.K.Knot.layered _ _ _ _ c.in-Err.ensures.refused
