use Rattle.std.proofs.lemmas.Result.{on_ok_weaker, IfErr-weaker}
use Rattle.oer_write.proofs.Elements.{each_value, list_done, list_refused, first_refused}
use Rattle.oer_write.proofs.encoder.Encoder.encode_sequence_of.Goals as goal

pub returns-clause-value : goal.returns-clause-value
returns-clause-value g c = on_ok_weaker c.values.result (λ h. each_value _ g.E.Spelled.IsValue c.args.value.now h.contents (λ x e e' p. p.1) h.each) c.values.ensures.done

pub returns-clause-done : goal.returns-clause-done
returns-clause-done g c = on_ok_weaker c.values.result (list_done _ (g.E.Spelled.tree g.E.AsnType.CONSTRAINTS) c.args.value.now c.args.self.now c.values.new.self (λ x e e' r there shut p. p.0)) c.values.ensures.done

pub returns-clause-refused : goal.returns-clause-refused
returns-clause-refused g c = IfErr-weaker c.values.result _ _ (λ x h. list_refused _ (g.E.Spelled.tree g.E.AsnType.CONSTRAINTS) c.args.value.now c.args.self.now c.values.new.self x (λ y e e' r there shut p. p.0) h) c.values.ensures.refused

pub returns-clause-first : goal.returns-clause-first
returns-clause-first g c = IfErr-weaker c.values.result _ _ (λ x h. first_refused _ (g.E.Spelled.tree g.E.AsnType.CONSTRAINTS) c.args.value.now x (λ y e e' r there shut p. p.0) h.reason) c.values.ensures.refused
