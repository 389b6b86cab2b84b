use Rattle.std.proofs.Common.{◌≡◌, ap, sym, ◌∙◌, rules, List, subst, length}
use Rattle.std.proofs.lemmas.Result.{on_ok_weaker}
use Rattle.oer_write.specs.Layout.{Piece, Ascends}
use Rattle.oer_write.specs.Written.{append}
use Rattle.oer_write.proofs.Nesting.{keeps_append}
use Rattle.oer_write.proofs.Regions.{adds_from, grown_seen, grown_sound, sound_ascends}
use Rattle.oer_write.proofs.encoder.Encoder.put_inside.Goals as goal

pub invariant_of-self : goal.invariant_of-self
invariant_of-self g c =
    let q : c.replace-pieces.result ≡ c.self.inside.insertions = search rules in
    grown_sound c.self.inside.scope c.self.inside.is_lent c.self.inside.is_inside c.self.inside.output.now.items c.put_into-answer.ensures.grown.0 c.put_into-answer.new.out.items c.self.inside.insertions c.put_into-answer.new.insertions c.self.invariant (adds_from _ _ _ _ _ _ q c.put_into-answer.ensures.grown.1) c.put_into-answer.ensures.alone

pub returns-clause-in_sequence : goal.returns-clause-in_sequence
returns-clause-in_sequence g c =
    let q : c.replace-pieces.result ≡ c.self.inside.insertions = search rules in
    on_ok_weaker c.put_into-answer.result (λ h. record { content = h.0; wrote = h.1; appended = grown_seen c.self.inside.scope c.self.inside.is_lent c.self.inside.is_inside c.self.inside.output.now.items h.0 c.put_into-answer.new.out.items c.self.inside.insertions c.put_into-answer.new.insertions c.self.invariant (adds_from _ _ _ _ _ _ q h.2) ∙ ap (append h.0) c.self.view_is }) c.put_into-answer.ensures.done

pub returns-clause-keeps : goal.returns-clause-keeps
returns-clause-keeps g c =
    let q : c.replace-pieces.result ≡ c.self.inside.insertions = search rules in
    keeps_append c.put_into-answer.ensures.grown.0 c.args.self.now _ (grown_seen c.self.inside.scope c.self.inside.is_lent c.self.inside.is_inside c.self.inside.output.now.items c.put_into-answer.ensures.grown.0 c.put_into-answer.new.out.items c.self.inside.insertions c.put_into-answer.new.insertions c.self.invariant (adds_from _ _ _ _ _ _ q c.put_into-answer.ensures.grown.1) ∙ ap (append c.put_into-answer.ensures.grown.0) c.self.view_is)

pub put_into-answer-requires-clause-ascends : goal.put_into-answer-requires-clause-ascends
put_into-answer-requires-clause-ascends g c =
    let q : c.replace-pieces.result ≡ c.self.inside.insertions = search rules in
    subst (λ (z : List Piece). Ascends 0 z (length c.self.inside.output.now.items)) (sym q) (sound_ascends c.self.inside.scope c.self.inside.is_lent c.self.inside.is_inside c.self.inside.output.now.items c.self.inside.insertions c.self.invariant)
