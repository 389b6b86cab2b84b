use Rattle.std.proofs.Common.{◌≡◌, List, subst, sym, ◌∙◌, length, rules}
use Rattle.oer_spec.specs.Writing.{BeginsWith}
use Rattle.oer_write.specs.Layout.{Piece, Ascends}
use Rattle.oer_write.specs.Seen.{IsSound}
use Rattle.oer_write.proofs.Nesting.{begins_or}
use Rattle.oer_write.proofs.Regions.{sound_ascends, sound_more}
use Rattle.oer_write.proofs.encoder.Encoder.set.Goals as goal

pub put_set-answer-requires-clause-ascends : goal.put_set-answer-requires-clause-ascends
put_set-answer-requires-clause-ascends g c =
    let q : c.replace-pieces.result ≡ c.self.inside.insertions = search rules in
    subst (λ (z : List Piece). Ascends 0 z (length c.self.inside.output.now.items)) (sym q) (sound_ascends c.self.inside.scope c.self.inside.is_lent c.self.inside.is_inside c.self.inside.output.now.items c.self.inside.insertions c.self.invariant)

pub invariant_of-self : goal.invariant_of-self
invariant_of-self g c =
    let q : c.replace-pieces.result ≡ c.self.inside.insertions = search rules in
    let i = c.self.inside in
    let e : c.put_set-answer.new.insertions ≡ i.insertions = c.put_set-answer.ensures.kept ∙ q in
    let b : BeginsWith i.output.now.items c.put_set-answer.new.output.items = begins_or c.put_set-answer.result _ _ (λ h. (_, h.3)) c.put_set-answer.ensures.done c.put_set-answer.ensures.unchanged in
    subst (λ (is : List Piece). IsSound i.scope i.is_lent i.is_inside (length c.put_set-answer.new.output.items) is) (sym e) (sound_more i.scope i.is_lent i.is_inside i.output.now.items c.put_set-answer.new.output.items i.insertions c.self.invariant b)
