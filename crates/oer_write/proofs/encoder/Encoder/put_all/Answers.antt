use Rattle.std.proofs.Common.{◌≡◌, ◌++◌, ap, sym, ◌∙◌, rules, List, subst, length}
use Rattle.std.proofs.lemmas.Result.{on_ok_weaker}
use Rattle.asn1_core.specs.Octets.{Octets}
use Rattle.oer_write.specs.Layout.{Piece, Ascends}
use Rattle.oer_write.specs.Written.{Written, append}
use Rattle.oer_write.proofs.Regions.{adds_from, grown_seen, grown_sound, sound_ascends}
use Rattle.oer_write.proofs.encoder.Encoder.put_all.Goals as goal

pub invariant_of-self : goal.invariant_of-self
invariant_of-self g c =
    let q : c.replace-pieces.result ≡ c.self.inside.insertions = search rules in
    grown_sound c.self.inside.scope c.self.inside.is_lent c.self.inside.is_inside c.self.inside.output.now.items c.put_elements_into-answer.ensures.grown.0 c.put_elements_into-answer.new.out.items c.self.inside.insertions c.put_elements_into-answer.new.insertions c.self.invariant (adds_from _ _ _ _ _ _ q c.put_elements_into-answer.ensures.grown.1) c.put_elements_into-answer.ensures.alone

pub returns-clause-done : goal.returns-clause-done
returns-clause-done g c =
    let q : c.replace-pieces.result ≡ c.self.inside.insertions = search rules in
    on_ok_weaker c.put_elements_into-answer.result (λ h. record { contents = h.1.contents; each = h.1.each; few = h.1.few; appended = ap (λ (w : Written). w.octets) (grown_seen c.self.inside.scope c.self.inside.is_lent c.self.inside.is_inside c.self.inside.output.now.items h.0 c.put_elements_into-answer.new.out.items c.self.inside.insertions c.put_elements_into-answer.new.insertions c.self.invariant (adds_from _ _ _ _ _ _ q h.2)) ∙ ap (λ (w : Written). w.octets ++ h.0) c.self.view_is ∙ ap (λ (o : Octets). c.args.self.now.octets ++ o) h.1.appended }) c.put_elements_into-answer.ensures.done

pub returns-clause-begins : goal.returns-clause-begins
returns-clause-begins g c =
    let q : c.replace-pieces.result ≡ c.self.inside.insertions = search rules in
    (c.put_elements_into-answer.ensures.grown.0, ap (λ (w : Written). w.octets) (grown_seen c.self.inside.scope c.self.inside.is_lent c.self.inside.is_inside c.self.inside.output.now.items c.put_elements_into-answer.ensures.grown.0 c.put_elements_into-answer.new.out.items c.self.inside.insertions c.put_elements_into-answer.new.insertions c.self.invariant (adds_from _ _ _ _ _ _ q c.put_elements_into-answer.ensures.grown.1)) ∙ ap (λ (w : Written). w.octets ++ c.put_elements_into-answer.ensures.grown.0) c.self.view_is)

pub returns-clause-left : goal.returns-clause-left
returns-clause-left g c =
    let q : c.replace-pieces.result ≡ c.self.inside.insertions = search rules in
    let e = grown_seen c.self.inside.scope c.self.inside.is_lent c.self.inside.is_inside c.self.inside.output.now.items c.put_elements_into-answer.ensures.grown.0 c.put_elements_into-answer.new.out.items c.self.inside.insertions c.put_elements_into-answer.new.insertions c.self.invariant (adds_from _ _ _ _ _ _ q c.put_elements_into-answer.ensures.grown.1) ∙ ap (append c.put_elements_into-answer.ensures.grown.0) c.self.view_is in
    e ∙ ap (λ (o : Octets). record c.args.self.now { octets = o }) (sym (ap (λ (w : Written). w.octets) e))

pub put_elements_into-answer-requires-clause-ascends : goal.put_elements_into-answer-requires-clause-ascends
put_elements_into-answer-requires-clause-ascends g c =
    let q : c.replace-pieces.result ≡ c.self.inside.insertions = search rules in
    subst (λ (z : List Piece). Ascends 0 z (length c.self.inside.output.now.items)) (sym q) (sound_ascends c.self.inside.scope c.self.inside.is_lent c.self.inside.is_inside c.self.inside.output.now.items c.self.inside.insertions c.self.invariant)
