use Rattle.std.proofs.Common.{◌≡◌, ◌&&◌, true, not, ap, ◌∙◌, subst, rules}
use Rattle.std.proofs.lemmas.Result.{on_ok_weaker, IfErr-weaker}
use Rattle.oer_write.specs.Held.{Holds, Leaves}
use Rattle.oer_write.specs.Scopes.{extension_of}
use Rattle.oer_write.specs.Written.{Written, append}
use Rattle.oer_write.proofs.Holding.{closed_holds, closed_leaves}
use Rattle.oer_write.proofs.encoder.Encoder.close_sequence.Goals as goal

pub returns-clause-done : goal.returns-clause-done
returns-clause-done c =
    let taken : c.replace-octets.result.items ≡ c.self.inside.output.now.items = search rules in
    let same : c.replace-insertions.result ≡ c.self.inside.insertions = search rules in
    let kind : (c.self.inside.scope.is_open && not c.self.inside.scope.is_set) ≡ true = ap (λ (w : Written). w.frame.is_open && not w.frame.is_set) c.self.view_is ∙ c.requires.sequence in
    on_ok_weaker c.close_sequence-closed.result (λ h. subst (λ (w : Written). Holds (append (extension_of w.frame.bitmap w.frame.opens) w) c.close_sequence-closed.new.out.items c.close_sequence-closed.new.insertions) c.self.view_is (closed_holds c.self.inside.scope c.self.inside.is_lent c.self.inside.is_inside c.self.inside.output.now.items c.close_sequence-closed.new.out.items c.self.inside.insertions c.close_sequence-closed.new.insertions kind c.self.invariant (rw (taken, same) at h))) c.close_sequence-closed.ensures.done

pub returns-clause-refused : goal.returns-clause-refused
returns-clause-refused c =
    let taken : c.replace-octets.result.items ≡ c.self.inside.output.now.items = search rules in
    let same : c.replace-insertions.result ≡ c.self.inside.insertions = search rules in
    IfErr-weaker c.close_sequence-closed.result _ _ (λ x h. (h.0, subst (λ (w : Written). Leaves w c.close_sequence-closed.new.out.items c.close_sequence-closed.new.insertions) c.self.view_is (closed_leaves c.self.inside.scope c.self.inside.is_lent c.self.inside.is_inside c.self.inside.output.now.items c.close_sequence-closed.new.out.items c.self.inside.insertions c.close_sequence-closed.new.insertions c.self.invariant (rw (taken, same) at h.1)))) c.close_sequence-closed.ensures.refused
