use Rattle.std.proofs.Common.{◌≡◌, take, ap, sym, ◌∙◌, subst, rules}
use Rattle.asn1_core.specs.Octets.{Octets}
use Rattle.oer_spec.specs.Writing.{AppendsOrMemory}
use Rattle.oer_write.specs.Held.{pieces_in, IsInFront}
use Rattle.oer_write.specs.Scopes.{set_octets}
use Rattle.oer_write.specs.Written.{Written}
use Rattle.oer_write.proofs.Holding.{sound_front, pieces_marked}
use Rattle.oer_write.proofs.encoder.Encoder.close_set.Goals as goal

pub returns-clause-kept : goal.returns-clause-kept
returns-clause-kept c =
    let same : c.replace-insertions.result ≡ c.self.inside.insertions = search rules in
    c.cut.ensures ∙ ap (take c.self.inside.scope.region.first) same ∙ sym (pieces_marked c.self.inside.is_lent c.self.inside.is_inside (take c.self.inside.scope.region.first c.self.inside.insertions)) ∙ ap (λ (w : Written). pieces_in w.outer) c.self.view_is

pub returns-clause-written : goal.returns-clause-written
returns-clause-written c =
    let s = c.self.inside.scope in
    let o = c.self.inside.output.now.items in
    let is = c.self.inside.insertions in
    let taken : c.replace-octets.result.items ≡ o = search rules in
    let front : c.truncate.new.self.items ≡ take s.region.base o = c.truncate.ensures.items ∙ ap (take s.region.base) taken in (
      take s.region.base o,
      subst (λ (w : Written). IsInFront w (take s.region.base o)) c.self.view_is (sound_front s c.self.inside.is_lent c.self.inside.is_inside o is c.self.invariant),
      subst (λ (z : Octets). AppendsOrMemory c.write_set-closed.result (set_octets c.args.self.now.frame) z c.write_set-closed.new.out.items) front
          (subst (λ (w : Written). AppendsOrMemory c.write_set-closed.result (set_octets w.frame) c.truncate.new.self.items c.write_set-closed.new.out.items) c.self.view_is (c.write_set-closed.ensures o is)),
    )
