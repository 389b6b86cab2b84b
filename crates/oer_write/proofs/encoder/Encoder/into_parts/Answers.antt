use Rattle.std.proofs.Common.{◌≡◌, false, ap, sym, ◌∙◌, subst, rules}
use Rattle.asn1_core.specs.Octets.{Octets}
use Rattle.oer_write.specs.Held.{Holds}
use Rattle.oer_write.specs.Written.{Written}
use Rattle.oer_write.proofs.Holding.{shut_holds, alone_none}
use Rattle.oer_write.proofs.encoder.Encoder.into_parts.Goals as goal

pub returns-clause-holds : goal.returns-clause-holds
returns-clause-holds c =
    let taken : c.replace.result.items ≡ c.self.inside.output.now.items = search rules in
    let shut : c.self.inside.scope.is_open ≡ false = ap (λ (w : Written). w.frame.is_open) c.self.view_is ∙ c.requires in
    subst (λ (o : Octets). Holds c.args.self o c.self.inside.insertions) (sym taken) (subst (λ (w : Written). Holds w c.self.inside.output.now.items c.self.inside.insertions) c.self.view_is (shut_holds c.self.inside.scope c.self.inside.is_lent c.self.inside.is_inside c.self.inside.output.now.items c.self.inside.insertions c.self.invariant shut))

pub returns-clause-alone : goal.returns-clause-alone
returns-clause-alone c = λ h. alone_none c.self.inside.scope c.self.inside.is_lent c.self.inside.is_inside _ c.self.inside.scope.region.first c.self.inside.insertions c.self.invariant (ap (λ (w : Written). w.outer) c.self.view_is ∙ h)
