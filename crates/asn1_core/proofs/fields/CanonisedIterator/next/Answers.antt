use Rattle.std.proofs.Common.{sym, ap, subst, length, arith}
use Rattle.std.specs.Iterator.{YieldsFirst}
use Rattle.asn1_core.specs.Tables.{canonised_rest}
use Rattle.asn1_core.specs.Tags.{by_tag}
use Rattle.asn1_core.proofs.InTagOrder.{none-left, first-found}
use Rattle.asn1_core.proofs.fields.CanonisedIterator.next.Goals as goal

pub returns-in_err-place-clause-steps : goal.returns-in_err-place-clause-steps
returns-in_err-place-clause-steps c =
    let s = c.args.self.now in
    let e = ap (by_tag (λ f. f.tag)) (none-left s.last 0 s.rows.now (sym c.in_err-place.ensures)) in
    subst (λ r. YieldsFirst canonised_rest s r s) (sym c.from_residual.ensures) (e, e)

pub returns-clause-steps : goal.returns-clause-steps
returns-clause-steps c =
    first-found c.args.self.now.last c.args.self.now.rows.now c.in_ok-place.place c.in_ok-place.row (sym c.in_ok-place.ensures)

pub returns-clause-goes : goal.returns-clause-goes
returns-clause-goes c =
    let e = returns-clause-steps c in
    record { on = λ h. (tt, tt, omega (arith, ap length e)); keeps = tt; rests = λ h. tt }
