use Rattle.std.proofs.Common.{ap, Some}
use Rattle.std.proofs.lemmas.Result.{err_from_is_err_and}
use Rattle.oer_rows.specs.Values.{both}
use Rattle.oer_rows.proofs.Chained.{chained, default_known, default_value_admitted}
use Rattle.oer_rows.specs.Refusals.{Here, Behind}
use Rattle.oer_knots.proofs.reading.DefaultedReadsKnot.read.Goals as goal

pub returns-in_err-value-clause-stops : goal.returns-in_err-value-clause-stops
returns-in_err-value-clause-stops g c = search (chained, default_known _ _ g.B.PartialEq.eq g.D.DefaultValue.value g.B.Spelled.is_tree g.B.Spelled.alike g.met.D.DefaultValue.decides g.B.AsnType.CONSTRAINTS g.B.AsnType.consistent g.met.D.DefaultValue.admitted)

pub returns-in_err-read-clause-stops : goal.returns-in_err-read-clause-stops
returns-in_err-read-clause-stops g c = search (chained, default_known _ _ g.B.PartialEq.eq g.D.DefaultValue.value g.B.Spelled.is_tree g.B.Spelled.alike g.met.D.DefaultValue.decides g.B.AsnType.CONSTRAINTS g.B.AsnType.consistent g.met.D.DefaultValue.admitted)

pub returns-clause-read : goal.returns-clause-read
returns-clause-read g c =
    let known = default_known _ _ g.B.PartialEq.eq g.D.DefaultValue.value g.B.Spelled.is_tree g.B.Spelled.alike g.met.D.DefaultValue.decides g.B.AsnType.CONSTRAINTS g.B.AsnType.consistent g.met.D.DefaultValue.admitted in
    let rest = c.in_ok-read.ensures.read in (both c.in_ok-value.value rest.0, ap (λ z. both (Some c.in_ok-value.value) z) rest.1, search (chained, known, rest.2), (known, λ e. default_value_admitted (g.B.Spelled.tree g.B.AsnType.CONSTRAINTS) g.B.Spelled.IsValue _ g.B.PartialEq.eq _ _ _ _ _ _ g.D.DefaultValue.value _ c.read_default.ensures g.met.D.DefaultValue.admitted c.branch-value.ensures c.in_ok-value.is, rest.3), rest.4)

pub returns-in_err-value-clause-refused : goal.returns-in_err-value-clause-refused
returns-in_err-value-clause-refused g c =
    let p = err_from_is_err_and c.from_residual.result c.from_residual.ensures.1 in
    rw (p.1, p.2) (Here _ (rw c.tag.ensures at c.in_err-value.ensures))

pub returns-in_err-read-clause-refused : goal.returns-in_err-read-clause-refused
returns-in_err-read-clause-refused g c =
    let p = err_from_is_err_and c.from_residual-in_err-read.result c.from_residual-in_err-read.ensures.1 in
    rw (p.1, p.2) (Behind _ _ (rw c.tag.ensures at c.in_ok-value.ensures) c.in_err-read.ensures.refused)
