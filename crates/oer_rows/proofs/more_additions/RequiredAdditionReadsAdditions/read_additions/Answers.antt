use Rattle.std.proofs.Common.{ap, Some, inl, inr}
use Rattle.std.proofs.lemmas.Result.{err_from_is_err_and}
use Rattle.asn1_core.specs.declared.error.DecodeErrorKind.TheVariants.{RequiredExtensionNotPresent}
use Rattle.oer_rows.specs.Values.{both}
use Rattle.oer_rows.proofs.Chained.{added_value, chained}
use Rattle.oer_rows.specs.Refusals.{Here, Behind}
use Rattle.oer_rows.proofs.more_additions.RequiredAdditionReadsAdditions.read_additions.Goals as goal

pub returns-in_err-value-clause-stops : goal.returns-in_err-value-clause-stops
returns-in_err-value-clause-stops g c = search chained

pub returns-in_err-read_additions-in-Some-clause-stops : goal.returns-in_err-read_additions-in-Some-clause-stops
returns-in_err-read_additions-in-Some-clause-stops g c = search chained

pub returns-in_ok-read_additions-in-Some-clause-read : goal.returns-in_ok-read_additions-in-Some-clause-read
returns-in_ok-read_additions-in-Some-clause-read g c =
    let rest = c.in_ok-read_additions-in-Some.ensures.read in
    let took = rest.2 in
    (both c.in-Some.value rest.0, ap (λ z. both (Some c.in-Some.value) z) rest.1, search (chained, took), (added_value _ _ _ _ _ _ _ _ c.in_ok-value.ensures.read c.in-Some.is, rest.3))

pub returns-in-None-clause-stops : goal.returns-in-None-clause-stops
returns-in-None-clause-stops g c = search chained

pub returns-in_err-value-clause-refused : goal.returns-in_err-value-clause-refused
returns-in_err-value-clause-refused g c =
    let p = err_from_is_err_and c.from_residual.result c.from_residual.ensures.1 in
    rw (p.1, p.2) (Here _ (inl (rw c.tag.ensures at c.in_err-value.ensures)))

pub returns-in_err-read_additions-in-Some-clause-refused : goal.returns-in_err-read_additions-in-Some-clause-refused
returns-in_err-read_additions-in-Some-clause-refused g c =
    let p = err_from_is_err_and c.from_residual-in_err-read_additions-in-Some.result c.from_residual-in_err-read_additions-in-Some.ensures.1 in
    rw (p.1, p.2) (Behind c.in-Some.value _ (rw (c.tag.ensures, c.in-Some.is) at c.in_ok-value.ensures) c.in_err-read_additions-in-Some.ensures.refused)

pub returns-in-None-clause-refused : goal.returns-in-None-clause-refused
returns-in-None-clause-refused g c =
    Here _ (inr (rw (c.tag.ensures, c.in-None.is) at c.in_ok-value.ensures, λ i. record { kind = RequiredExtensionNotPresent (c.tag-in-None.ensures i); codec = c.codec.ensures i }))
