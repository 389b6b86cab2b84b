use Rattle.std.proofs.Common.{◌+◌, ◌≤◌, ◌++◌, sym, ap, ◌∙◌, [], ◌∷◌, arith}
use Rattle.std.proofs.lemmas.Result.{err_from_is_err_and}
use Rattle.asn1_core.specs.Octets.{Octets}
use Rattle.oer_spec.specs.Encoding.{empties}
use Rattle.oer_read.specs.Unordered.{ElementRefused, TooManyEmpty, OutOfOrder}
use Rattle.oer_read.proofs.UnorderedSteps.{count_more, none_taken}
use Rattle.oer_read.proofs.decoder.Decoder.next_element.Goals as goal

pub front_of-octets-requires : goal.front_of-octets-requires
front_of-octets-requires g c =
    let k = c.in_ok-item.ensures.ok in
    rw (c.remaining-rest.ensures, c.remaining-left.ensures, k.2) (c.requires.keeps c.in_ok-item.item k.0 k.1)

pub returns-in_err-item-clause-err : goal.returns-in_err-item-clause-err
returns-in_err-item-clause-err g c =
    let p = err_from_is_err_and c.from_residual.result c.from_residual.ensures.1 in
    let k = c.in_err-item.ensures.err in
    rw (p.1, p.2) (ElementRefused k.0 k.1)

pub returns-in_err-count-clause-err : goal.returns-in_err-count-clause-err
returns-in_err-count-clause-err g c =
    let p = err_from_is_err_and c.from_residual-in_err-count.result c.from_residual-in_err-count.ensures.1 in
    let x = c.in_err-count.ensures.err in
    let k = c.in_ok-item.ensures.ok in
    let same = none_taken c.front_of-octets.result.now c.remaining-left.result.now c.remaining-rest.result.now c.front_of-octets.ensures x.1 in
    rw (p.1, p.2) (TooManyEmpty c.in_ok-item.item k.0 k.1 (rw (c.remaining-rest.ensures, c.remaining-left.ensures, k.2) at same) x.0 x.2)

pub returns-in_err-require_order-clause-err : goal.returns-in_err-require_order-clause-err
returns-in_err-require_order-clause-err g c =
    let p = err_from_is_err_and c.from_residual-in_err-require_order.result c.from_residual-in_err-require_order.ensures.1 in
    let x = c.in_err-require_order.ensures.err in
    let k = c.in_ok-item.ensures.ok in
    let m = c.in_ok-count.ensures.ok in
    let n = count_more c.args.empties c.front_of-octets.result.now c.remaining-left.result.now c.remaining-rest.result.now c.front_of-octets.ensures in
    let few : c.args.empties + empties (c.front_of-octets.result.now ∷ []) ≤ 65536 = omega (arith, n, m.0, m.1) in
    rw (p.1, p.2) (OutOfOrder c.in_ok-item.item k.0 c.front_of-octets.result.now k.1 (rw (c.remaining-rest.ensures, c.remaining-left.ensures, k.2) at c.front_of-octets.ensures) few x.0 x.1 x.2)
