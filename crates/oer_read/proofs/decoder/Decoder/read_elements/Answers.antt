use Rattle.std.proofs.Common.{◌<◌, arith, length, refl}
use Rattle.std.proofs.lemmas.List.{length_push}
use Rattle.std.proofs.lemmas.Result.{err_from_is_err_and}
use Rattle.oer_read.specs.Lists.{FnReturnsAtMut, ElementRefused, TooManyEmpty, NoMemory}
use Rattle.oer_read.proofs.ListSteps.{RanEach-push}
use Rattle.oer_read.proofs.decoder.Decoder.read_elements.Goals as goal

pub read_element-requires-clause-callable : goal.read_element-requires-clause-callable
read_element-requires-clause-callable g c =
    c.requires.callable c.loop-i.items.items c.loop-i.lent.input c.loop-i.empties (record { more = omega (arith, c.loop-i.invariant.counted); ran = c.loop-i.invariant.ran; few = c.loop-i.invariant.few })

pub returns-in_err-item-clause-err : goal.returns-in_err-item-clause-err
returns-in_err-item-clause-err g c =
    let p = err_from_is_err_and c.from_residual.result c.from_residual.ensures.1 in
    let more : length c.loop-i.items.items < c.args.quantity = omega (arith, c.loop-i.invariant.counted) in
    let k = c.in_err-item.ensures.err in
    rw (p.1, p.2) (ElementRefused c.loop-i.items.items c.loop-i.lent.input c.loop-i.empties k.0 (record { more = more; ran = c.loop-i.invariant.ran; few = c.loop-i.invariant.few }) k.1)

pub returns-in_err-empties-clause-err : goal.returns-in_err-empties-clause-err
returns-in_err-empties-clause-err g c =
    let p = err_from_is_err_and c.from_residual-in_err-empties.result c.from_residual-in_err-empties.ensures.1 in
    let more : length c.loop-i.items.items < c.args.quantity = omega (arith, c.loop-i.invariant.counted) in
    let k = c.in_ok-item.ensures.ok in
    let x = c.in_err-empties.ensures.err in
    rw (p.1, p.2) (TooManyEmpty c.loop-i.items.items c.loop-i.lent.input c.loop-i.empties c.in_ok-item.item k.0 (record { more = more; ran = c.loop-i.invariant.ran; few = c.loop-i.invariant.few }) k.1 x.0 (rw (c.remaining-before.ensures, c.remaining-left.ensures, k.2) at x.1) x.2)

pub returns-in-Err-clause-err : goal.returns-in-Err-clause-err
returns-in-Err-clause-err g c =
    let more : length c.loop-i.items.items < c.args.quantity = omega (arith, c.loop-i.invariant.counted) in
    let k = c.in_ok-item.ensures.ok in
    let n = c.in_ok-empties.ensures.ok in
    let count = rw (c.remaining-before.ensures, c.remaining-left.ensures, k.2) at n.0 in
    NoMemory c.loop-i.items.items c.loop-i.lent.input c.loop-i.empties c.in_ok-item.item k.0 (record { more = more; ran = c.loop-i.invariant.ran; few = c.loop-i.invariant.few }) k.1 (omega (arith, count, n.1)) c.want_of_memory.ensures

pub loop-i-preserved : goal.loop-i-preserved
loop-i-preserved g c =
    let k = c.in_ok-item.ensures.ok in
    let n = c.in_ok-empties.ensures.ok in
    let p = RanEach-push (FnReturnsAtMut g.F.Fn c.args.f) c.args.self.now c.args.start.now 0 c.loop-i.items.items c.loop-i.lent.input c.loop-i.empties c.in_ok-item.item k.0 c.loop-i.invariant.ran k.1 in
    record {
      counted = rw c.in-Ok.ensures.kept (omega (arith, length_push c.loop-i.items.items c.in_ok-item.item, c.loop-i.invariant.counted));
      lends = rw k.2 refl;
      ran = rw (c.in-Ok.ensures.kept, n.0, c.remaining-before.ensures, c.remaining-left.ensures, k.2) p;
      few = n.1;
    }
