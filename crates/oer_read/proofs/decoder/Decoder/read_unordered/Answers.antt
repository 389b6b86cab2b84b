use Rattle.std.proofs.Common.{◌<◌, ◌++◌, ◌∷◌, [], length, sym, ◌∙◌, arith}
use Rattle.std.proofs.lemmas.List.{length_push}
use Rattle.oer_read.specs.Lists.{FnReturnsAtMut}
use Rattle.oer_read.specs.Unordered.{AtNext, NoMemory}
use Rattle.oer_read.proofs.UnorderedSteps.{push, empties_push, last_push}
use Rattle.oer_read.proofs.decoder.Decoder.read_unordered.Goals as goal

pub next_element-requires-clause-callable : goal.next_element-requires-clause-callable
next_element-requires-clause-callable g c =
    let (os, count, so_far, n, last, lends) = c.loop-i.invariant in
    c.requires.callable c.loop-i.lent.input (record { before = c.loop-i.items.items; elements = os; so_far = so_far; more = omega (arith, count) })

pub next_element-requires-clause-keeps : goal.next_element-requires-clause-keeps
next_element-requires-clause-keeps g c v after ran =
    let (os, count, so_far, n, last, lends) = c.loop-i.invariant in
    c.requires.keeps c.loop-i.lent.input v after (record { before = c.loop-i.items.items; elements = os; so_far = so_far; more = omega (arith, count) }) ran

pub returns-in-Err-clause-err : goal.returns-in-Err-clause-err
returns-in-Err-clause-err g c =
    let (os, count, so_far, n, last, lends) = c.loop-i.invariant in
    let few : length c.loop-i.items.items < c.args.quantity = omega (arith, count) in
    AtNext c.loop-i.items.items os c.loop-i.lent.input few so_far (rw (n, last) at c.in-Err.ensures.err)

pub returns-in-Err-keep-clause-err : goal.returns-in-Err-keep-clause-err
returns-in-Err-keep-clause-err g c =
    let (os, count, so_far, n, last, lends) = c.loop-i.invariant in
    let k = rw (n, last) at c.in-Ok.ensures.ok in
    NoMemory c.loop-i.items.items os c.loop-i.lent.input c.in-Ok.item c.in-Ok.octets.now c.next_element.new.lent.input c.in-Ok.count (omega (arith, count)) so_far k c.want_of_memory.ensures

pub loop-i-preserved : goal.loop-i-preserved
loop-i-preserved g c =
    let (os, count, so_far, n, last, lends) = c.loop-i.invariant in
    let k = rw (n, last) at c.in-Ok.ensures.ok in
    let items = c.in-Ok-keep.ensures.kept in
    let p = push (FnReturnsAtMut g.F.Fn c.args.f) c.args.self.now c.args.start.now c.loop-i.items.items os c.loop-i.lent.input c.in-Ok.item c.in-Ok.octets.now c.next_element.new.lent.input c.in-Ok.count so_far k in
    let e = empties_push os c.in-Ok.octets.now in
    let m = k.counted in (
      os ++ c.in-Ok.octets.now ∷ [],
      rw items (omega (arith, length_push c.loop-i.items.items c.in-Ok.item, count)),
      rw items p,
      m ∙ sym e,
      sym (last_push os c.in-Ok.octets.now),
      c.in-Ok.ensures.lent,
    )
