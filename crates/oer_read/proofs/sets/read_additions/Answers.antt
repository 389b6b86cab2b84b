use Rattle.std.proofs.Common.{◌≡◌, ◌+◌, suc, map, arith, drop}
use Rattle.std.proofs.lemmas.Result.{err_from_is_err_and}
use Rattle.asn1_core.specs.Rows.{row}
use Rattle.oer_read.specs.Sets.{addition_calls, FieldReturns}
use Rattle.oer_read.proofs.SetSteps.{additions_next, additions_refused, additions_called, additions_done, drop_next, drop_all}
use Rattle.oer_read.proofs.sets.read_additions.Goals as goal

pub read_field-requires : goal.read_field-requires
read_field-requires g c = record {
  callable = c.requires.callable _ _ (additions_called (FieldReturns g.D.Fn c.args.decode_fn.now) c.args.inner.now (addition_calls c.args.first (map row c.args.additions.now)) c.args.fields.now.items c.loop-field.inner (drop c.loop-field.field-index c.args.additions.now) _ (drop (c.loop-field.field-index + 1) c.args.additions.now) c.loop-field.index c.loop-field.fields.items
      c.loop-field.invariant.so_far (drop_next c.args.additions.now c.loop-field.field-index _ c.loop-field-test.true));
}

pub loop-field-preserved : goal.loop-field-preserved
loop-field-preserved g c =
    let (v, ran, items) = c.in_ok-read_field.ensures.ok in
    let next : c.loop-field.index + 1 ≡ suc c.loop-field.index = omega arith in
    record {
      so_far = rw items (additions_next (FieldReturns g.D.Fn c.args.decode_fn.now) c.args.inner.now (addition_calls c.args.first (map row c.args.additions.now)) c.args.fields.now.items c.loop-field.inner (drop c.loop-field.field-index c.args.additions.now) _ (drop (c.loop-field.field-index + 1) c.args.additions.now) c.loop-field.index (c.loop-field.index + 1) c.loop-field.fields.items v c.read_field.new.inner
          c.loop-field.invariant.so_far (drop_next c.args.additions.now c.loop-field.field-index _ c.loop-field-test.true) next ran);
      counted = let e = c.loop-field.invariant.counted in omega (arith, e);
    }

pub returns-in_err-read_field-clause-err : goal.returns-in_err-read_field-clause-err
returns-in_err-read_field-clause-err g c =
    let p = err_from_is_err_and c.from_residual.result c.from_residual.ensures.1 in
    rw (p.1, p.2) (additions_refused (FieldReturns g.D.Fn c.args.decode_fn.now) c.args.inner.now (addition_calls c.args.first (map row c.args.additions.now)) c.args.fields.now.items c.loop-field.inner (drop c.loop-field.field-index c.args.additions.now) _ (drop (c.loop-field.field-index + 1) c.args.additions.now) c.loop-field.index c.loop-field.fields.items _
    c.loop-field.invariant.so_far (drop_next c.args.additions.now c.loop-field.field-index _ c.loop-field-test.true) c.in_err-read_field.ensures.err)

pub returns-clause-ok : goal.returns-clause-ok
returns-clause-ok g c =
    additions_done (FieldReturns g.D.Fn c.args.decode_fn.now) c.args.inner.now (addition_calls c.args.first (map row c.args.additions.now)) c.args.fields.now.items c.loop-field.inner (drop c.loop-field.field-index c.args.additions.now) c.loop-field.index c.loop-field.fields.items c.loop-field.invariant.so_far (drop_all c.args.additions.now c.loop-field.field-index c.loop-field-test.false)
