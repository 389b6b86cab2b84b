use Rattle.std.proofs.Common.{sym, ◌∙◌, map}
use Rattle.std.proofs.lemmas.Result.{err_from_is_err_and}
use Rattle.asn1_core.specs.Rows.{row}
use Rattle.asn1_core.specs.Tables.{canonised_rest}
use Rattle.oer_leaf_read.specs.Views.{bits_left}
use Rattle.oer_read.specs.Sets.{root_calls, FieldReturns}
use Rattle.oer_read.proofs.SetSteps.{roots_next, roots_called, roots_refused, roots_done}
use Rattle.oer_read.proofs.sets.read_roots.Goals as goal

pub read_field-requires : goal.read_field-requires
read_field-requires g c = record {
  callable = c.requires.callable _ _ (roots_called (FieldReturns g.D.Fn c.args.decode_fn.now) c.args.inner.now (root_calls (map row (canonised_rest c.args.rows)) (bits_left c.args.presence)) c.args.fields.now.items c.loop-field.inner (canonised_rest c.loop-field.rows) c.in-Some.field (canonised_rest c.next.new.self) (bits_left c.loop-field.bits) c.loop-field.fields.items
      c.loop-field.invariant c.in-Some.ensures.steps (sym c.take_presence-is_there.ensures.there ∙ c.if-is_there.true));
}

pub loop-field-preserved-in-Continue-1 : goal.loop-field-preserved-in-Continue-1
loop-field-preserved-in-Continue-1 g c =
    let (v, ran, items) = c.in_ok-read_field.ensures.ok in
    rw items (roots_next (FieldReturns g.D.Fn c.args.decode_fn.now) c.args.inner.now (root_calls (map row (canonised_rest c.args.rows)) (bits_left c.args.presence)) c.args.fields.now.items c.loop-field.inner (canonised_rest c.loop-field.rows) c.in-Some.field (canonised_rest c.next.new.self) (bits_left c.loop-field.bits) (bits_left c.take_presence-is_there.result.1) c.loop-field.fields.items v c.read_field.new.inner
    c.loop-field.invariant c.in-Some.ensures.steps (sym c.take_presence-is_there.ensures.there ∙ c.if-is_there.true) c.take_presence-is_there.ensures.rest ran)

pub returns-clause-ok : goal.returns-clause-ok
returns-clause-ok g c =
    roots_done (FieldReturns g.D.Fn c.args.decode_fn.now) c.args.inner.now (root_calls (map row (canonised_rest c.args.rows)) (bits_left c.args.presence)) c.args.fields.now.items c.loop-field.inner (canonised_rest c.loop-field.rows) (bits_left c.loop-field.bits) c.loop-field.fields.items c.loop-field.invariant
    (rw c.in_default.is at c.next.ensures.steps).0

pub returns-in_err-read_field-clause-err : goal.returns-in_err-read_field-clause-err
returns-in_err-read_field-clause-err g c =
    let p = err_from_is_err_and c.from_residual.result c.from_residual.ensures.1 in
    rw (p.1, p.2) (roots_refused (FieldReturns g.D.Fn c.args.decode_fn.now) c.args.inner.now (root_calls (map row (canonised_rest c.args.rows)) (bits_left c.args.presence)) c.args.fields.now.items c.loop-field.inner (canonised_rest c.loop-field.rows) c.in-Some.field (canonised_rest c.next.new.self) (bits_left c.loop-field.bits) c.loop-field.fields.items _
    c.loop-field.invariant c.in-Some.ensures.steps (sym c.take_presence-is_there.ensures.there ∙ c.if-is_there.true) c.in_err-read_field.ensures.err)
