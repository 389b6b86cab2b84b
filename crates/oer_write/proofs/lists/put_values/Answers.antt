use Rattle.std.proofs.Common.{refl, ◌∙◌, arith, ap}
use Rattle.std.proofs.lemmas.Result.{err_from_is_err_and}
use Rattle.oer_write.specs.Written.{Written}
use Rattle.oer_write.proofs.Elements.{one_more, broken_at}
use Rattle.oer_write.proofs.Keeping.{keeps_then}
use Rattle.oer_write.proofs.Lawful.{refused_shut, shut_of}
use Rattle.oer_write.proofs.lists.put_values.Goals as goal

pub loop-x-preserved : goal.loop-x-preserved
loop-x-preserved g c = record {
  keeps = keeps_then _ _ _ c.loop-x.invariant.keeps c.in_ok-empty_count.ensures.keeps;
  left = c.in_ok-empty_count.ensures.left ∙ ap (λ (w : Written). record w { octets = c.put_value.new.encoder.octets }) c.loop-x.invariant.left;
  so_far = one_more _ _ _ _ _ _ _ _ _ (omega arith) c.x-item.is c.loop-x.invariant.so_far c.in_ok-empty_count.ensures.done;
}

pub returns-in_err-empty_count-clause-refused : goal.returns-in_err-empty_count-clause-refused
returns-in_err-empty_count-clause-refused g c =
    let p = err_from_is_err_and c.from_residual.result c.from_residual.ensures.1 in
    rw (p.1, p.2) (broken_at _ _ _ _ _ _ _ (shut_of c.loop-x.encoder) (shut_of c.loop-x.encoder) (omega arith) c.x-item.is c.loop-x.invariant.so_far refl (refused_shut (g.E.Spelled.tree g.E.AsnType.CONSTRAINTS) g.E.Spelled.IsValue c.x-item.result c.loop-x.encoder c.put_value.new.encoder _ c.loop-x.empty_count c.in_err-empty_count.ensures.refused))
