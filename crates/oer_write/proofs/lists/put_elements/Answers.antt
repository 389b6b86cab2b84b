use Rattle.std.proofs.Common.{◌∙◌, arith, sym}
use Rattle.std.proofs.lemmas.Result.{err_from_is_err_and}
use Rattle.oer_write.proofs.Elements.{one_more, broken_at}
use Rattle.oer_write.proofs.Keeping.{keeps_then}
use Rattle.oer_write.proofs.lists.put_elements.Goals as goal

pub put_element-requires-clause-orderly : goal.put_element-requires-clause-orderly
put_element-requires-clause-orderly g c = λ e e' r h p. c.requires.orderly c.x-item.result e e' r (c.loop-x.x-index, omega arith, sym c.x-item.is) h p

pub loop-x-preserved : goal.loop-x-preserved
loop-x-preserved g c = record {
  shut = c.in_ok-empty_count.ensures.keeps.is_open ∙ c.loop-x.invariant.shut;
  keeps = keeps_then _ _ _ c.loop-x.invariant.keeps c.in_ok-empty_count.ensures.keeps;
  so_far = one_more _ _ _ _ _ _ _ _ _ (omega arith) c.x-item.is c.loop-x.invariant.so_far c.in_ok-empty_count.ensures.done;
}

pub returns-in_err-empty_count-clause-refused : goal.returns-in_err-empty_count-clause-refused
returns-in_err-empty_count-clause-refused g c =
    let p = err_from_is_err_and c.from_residual.result c.from_residual.ensures.1 in
    rw (p.1, p.2) (broken_at _ _ _ _ _ _ _ _ _ (omega arith) c.x-item.is c.loop-x.invariant.so_far c.loop-x.invariant.shut c.in_err-empty_count.ensures.refused)
