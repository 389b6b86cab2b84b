use Rattle.std.proofs.Common.{◌≡◌, length, take, ap, ◌∙◌, arith}
use Rattle.std.specs.Slice.Iter.{iter_rest}
use Rattle.std.proofs.lemmas.Iterator.{YieldsList-from_slice}
use Rattle.std.proofs.lemmas.Iterator.Consumers.{YieldsList-turn, YieldsList-end}
use Rattle.std.proofs.lemmas.List.{length_push, take_all}
use Rattle.std.proofs.lemmas.Result.{err_from_is_err_and}
use Rattle.oer_write.proofs.Gathering.{gathered_more, gathered_first, gathered_broken}
use Rattle.oer_write.proofs.unordered.contents_of.Goals as goal

pub loop-x-preserved : goal.loop-x-preserved
loop-x-preserved g c =
    let walked = YieldsList-from_slice c.args.elements.now (ap iter_rest c.into_iter-x-iterator.ensures.into_iter_gives ∙ c.iter-x-items.ensures) in
    let turn = YieldsList-turn walked c.loop-x.yielded _ c.loop-x.yielded_by _ _ c.in-Some.x c.in-Some.is c.next.ensures.steps in
    rw (length_push c.loop-x.yielded c.in-Some.x) (record {
      gathered = gathered_more _ _ _ _ _ _ _ _ _ turn.0 turn.1 c.loop-x.invariant.gathered c.in_ok-empty_count.ensures.done;
      whole = c.in_ok-empty_count.ensures.whole;
      none = c.in_ok-empty_count.ensures.none;
    })

pub returns-in_err-empty_count-clause-refused : goal.returns-in_err-empty_count-clause-refused
returns-in_err-empty_count-clause-refused g c =
    let walked = YieldsList-from_slice c.args.elements.now (ap iter_rest c.into_iter-x-iterator.ensures.into_iter_gives ∙ c.iter-x-items.ensures) in
    let turn = YieldsList-turn walked c.loop-x.yielded _ c.loop-x.yielded_by _ _ c.in-Some.x c.in-Some.is c.next.ensures.steps in
    let p = err_from_is_err_and c.from_residual-in_err-empty_count.result c.from_residual-in_err-empty_count.ensures.1 in
    rw (p.1, p.2) (gathered_broken _ _ _ (gathered_first _ _ _ _ _ _ _ _ turn.0 turn.1 c.loop-x.invariant.gathered c.in_err-empty_count.ensures.refused c.in_err-empty_count.ensures.mode))

pub returns-in_err-empty_count-clause-first : goal.returns-in_err-empty_count-clause-first
returns-in_err-empty_count-clause-first g c =
    let walked = YieldsList-from_slice c.args.elements.now (ap iter_rest c.into_iter-x-iterator.ensures.into_iter_gives ∙ c.iter-x-items.ensures) in
    let turn = YieldsList-turn walked c.loop-x.yielded _ c.loop-x.yielded_by _ _ c.in-Some.x c.in-Some.is c.next.ensures.steps in
    let p = err_from_is_err_and c.from_residual-in_err-empty_count.result c.from_residual-in_err-empty_count.ensures.1 in
    rw (p.1, p.2) (gathered_first _ _ _ _ _ _ _ _ turn.0 turn.1 c.loop-x.invariant.gathered c.in_err-empty_count.ensures.refused c.in_err-empty_count.ensures.mode)

pub returns-clause-done : goal.returns-clause-done
returns-clause-done g c =
    let walked = YieldsList-from_slice c.args.elements.now (ap iter_rest c.into_iter-x-iterator.ensures.into_iter_gives ∙ c.iter-x-items.ensures) in
    let end = YieldsList-end walked c.loop-x.yielded _ c.loop-x.yielded_by _ _ c.in-None.is c.next.ensures.steps in
    let all : take (length c.loop-x.yielded) c.args.elements.now ≡ c.args.elements.now = take_all _ _ (omega (arith, end.1)) in
    (c.loop-x.empty_count, rw (← all) c.loop-x.invariant.gathered)
