use Rattle.oergen_layouts.proofs.OwnTags.{own_more, not_own}
use Rattle.oergen_layouts.proofs.rows.require_tags.Goals as goal

pub returns-in-Some : goal.returns-in-Some
returns-in-Some c = λ own. not_own c.args.rows.now c.loop-at.at c.index-rows-at.result c.in-Some.other c.loop-at-test.true c.index-rows-at.is c.in-Some.ensures.0 c.in-Some.ensures.1 own

pub loop-at-preserved : goal.loop-at-preserved
loop-at-preserved c = own_more c.args.rows.now c.loop-at.at c.index-rows-at.result c.loop-at-test.true c.index-rows-at.is c.loop-at.invariant c.if-is_none.ensures c.in_default.ensures
