use Rattle.oer_leaf_read.proofs.ReadValues.{times_front}
use Rattle.oer_leaf_read.proofs.times.read_time.Goals as goal

pub returns-clause-relation : goal.returns-clause-relation
returns-clause-relation g c =
    let type = g.T.TimeType in
    let laws = g.met.T.TimeType in
    λ fields. times_front type.is_text type.rule laws.unit laws.tells c.args.codec type.text laws.obeys fields _ c.args.input.now c.time.result c.type_inv.input c.time.ensures.function
