use Rattle.oer_write.proofs.Regions.{bare_seen}
use Rattle.oer_write.proofs.encoder.Encoder.from_buffer.Goals as goal

pub returns-clause-encoder : goal.returns-clause-encoder
returns-clause-encoder c =
    let e = c.none.ensures in
    bare_seen c.none.result c.args.output.now.items c.new.result e.region c.new.ensures e.is_open e.is_set e.extensible e.presence e.components e.bitmap e.opens
