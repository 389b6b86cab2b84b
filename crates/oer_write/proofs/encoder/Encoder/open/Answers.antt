use Rattle.std.proofs.Common.{◌≡◌, length, rules}
use Rattle.oer_write.proofs.Regions.{opened_seen}
use Rattle.oer_write.proofs.encoder.Encoder.open.Goals as goal

pub returns : goal.returns
returns c =
    let n : c.len-start.result ≡ length c.args.output.now.items = search rules in
    let e = c.open.ensures in
    opened_seen c.open.result c.args.is_set c.args.extensible c.args.output.now.items c.args.insertions c.len-start.result c.len-first.result e.region n c.len-first.ensures e.is_open e.is_set e.extensible e.presence e.components e.bitmap e.opens c.requires
