use Rattle.std.proofs.Common.{◌≡◌, length, rules}
use Rattle.oer_write.proofs.Regions.{lent_seen}
use Rattle.oer_write.proofs.encoder.Encoder.lent.Goals as goal

pub returns : goal.returns
returns c =
    let n : c.len-start.result ≡ length c.args.output.now.items = search rules in
    let e = c.none.ensures in
    lent_seen c.none.result c.args.is_inside c.args.output.now.items c.args.insertions c.len-start.result c.len-first.result e.region n c.len-first.ensures e.is_open e.is_set e.extensible e.presence e.components e.bitmap e.opens c.requires.ascends
