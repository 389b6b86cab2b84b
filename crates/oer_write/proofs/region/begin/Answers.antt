use Rattle.std.proofs.Common.{◌≡◌, length, rules}
use Rattle.oer_write.proofs.Regions.{begun_around, begun_within, begun_laid}
use Rattle.oer_write.proofs.region.begin.Goals as goal

pub returns-clause-octets : goal.returns-clause-octets
returns-clause-octets c =
    let e : c.args.region.now.last ≡ c.args.region.now.first = search rules in
    let n : c.len-start.result ≡ length c.args.out.now.items = search rules in
    begun_around c.args.region.now c.args.out.now.items c.args.insertions.now c.open.new.self c.len-start.result c.len-opens.result c.len.result c.requires e n c.len-opens.ensures c.in_ok-open.ensures.done c.len.ensures

pub returns-clause-opens : goal.returns-clause-opens
returns-clause-opens c =
    let e : c.args.region.now.last ≡ c.args.region.now.first = search rules in
    let n : c.len-start.result ≡ length c.args.out.now.items = search rules in
    begun_within c.args.region.now c.args.out.now.items c.args.insertions.now c.open.new.self c.len-start.result c.len-opens.result c.len.result c.requires e n c.len-opens.ensures c.in_ok-open.ensures.done c.len.ensures

pub returns-clause-laid : goal.returns-clause-laid
returns-clause-laid c =
    let e : c.args.region.now.last ≡ c.args.region.now.first = search rules in
    let n : c.len-start.result ≡ length c.args.out.now.items = search rules in
    begun_laid c.args.region.now c.args.out.now.items c.args.insertions.now c.open.new.self c.len-start.result c.len-opens.result c.len.result c.requires e n c.len-opens.ensures c.in_ok-open.ensures.done c.len.ensures
