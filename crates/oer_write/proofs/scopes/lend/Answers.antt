use Rattle.std.proofs.Common.{rules}
use Rattle.oer_write.specs.Scopes.{Promise}
use Rattle.oer_write.proofs.scopes.lend.Goals as goal

pub returns-clause-keeps : goal.returns-clause-keeps
returns-clause-keeps g c =
    let ran : Promise g.F.FnOnce c.args.f c.args.encoder.now c.f.result c.f.new.arg2 = search rules in
    c.requires.orderly _ _ ran
