use Rattle.oergen_layouts.proofs.Alternatives.{behind_target}
use Rattle.oergen_layouts.proofs.untagged.type_of.Goals as goal

pub returns-in-Some : goal.returns-in-Some
returns-in-Some c = behind_target c.args.all.now c.args.part.now c.in-Some.target c.behind_names.result c.get.result c.in-Some.is c.behind_names.ensures c.get.ensures.lookup
