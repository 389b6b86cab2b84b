use Rattle.oer_spec.proofs.Lifts.{lift}
use Rattle.oer_spec.proofs.laws.lifts.Goals as goal

pub returns : goal.returns
returns c d t n i j b f f' l = lift t n d i j b f f' l
