use Rattle.oer_spec.proofs.Skips.{skips_lenient, skips_canonical}
use Rattle.oer_spec.proofs.laws.skips.Goals as goal

pub returns : goal.returns
returns c = record { leniently = λ d o n t i j f g. skips_lenient n t d o i j f g; canonically = λ d o n t i j f g. skips_canonical n t d o i j f g }
