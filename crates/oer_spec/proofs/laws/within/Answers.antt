use Rattle.oer_spec.proofs.Within.{own_sized_within_canonical, canonical_within_lenient}
use Rattle.oer_spec.proofs.laws.within.Goals as goal

pub returns : goal.returns
returns c = record { own_sized = λ d o t i f. own_sized_within_canonical t d o f; canonical = λ d o t i f. canonical_within_lenient t d o f }
