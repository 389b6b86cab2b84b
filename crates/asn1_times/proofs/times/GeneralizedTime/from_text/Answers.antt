use Rattle.std.proofs.Common.{◌∙◌}
use Rattle.std.proofs.lemmas.Bool.{false≢true}
use Rattle.asn1_times.proofs.TimeTexts.{generalized_obeys}
use Rattle.asn1_times.proofs.times.GeneralizedTime.from_text.Goals as goal

pub returns-in-None-clause-none : goal.returns-in-None-clause-none
returns-in-None-clause-none c = λ t is. false≢true (c.in-None.ensures.found ∙ generalized_obeys t c.args.text.now is)
