use Rattle.std.proofs.Common.{◌∙◌}
use Rattle.std.proofs.lemmas.Bool.{false≢true}
use Rattle.asn1_times.proofs.TimeTexts.{date_obeys}
use Rattle.asn1_times.proofs.times.Date.from_text.Goals as goal

pub returns-in-None-clause-none : goal.returns-in-None-clause-none
returns-in-None-clause-none c = λ t is. false≢true (c.in-None.ensures.found ∙ date_obeys t c.args.text.now is)
