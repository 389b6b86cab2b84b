use Rattle.asn1_times.proofs.OneText.{utc_once, generalized_once, date_once}
use Rattle.asn1_times.proofs.TimeTexts.{utc_law, generalized_law, date_law}
use Rattle.asn1_times.proofs.laws.texts.Goals as goal

pub returns-clause-utc : goal.returns-clause-utc
returns-clause-utc c = utc_law

pub returns-clause-generalized : goal.returns-clause-generalized
returns-clause-generalized c = generalized_law

pub returns-clause-date : goal.returns-clause-date
returns-clause-date c = date_law

pub returns-clause-one_utc : goal.returns-clause-one_utc
returns-clause-one_utc c = utc_once

pub returns-clause-one_generalized : goal.returns-clause-one_generalized
returns-clause-one_generalized c = generalized_once

pub returns-clause-one_date : goal.returns-clause-one_date
returns-clause-one_date c = date_once
