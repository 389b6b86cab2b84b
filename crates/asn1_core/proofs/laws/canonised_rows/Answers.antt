use Rattle.asn1_core.proofs.SortedByTag.{by_tag-order, by_tag-kept}
use Rattle.asn1_core.proofs.laws.canonised_rows.Goals as goal

pub returns : goal.returns
returns c = λ fields. record { order = by_tag-order fields; kept = λ t. by_tag-kept t fields }
