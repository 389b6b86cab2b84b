use Rattle.asn1_core.specs.MultisetLaws.{same_items-decides}
use Rattle.asn1_core.proofs.laws.equal_sets.Goals as goal

pub returns : goal.returns
returns g c = same_items-decides g.T.PartialEq.eq g.met.T.PartialEq.laws
