use Rattle.oer_spec.proofs.Canonical.{own_is_canonical, same_octets}
use Rattle.oer_spec.proofs.Fronts.{no_front}
use Rattle.oer_spec.proofs.WrittenTrees.{spelt}
use Rattle.oer_spec.proofs.laws.canonical.Goals as goal

pub returns : goal.returns
returns c = record {
  own_sized = λ d o t i f. own_is_canonical t d o f;
  written = λ d t i f l. (spelt t d i f l).0;
  same = λ t u i j s. same_octets t u s;
  no_front = λ t u more i j f g a e. no_front t u i j f g a more e;
}
