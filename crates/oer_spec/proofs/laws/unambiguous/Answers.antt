use Rattle.std.proofs.Common.{◌∙◌, sym, append-nil, []}
use Rattle.oer_spec.proofs.Unambiguous.{unique}
use Rattle.oer_spec.proofs.laws.unambiguous.Goals as goal

pub returns : goal.returns
returns c m d e o p more t u i j a f g q = unique t u m d e o p more [] i j a f g (sym q ∙ sym (append-nil p))
