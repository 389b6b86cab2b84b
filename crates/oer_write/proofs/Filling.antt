-- Octets that are put over others, or cut off.
use Rattle.std.proofs.Common.{◌≡◌, ℕ, ◌++◌, length, take, drop, ap, sym, ◌∙◌, append_assoc}
use Rattle.std.proofs.lemmas.List.{take-append-drop, take_at}
use Rattle.asn1_core.specs.Octets.{Octets}
use Rattle.oer_spec.specs.Writing.{BeginsWith}

pub begins_taken : (start : ℕ) (all new : Octets) → BeginsWith all new → BeginsWith (take start all) new
begins_taken start all new b = (drop start all ++ b.0, b.1 ∙ ap (λ (o : Octets). o ++ b.0) (sym (take-append-drop start all)) ∙ append_assoc (take start all) (drop start all) b.0)

-- what was written behind is cut off
pub cut_begun : (old new cut : Octets) (start : ℕ) → start ≡ length old → BeginsWith old new → cut ≡ take start new → cut ≡ old
cut_begun old new cut start s b e = e ∙ ap (take start) b.1 ∙ take_at old b.0 start (sym s)
