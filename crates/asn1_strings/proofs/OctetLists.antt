-- Lists of octets.
use Rattle.std.proofs.Common.{ℕ, suc, ◌<◌, [], ◌∷◌, get_or}
use Rattle.asn1_core.specs.Octets.{Octets, AreOctets}

-- each element of a slice of octets is one
pub are_octets : (o : Octets) → ((k : ℕ) → get_or o k 0 < 256) → AreOctets o
are_octets [] h = tt
are_octets (x ∷ xs) h = (h 0, are_octets xs (λ k. h (suc k)))
