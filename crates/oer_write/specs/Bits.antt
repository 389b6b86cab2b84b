-- How presence bits and bitmaps are seen.
use Rattle.std.specs.Prelude.{◌≡◌, ℕ, zero, suc, ◌/◌, ◌^◌, ◌<◌, ◌≤◌, Bool, List, [], ◌∷◌, ◌++◌}
use Rattle.asn1_core.specs.Numbers.{low_octets}
use Rattle.asn1_core.specs.Octets.{is_odd, pack}
use Rattle.oer_write.specs.declared.bits.Bits.TheInside.{Inside}

-- so many of a number's lowest bits, the lowest last
abbrev pub low_bits : ℕ → ℕ → List Bool
low_bits zero w = []
low_bits (suc n) w = low_bits n (w / 2) ++ (is_odd w ∷ [])

-- the bits of the word, and those that it has no room for
abbrev pub bits_seen : Inside → List Bool
bits_seen b = low_bits b.count b.word ++ b.more.items

pub record AreCounted (b : Inside) : Type 0 where
  pub few : b.count ≤ 64
  pub small : b.word < 2 ^ b.count
  pub full : b.count < 64 → b.more.items ≡ []

-- the lowest octets of the number are the bits in whole octets
pub record ArePacked (octets number : ℕ) (bits : List Bool) : Type 0 where
  pub few : octets ≤ 8
  pub same : low_octets octets number ≡ pack bits
