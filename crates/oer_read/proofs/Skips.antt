-- Where no bit is left nothing is skipped.
use Rattle.std.proofs.Common.{[], ◌∷◌, List, Bool, true, Ok, refl, ◌≡◌}
use Rattle.asn1_core.specs.Octets.{Octets}
use Rattle.asn1_core.specs.declared.codec.Codec.{Codec}
use Rattle.oer_spec.specs.Bits.{has_no_bit}
use Rattle.oer_spec.specs.ReadingBits.{skipped_at}

pub none_skipped : (codec : Codec) (b : List Bool) (input : Octets) → has_no_bit b ≡ true → skipped_at codec b input ≡ Ok input
unfolding skipped_at
none_skipped codec [] input e = refl
none_skipped codec (x ∷ b) input e = absurd (cc e)
