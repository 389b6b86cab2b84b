-- The two sets of rules.
use Rattle.std.specs.Prelude.{Bool, true, false}
use Rattle.oer_write.specs.declared.rules.EncodingRules.{EncodingRules}
use Rattle.oer_write.specs.declared.rules.EncodingRules.TheVariants.{Oer, Coer}

abbrev pub is_oer : EncodingRules → Bool
is_oer Oer = true
is_oer Coer = false

abbrev pub is_coer : EncodingRules → Bool
is_coer Oer = false
is_coer Coer = true
