-- What a value of `Envelope` holds weighs less than it does.
use Rattle.std.specs.Prelude.{◌<◌, ℕ, max}
use Rattle.std.proofs.Common.{arith}
use Rattle.oer_kept.specs.KeptKnots.{kept_weight as weight-kept}
use Rattle.example_recursive.specs.declared.types_01.BodyAlternatives.{BodyAlternatives}
use Rattle.example_recursive.specs.declared.types_01.BodyAlternatives.TheVariants.{Inner as BodyInner}
use Rattle.example_recursive.specs.declared.types_01.envelope_components.Envelope.{Envelope as EnvelopeComponents}
use Rattle.example_recursive.specs.declared.types_01.Envelope.{Envelope, out-Envelope, size-Envelope, size_is-Envelope}

abbrev pub body_weight : {K : Type 0} → (K → ℕ) → BodyAlternatives K → ℕ
body_weight size (BodyInner x) = size x.0.value
body_weight size _ = 0

abbrev pub envelope_weight : {K : Type 0} → (K → ℕ) → EnvelopeComponents K → ℕ
envelope_weight size v = max (weight-kept (body_weight size) v.body) 0

pub envelope_smaller : (v : Envelope) → envelope_weight size-Envelope (out-Envelope v).0.0 < size-Envelope v
envelope_smaller v = grind (arith, size_is-Envelope v)
