use Rattle.std.proofs.Common.{◌≡◌, drop}
use Rattle.asn1_core.specs.Tags.{holds}
use Rattle.oer_spec.proofs.choices.is_among.Given as goal

abbrev pub invariant-loop-known : goal.invariant-loop-known
invariant-loop-known l = holds l.tags l.tag ≡ holds (drop l.known-index l.tags) l.tag
