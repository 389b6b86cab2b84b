use Rattle.std.proofs.Common.{◌≡◌, drop}
use Rattle.oer_write.specs.Scopes.{any_true}
use Rattle.oer_write.proofs.bits.any.Given as goal

abbrev pub invariant-loop-bit : goal.invariant-loop-bit
invariant-loop-bit l = any_true l.bits ≡ any_true (drop l.bit-index l.bits)
