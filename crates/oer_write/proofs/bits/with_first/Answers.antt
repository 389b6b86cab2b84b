use Rattle.std.proofs.Common.{◌*◌, ◌%◌, ◌^◌, ◌∷◌, ap, sym, ◌∙◌}
use Rattle.std.proofs.lemmas.Nat.{one_shl}
use Rattle.oer_write.specs.Bits.{low_bits}
use Rattle.oer_write.proofs.Words.{first_set}
use Rattle.oer_write.proofs.bits.with_first.Goals as goal

pub returns-then-bit-clause-bits : goal.returns-then-bit-clause-bits
returns-then-bit-clause-bits c =
    first_set c.args.count c.args.word ((1 * 2 ^ c.args.count) % 2 ^ 64) c.requires.small (one_shl c.args.count 64 c.requires.room)
    ∙ ap (λ b. b ∷ low_bits c.args.count c.args.word) (sym c.if-bit.true)
