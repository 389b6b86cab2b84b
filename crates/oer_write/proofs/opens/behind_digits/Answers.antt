use Rattle.std.proofs.Common.{arith, refl}
use Rattle.oer_write.proofs.Mapped.{length_is}
use Rattle.oer_write.proofs.opens.behind_digits.Goals as goal

pub overflow_add-result : goal.overflow_add-result
overflow_add-result c =
    let t = length_is c.args.digits c.args.size _ c.requires.some c.requires.digits c.requires.few refl in
    omega (arith, t.0)

pub returns-clause-number : goal.returns-clause-number
returns-clause-number c =
    let t = length_is c.args.digits c.args.size _ c.requires.some c.requires.digits c.requires.few refl in t.1
