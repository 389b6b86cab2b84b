use Rattle.example_recursive.proofs.types_07.NewestFromB31SlottedAdditions.taken.Goals as goal
use Rattle.std.proofs.Common.{ap}

pub taken-requires : goal.taken-requires
taken-requires c = (c.requires.0.0, ap (λ z. z.0) c.requires.1)
