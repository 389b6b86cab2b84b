use Rattle.std.proofs.Common.{◌/◌, length, arith}
use Rattle.oer_rows.proofs.literals.universal_from.Goals as goal

pub from_text-requires : goal.from_text-requires
from_text-requires c = (length c.args.octets.now / 4, omega arith)
