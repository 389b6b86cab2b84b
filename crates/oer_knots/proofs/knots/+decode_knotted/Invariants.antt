use Rattle.std.proofs.Common.{◌+◌, ◌*◌}
use Rattle.oer_knots.proofs.knots.+decode_knotted.Given as goal

abbrev pub decreases-decode_knotted : goal.decreases-decode_knotted
decreases-decode_knotted g l = 2 * l.decoder.now.levels + 1

abbrev pub decreases-read : goal.decreases-read
decreases-read g l = 2 * l.levels
