use Rattle.std.proofs.Common.{refl}
use Rattle.oer_leaf_read.specs.Views.{bits_left}
use Rattle.oer_read.specs.Additions.{Inside, past_place}
use Rattle.oer_read.proofs.decoder.Decoder.addition.Goals as goal

pub returns-in-Err-open_typed : goal.returns-in-Err-open_typed
returns-in-Err-open_typed g c = record {
  read = tt;
  same = refl;
  refused = Inside c.in-Some.content.now (past_place c.args.self.now (bits_left c.in-Ok.found.bits) c.in-Ok.found.rest.now) (rw c.in-Some.is at c.in-Ok.ensures) c.in-Err-open_typed.ensures.err;
  octets = c.octets-octets.ensures.octets;
}
