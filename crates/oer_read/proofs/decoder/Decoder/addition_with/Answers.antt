use Rattle.std.proofs.Common.{refl}
use Rattle.oer_leaf_read.specs.Views.{bits_left}
use Rattle.oer_read.specs.Additions.{Inside, past_place}
use Rattle.oer_read.proofs.decoder.Decoder.addition_with.Goals as goal

pub returns-in-Err-open_type : goal.returns-in-Err-open_type
returns-in-Err-open_type g c = record {
  read = tt;
  same = refl;
  refused = Inside c.in-Some.content.now (past_place c.args.self.now (bits_left c.in-Ok.found.bits) c.in-Ok.found.rest.now) (rw c.in-Some.is at c.in-Ok.ensures) c.in-Err-open_type.ensures.err;
  octets = c.octets-octets.ensures.octets;
}

pub open_type-requires-clause-law : goal.open_type-requires-clause-law
open_type-requires-clause-law g c r t ran =
    c.requires.law c.in-Some.content.now (past_place c.args.self.now (bits_left c.in-Ok.found.bits) c.in-Ok.found.rest.now) r t (rw c.in-Some.is at c.in-Ok.ensures) ran
