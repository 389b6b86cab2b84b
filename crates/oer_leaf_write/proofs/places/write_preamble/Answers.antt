use Rattle.std.proofs.Common.{arith, sym, ◌∙◌, length}
use Rattle.std.proofs.lemmas.Bool.{eqb-false}
use Rattle.oer_leaf_write.proofs.Packing.{pack_step}
use Rattle.oer_leaf_write.proofs.places.write_preamble.Goals as goal

pub loop-rest-preserved : goal.loop-rest-preserved
loop-rest-preserved c =
    pack_step c.args.out.now.items c.loop-rest.out.items c.push.new.self.items c.loop-rest.invariant.0 _ c.octet_of.result c.loop-rest.rest.now c.after_octet-rest.result.now
    (omega (arith, eqb-false (length c.loop-rest.rest.now) 0 (sym c.is_empty.ensures ∙ c.loop-rest-test.true))) c.octet_of.ensures c.after_octet-rest.ensures c.loop-rest.invariant.1 c.loop-rest.invariant.2 c.in_ok-push.ensures.items
