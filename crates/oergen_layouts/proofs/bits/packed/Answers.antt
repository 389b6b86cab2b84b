use Rattle.std.proofs.Common.{arith, sym, ◌∙◌, length}
use Rattle.std.proofs.lemmas.Bool.{eqb-false}
use Rattle.oergen_layouts.proofs.Packing.{pack_step}
use Rattle.oergen_layouts.proofs.bits.packed.Goals as goal

pub loop-rest-preserved : goal.loop-rest-preserved
loop-rest-preserved c =
    pack_step c.loop-rest.octets.items c.push.new.self.items _ c.octet_of.result c.loop-rest.rest.now c.after_octet-rest.result.now
    (omega (arith, eqb-false (length c.loop-rest.rest.now) 0 (sym c.is_empty.ensures ∙ c.loop-rest-test.true))) c.octet_of.ensures c.after_octet-rest.ensures c.loop-rest.invariant c.in_ok-push.ensures.items
