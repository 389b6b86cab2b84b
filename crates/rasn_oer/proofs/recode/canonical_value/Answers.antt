use Rattle.rasn_oer.proofs.Conversions.{canonicalised}
use Rattle.rasn_oer.proofs.recode.canonical_value.Goals as goal

pub returns-clause-octets : goal.returns-clause-octets
returns-clause-octets g c =
    let t = g.T.Spelled in
    let k = g.T.AsnType in
    canonicalised (t.tree k.CONSTRAINTS) t.IsValue (t.is_tree k.CONSTRAINTS k.consistent) 128 c.args.input.now c.in-Ok-encode_value.octets.items c.in-Ok.rest.now c.in-Ok.value
    (rw (c.oer.ensures, c.CONSTRAINTS.ensures) at c.in-Ok.ensures.read)
    (rw c.CONSTRAINTS-in-Ok.ensures at c.in-Ok-encode_value.ensures)

pub returns-clause-says : goal.returns-clause-says
returns-clause-says g c =
    (c.in-Ok.value, rw c.CONSTRAINTS-in-Ok.ensures at c.in-Ok-encode_value.ensures, rw (c.oer.ensures, c.CONSTRAINTS.ensures) at c.in-Ok.ensures.says)

pub returns-in-Err-encode_value-clause-says : goal.returns-in-Err-encode_value-clause-says
returns-in-Err-encode_value-clause-says g c =
    (c.in-Ok.value, c.in-Ok.rest, rw c.CONSTRAINTS-in-Ok.ensures at c.in-Err-encode_value.ensures, rw (c.oer.ensures, c.CONSTRAINTS.ensures) at c.in-Ok.ensures.says)
