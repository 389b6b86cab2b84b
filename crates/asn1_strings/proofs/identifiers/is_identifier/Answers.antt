use Rattle.std.proofs.Common.{◌∙◌, arith}
use Rattle.asn1_strings.proofs.IdentifierLists.{each_is_arc, start_is}
use Rattle.asn1_strings.proofs.identifiers.is_identifier.Goals as goal

pub returns-in-len2-up : goal.returns-in-len2-up
returns-in-len2-up c =
    c.is_start.ensures ∙ start_is c.args.arcs.now c.in-len2-up.len_at_least (each_is_arc c.args.arcs.now (λ k. let fits = c.type_inv.arcs k in omega arith))
