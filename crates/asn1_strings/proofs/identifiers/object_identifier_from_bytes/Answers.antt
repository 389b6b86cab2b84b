use Rattle.std.specs.Option.{option_map}
use Rattle.std.proofs.Common.{◌≡◌, ℕ, Vec, Global, List, Option, Some, refl, sym, ap, ◌∙◌, inr, arith}
use Rattle.asn1_core.specs.Octets.{AreOctets}
use Rattle.asn1_strings.specs.Identifiers.{SpellsIdentifier, arcs_of}
use Rattle.asn1_strings.proofs.OctetLists.{are_octets}
use Rattle.asn1_strings.proofs.IdentifierSpelling.{arcs_spell, none_spelled}
use Rattle.asn1_strings.proofs.identifiers.object_identifier_from_bytes.Goals as goal

abbrev items : Option (Vec ℕ Global) → Option (List ℕ)
items v = option_map (λ v. v.items) v

spelled : (c : goal.In-Ok-Some) → SpellsIdentifier c.args.octets.now c.in-Ok-Some.arcs.items
spelled c =
    let o = c.args.octets.now in
    let f : AreOctets o = are_octets o (λ k. let fits = c.type_inv.octets k in omega arith) in
    let read : arcs_of o ≡ Some c.in-Ok-Some.arcs.items = sym c.in-Ok-Some.ensures ∙ ap items c.in-Ok-Some.field-0-is in
    arcs_spell o c.in-Ok-Some.arcs.items f read

pub invariant_of-result : goal.invariant_of-result
invariant_of-result c = (spelled c).identifier

pub returns-in-Ok-Some-clause-ok : goal.returns-in-Ok-Some-clause-ok
returns-in-Ok-Some-clause-ok c = spelled c

pub returns-in-Ok-None-clause-err : goal.returns-in-Ok-None-clause-err
returns-in-Ok-None-clause-err c = inr (refl, none_spelled c.args.octets.now (ap items (sym c.in-Ok-None.field-0-is) ∙ c.in-Ok-None.ensures))
