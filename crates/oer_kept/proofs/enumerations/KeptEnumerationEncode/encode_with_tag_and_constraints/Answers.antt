use Rattle.std.proofs.Common.{sym, ◌∙◌, subst}
use Rattle.asn1_core.specs.declared.error.EncodeError.{EncodeError}
use Rattle.oer_write.specs.Written.{Refused}
use Rattle.oer_kept.specs.KeptNumbers.{kept_tree}
use Rattle.oer_kept.proofs.Refusals.{known_number_refused}
use Rattle.oer_kept.proofs.enumerations.KeptEnumerationEncode.encode_with_tag_and_constraints.Goals as goal

pub returns-then-not-is_value-clause-refused : goal.returns-then-not-is_value-clause-refused
returns-then-not-is_value-clause-refused g c =
    let type = g.T.Numbered in
    let e = c.args.encoder.now in
    subst (λ (x : EncodeError). Refused (kept_tree type.number type.values c.args.self.now) x e e) (sym c.from.ensures)
    (known_number_refused type.number type.values c.args.self.now e (sym c.is_value.ensures ∙ c.if-not-is_value.true))
