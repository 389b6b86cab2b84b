use Rattle.std.proofs.Common.{length, sym, ap, ◌∙◌, inl, inr, eq-eqb}
use Rattle.std.specs.Option.{is_some}
use Rattle.oer_json.proofs.Whole.{taken_or_full}
use Rattle.oer_json.proofs.octets.is_walked_whole.Goals as goal

pub returns-then-is_none-clause-takes : goal.returns-then-is_none-clause-takes
returns-then-is_none-clause-takes c = λ t i f h.
    elim (taken_or_full c.as_slice.result.now c.args.tables.now.words.items c.args.type_number c.args.octets.now c.walk-walked.result t c.as_slice.ensures.value c.walk-walked.ensures.answer c.walk-walked.ensures.takes i f h)
    [ inl x ↦ inl (eq-eqb c.walk-walked.result.consumed (length c.args.octets.now) x.1) | inr x ↦ inr x ]

pub returns-else-is_none-clause-takes : goal.returns-else-is_none-clause-takes
returns-else-is_none-clause-takes c = λ t i f h.
    elim (taken_or_full c.as_slice.result.now c.args.tables.now.words.items c.args.type_number c.args.octets.now c.walk-walked.result t c.as_slice.ensures.value c.walk-walked.ensures.answer c.walk-walked.ensures.takes i f h)
    [ inl x ↦ absurd (cc (sym c.if-is_none.ensures ∙ ap is_some x.0)) | inr x ↦ inr x ]
