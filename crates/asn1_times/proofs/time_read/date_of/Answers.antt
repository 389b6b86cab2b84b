use Rattle.std.proofs.Common.{subst, sym}
use Rattle.std.specs.Prelude.{Option, Some, None, IfSome}
use Rattle.asn1_core.specs.Texts.{digits_at}
use Rattle.asn1_times.specs.Times.{HasDay}
use Rattle.asn1_times.proofs.TimeTexts.{date_written}
use Rattle.asn1_times.proofs.time_read.date_of.Goals as goal

weaker : {T : Type 0} (r : Option T) (P Q : T → Type 0) → ((x : T) → P x → Q x) → IfSome r P → IfSome r Q
weaker None P Q f h = h
weaker (Some x) P Q f h = f x h

pub returns-clause-value : goal.returns-clause-value
returns-clause-value c =
    let text = c.args.text.now in
    weaker c.day_at.result _ _ (λ d h. date_written d text c.if-text-ne8.false (sym c.if-not-are_digits.ensures) (subst (λ y. HasDay d y (digits_at text 4 2) (digits_at text 6 2)) c.year_at.ensures.value h)) c.day_at.ensures.parts
