use Rattle.std.proofs.Common.{sym, ap, ◌∙◌}
use Rattle.std.proofs.lemmas.Result.{err_from_is_err_and}
use Rattle.oer_read.specs.Defaults.{only_lenient, NotRead, SpelledOut}
use Rattle.oer_read.specs.Seen.{at_mark}
use Rattle.oer_read.specs.State.{State}
use Rattle.oer_read.proofs.decoder.Decoder.decode_default_with_tag_and_constraints.Goals as goal

pub returns-in_err-found : goal.returns-in_err-found
returns-in_err-found g c =
    let p = err_from_is_err_and c.from_residual.result c.from_residual.ensures.1 in
    rw (p.1, p.2) (record { read = tt; same = c.in_err-found.ensures.same; refused = NotRead c.in_err-found.ensures.refused })

pub returns-in-Err : goal.returns-in-Err
returns-in-Err g c =
    let k = c.in-Err.ensures.err in
    let read = rw c.in-Some.is at c.in_ok-found.ensures.read in
    record {
      read = tt;
      same = c.go_back.ensures ∙ ap (λ (s : State). at_mark s c.mark-before.result) read.reads.rest ∙ c.mark-before.ensures;
      refused = SpelledOut c.in-Some.value c.decode_optional_with_tag_and_constraints.new.self read (sym (ap (λ (s : State). s.codec) read.reads.rest) ∙ k.0) k.1 (k.2 ∙ ap only_lenient read.reads.rest);
    }
