use Rattle.std.proofs.Common.{Some, sym, ap, ◌∙◌}
use Rattle.std.proofs.lemmas.Result.{err_from_is_err_and}
use Rattle.oer_read.specs.Defaults.{only_lenient, NotRead, Set, SpelledOut}
use Rattle.oer_read.specs.Seen.{at_mark}
use Rattle.oer_read.specs.State.{State}
use Rattle.oer_read.proofs.AdditionRows.{passes}
use Rattle.oer_read.proofs.decoder.Decoder.decode_extension_addition_default.Goals as goal

pub returns-in_err-found : goal.returns-in_err-found
returns-in_err-found g c =
    let p = err_from_is_err_and c.from_residual.result c.from_residual.ensures.1 in
    rw (p.1, p.2) (record { read = tt; same = c.in_err-found.ensures.same; octets = c.decode_extension_addition_with_tag_and_constraints.ensures.octets; refused = NotRead c.in_err-found.ensures.refused })

pub returns-in-Err : goal.returns-in-Err
returns-in-Err g c =
    let k = c.in-Err.ensures.err in
    let octets = c.decode_extension_addition_with_tag_and_constraints.ensures.octets in
    let read = rw c.in-Some.is at c.in_ok-found.ensures.read in
    let p = passes c.args.self.now c.decode_extension_addition_with_tag_and_constraints.new.self (Some c.args.tag) (Some read.content) octets read.next in
    record {
      read = tt;
      same = c.go_back.ensures ∙ ap (λ (s : State). at_mark s c.mark-before.result) p.is ∙ c.mark-before.ensures;
      octets = octets;
      refused = SpelledOut c.in-Some.value c.decode_extension_addition_with_tag_and_constraints.new.self read (sym (ap (λ (s : State). s.codec) p.is) ∙ k.0) k.1 (k.2 ∙ ap only_lenient p.is);
    }

pub returns : goal.returns
returns g c =
    let octets = c.decode_extension_addition_with_tag_and_constraints.ensures.octets in
    let read = rw c.in-Some.is at c.in_ok-found.ensures.read in
    let p = passes c.args.self.now c.decode_extension_addition_with_tag_and_constraints.new.self (Some c.args.tag) (Some read.content) octets read.next in
    record { read = Set read (λ coer. c.in-Ok.ensures.ok (ap (λ (s : State). s.codec) p.is ∙ coer)); same = tt; refused = tt; octets = octets }
