use Rattle.std.proofs.Common.{◌∙◌, ap}
use Rattle.asn1_core.specs.Octets.{Octets}
use Rattle.oer_choices.specs.Choosing.{through, through_is}
use Rattle.oer_kept.proofs.KeptAnswers.{other_answered, other_refused}
use Rattle.oer_kept.proofs.KeptReading.{newer_found}
use Rattle.oer_kept.specs.KeptTags.{never}
use Rattle.oer_kept.proofs.choices.read_other.Goals as goal

pub behind-inner-requires : goal.behind-inner-requires
behind-inner-requires g c =
    let type = g.T.Alternating.row_choices in
    (newer_found type.roots type.additions type.is_extensible c.args.decoder.now c.args.tag c.args.rest.now c.requires).0

pub returns-in-Ok-clause-answers : goal.returns-in-Ok-clause-answers
returns-in-Ok-clause-answers g c =
    let type = through g.T.Alternating.alternative g.T.Alternating.row_choices in
    let are = through_is g.T.Alternating.alternative g.T.Alternating.row_choices g.T.Alternating.row_are_choices in
    other_answered type are never c.args.decoder.now c.args.tag c.args.rest.now c.octets-input.ensures.octets c.requires c.decode.new.decoder
    c.in-Ok.content c.set_remaining.new.self (rw c.behind-inner.ensures at c.in-Ok.ensures.law) (c.set_remaining.ensures ∙ ap (λ (i : Octets). record c.args.decoder.now { input = i }) c.remaining.ensures)

pub returns-in-Err-clause-answers : goal.returns-in-Err-clause-answers
returns-in-Err-clause-answers g c =
    let type = through g.T.Alternating.alternative g.T.Alternating.row_choices in
    let are = through_is g.T.Alternating.alternative g.T.Alternating.row_choices g.T.Alternating.row_are_choices in
    other_refused type are never c.args.decoder.now c.args.tag c.args.rest.now c.octets-input.ensures.octets c.requires c.decode.new.decoder
    c.in-Err.e c.args.decoder.now (rw c.behind-inner.ensures at c.in-Err.ensures.law) (rw c.behind-inner.ensures at c.in-Err.ensures.answered).0.0
