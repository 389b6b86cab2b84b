use Rattle.std.specs.Prelude.{OnOk, IfErr}
use Rattle.std.proofs.Common.{sym, subst}
use Rattle.oer_choices.specs.Choosing.{through, through_is}
use Rattle.oer_kept.proofs.KeptWriting.{known_written, known_refused}
use Rattle.oer_kept.specs.KeptTags.{chosen_tree}
use Rattle.oer_write.specs.Written.{Encodes, Refused}
use Rattle.oer_kept.proofs.choices.KeptChoiceEncode.encode_with_tag_and_constraints.Goals as goal

pub returns-in-Known-clause-done : goal.returns-in-Known-clause-done
returns-in-Known-clause-done g c =
    let type = through g.T.Alternating.alternative g.T.Alternating.row_choices in
    let are = through_is g.T.Alternating.alternative g.T.Alternating.row_choices g.T.Alternating.row_are_choices in
    subst (λ w. OnOk c.put.result (Encodes (chosen_tree type w) c.args.encoder.now c.put.new.encoder)) (sym c.in-Known.is)
    (known_written type are g.met.T.Alternating.apart c.in-Known.value c.args.encoder.now c.put.new.encoder c.put.result c.put.ensures.done c.put.ensures.value)

pub returns-in-Known-clause-refused : goal.returns-in-Known-clause-refused
returns-in-Known-clause-refused g c =
    let type = through g.T.Alternating.alternative g.T.Alternating.row_choices in
    subst (λ w. IfErr c.put.result (λ x. Refused (chosen_tree type w) x c.args.encoder.now c.put.new.encoder)) (sym c.in-Known.is)
    (known_refused type c.in-Known.value c.args.encoder.now c.put.new.encoder c.put.result c.put.ensures.refused)
