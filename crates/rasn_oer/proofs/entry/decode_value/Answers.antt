use Rattle.rasn_oer.proofs.Entries.{read_value, refused_value, says_read, says_refused}
use Rattle.rasn_oer.proofs.entry.decode_value.Goals as goal

pub returns-in-Ok-clause-read : goal.returns-in-Ok-clause-read
returns-in-Ok-clause-read g c =
    let t = g.T.Spelled in
    read_value (t.tree c.args.constraints) t.IsValue (t.is_tree c.args.constraints c.requires) (t.alike c.args.constraints c.requires) c.args.options.codec c.args.options.levels c.args.input.now c.remaining.result.now c.new-decoder.result c.decode_with_tag_and_constraints.new.decoder c.in-Ok.value c.new-decoder.ensures c.remaining.ensures c.in-Ok.ensures.law.read

pub returns-in-Ok-clause-says : goal.returns-in-Ok-clause-says
returns-in-Ok-clause-says g c =
    let t = g.T.Spelled in
    says_read (t.tree c.args.constraints) t.IsValue (t.is_tree c.args.constraints c.requires) (t.alike c.args.constraints c.requires) (g.T.Decode.Answered c.args.constraints) c.args.options.codec c.args.options.levels c.args.input.now c.new-decoder.result c.decode_with_tag_and_constraints.new.decoder c.in-Ok.value c.remaining.result c.new-decoder.ensures c.remaining.ensures c.in-Ok.ensures.law.read c.in-Ok.ensures.answered

pub returns-in-Err-clause-read : goal.returns-in-Err-clause-read
returns-in-Err-clause-read g c =
    let t = g.T.Spelled in
    refused_value (t.tree c.args.constraints) t.IsValue (t.is_tree c.args.constraints c.requires) (t.alike c.args.constraints c.requires) c.args.options.codec c.args.options.levels c.args.input.now c.new-decoder.result c.decode_with_tag_and_constraints.new.decoder c.in-Err.e c.new-decoder.ensures c.in-Err.ensures.law.refused

pub returns-in-Err-clause-says : goal.returns-in-Err-clause-says
returns-in-Err-clause-says g c =
    let t = g.T.Spelled in
    says_refused (t.tree c.args.constraints) t.IsValue (t.is_tree c.args.constraints c.requires) (t.alike c.args.constraints c.requires) (g.T.Decode.Answered c.args.constraints) c.args.options.codec c.args.options.levels c.args.input.now c.new-decoder.result c.decode_with_tag_and_constraints.new.decoder c.in-Err.e c.new-decoder.ensures c.in-Err.ensures.law.refused c.in-Err.ensures.answered
