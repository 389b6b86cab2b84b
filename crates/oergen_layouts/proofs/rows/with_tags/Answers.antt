use Rattle.oergen_layouts.proofs.Tagging.{is_automatic}
use Rattle.oergen_layouts.proofs.rows.with_tags.Goals as goal

pub returns-then-not-has_tagged-clause-tags : goal.returns-then-not-has_tagged-clause-tags
returns-then-not-has_tagged-clause-tags c = λ automatic untagged. is_automatic c.args.rows.now c.in_ok-numbered_rows.field-0.items c.in_ok-numbered_rows.ensures.each c.in_ok-numbered_rows.ensures.tags
