use Rattle.std.proofs.Common.{ap, ◌∙◌, sym, not, List}
use Rattle.asn1_core.specs.Tags.{holds}
use Rattle.asn1_core.specs.declared.tag.Tag.{Tag}
use Rattle.oer_kept.proofs.KeptReading.{newer_by, newer_not}
use Rattle.oer_kept.proofs.choices.is_newer.Goals as goal

pub returns-then-not-is_among : goal.returns-then-not-is_among
returns-then-not-is_among g c =
    let type = g.T.Alternating.row_choices in
    let root = sym (c.is_among.ensures ∙ ap (λ (l : List Tag). holds l c.args.tag) c.root_tags.ensures) ∙ c.if-not-is_among.true in
    ap not (c.is_among-then-not-is_among.ensures ∙ ap (λ (l : List Tag). holds l c.args.tag) c.in-Some.ensures.tags)
    ∙ newer_by type.roots type.additions type.is_extensible c.args.tag c.in-Some.ensures.is root

pub returns-else-not-is_among : goal.returns-else-not-is_among
returns-else-not-is_among g c =
    let type = g.T.Alternating.row_choices in
    let root = sym (c.is_among.ensures ∙ ap (λ (l : List Tag). holds l c.args.tag) c.root_tags.ensures) ∙ c.if-not-is_among.false in
    ap not c.if-not-is_among.false ∙ newer_not type.roots type.additions type.is_extensible c.args.tag c.in-Some.ensures.is root
