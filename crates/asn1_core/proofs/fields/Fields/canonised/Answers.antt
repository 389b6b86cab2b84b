use Rattle.std.proofs.Common.{ap, ◌∙◌, map}
use Rattle.asn1_core.specs.Rows.{row}
use Rattle.asn1_core.specs.Tags.{by_tag}
use Rattle.asn1_core.proofs.InTagOrder.{left_after-none}
use Rattle.asn1_core.proofs.SortedByTag.{map-by_tag}
use Rattle.asn1_core.proofs.fields.Fields.canonised.Goals as goal

pub returns-clause-fields : goal.returns-clause-fields
returns-clause-fields g c = ap (by_tag (λ f. f.tag)) (left_after-none 0 c.args.self.now.fields.now)

pub returns-clause-rows : goal.returns-clause-rows
returns-clause-rows g c =
    ap (λ fields. map row (by_tag (λ f. f.tag) fields)) (left_after-none 0 c.args.self.now.fields.now)
    ∙ map-by_tag c.args.self.now.fields.now
