use Rattle.std.proofs.Common.{◌/◌, ◌%◌, ◌+◌, ◌++◌, [], ◌∷◌, ap, ◌∙◌, append_assoc}
use Rattle.asn1_strings.specs.Identifiers.{high_groups}
use Rattle.asn1_strings.proofs.IdentifierLists.{high_groups-step}
use Rattle.asn1_strings.proofs.identifiers.+write_high_groups.Goals as goal

pub returns-clause-octets : goal.returns-clause-octets
returns-clause-octets t c =
    let n = c.args.number in
    c.in_ok-push.ensures.items ∙ ap (λ z. z ++ ((n % 128 + 128) ∷ [])) c.in_ok-write_high_groups.ensures.octets
    ∙ append_assoc c.args.out.now.items (high_groups (n / 128)) ((n % 128 + 128) ∷ [])
    ∙ ap (λ z. c.args.out.now.items ++ z) (high_groups-step n c.if-number-eq0.false)
