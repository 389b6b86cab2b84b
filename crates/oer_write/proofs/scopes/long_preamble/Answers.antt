use Rattle.std.proofs.Common.{◌≡◌, ◌++◌, ap, ◌∙◌, Bool, List}
use Rattle.asn1_core.specs.Octets.{Octets, pack}
use Rattle.oer_spec.specs.Places.{extension_bit}
use Rattle.oer_write.specs.Bits.{low_bits}
use Rattle.oer_write.proofs.Mapped.{many_octets}
use Rattle.oer_write.proofs.scopes.long_preamble.Goals as goal

pub returns-in-Ok-clause-preamble : goal.returns-in-Ok-clause-preamble
returns-in-Ok-clause-preamble c =
    let b : List Bool = extension_bit c.args.extensible c.args.extended ++ (low_bits c.args.presence.count c.args.presence.word ++ c.args.presence.more.now) in
    let e : c.spell_preamble.new.out.items ≡ pack b = c.in-Ok.ensures ∙ ap (λ (o : Octets). o ++ pack b) c.new-octets.ensures.items in
    (many_octets b c.spell_preamble.new.out.items c.requires.many e, e)
