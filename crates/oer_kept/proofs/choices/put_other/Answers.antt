use Rattle.std.specs.Prelude.{◌<◌, ◌≤◌, ◌/◌, ◌^◌, length, Some}
use Rattle.std.proofs.Common.{rules, arith, ap, ◌∙◌, sym, subst}
use Rattle.asn1_core.specs.Bounds.{size_bounds}
use Rattle.asn1_core.specs.Octets.{Octets, usize_max}
use Rattle.asn1_core.specs.declared.error.EncodeError.{EncodeError}
use Rattle.oer_choices.specs.Choosing.{through}
use Rattle.oer_kept.proofs.KeptWriting.{tag_refused, length_refused, octets_written, octets_refused}
use Rattle.oer_kept.specs.KeptTags.{chosen_tree}
use Rattle.oer_kept.specs.declared.choices.KeptChoice.TheVariants.{Other}
use Rattle.oer_write.specs.Written.{Refused}
use Rattle.oer_kept.proofs.choices.put_other.Goals as goal

pub returns-then-not-is_newer-clause-refused : goal.returns-then-not-is_newer-clause-refused
returns-then-not-is_newer-clause-refused g c =
    let type = through g.T.Alternating.alternative g.T.Alternating.row_choices in
    let e = c.args.encoder.now in
    subst (λ (x : EncodeError). Refused (chosen_tree type (Other c.args.tag c.args.octets.now)) x e e) (sym c.from.ensures)
    (tag_refused type c.args.tag c.args.octets.now e (sym c.is_newer.ensures ∙ c.if-not-is_newer.true))

pub returns-then-count-clause-refused : goal.returns-then-count-clause-refused
returns-then-count-clause-refused g c =
    let type = through g.T.Alternating.alternative g.T.Alternating.row_choices in
    let e = c.args.encoder.now in
    let size = ap length c.as_bytes-content.ensures.value in
    let many : usize_max / 8 < length c.args.octets.now.0 = omega (arith, size, c.if-count.true) in
    subst (λ (x : EncodeError). Refused (chosen_tree type (Other c.args.tag c.args.octets.now)) x e e) (sym c.from-then-count.ensures)
    (length_refused type c.args.tag c.args.octets.now e (sym c.is_newer.ensures ∙ c.if-not-is_newer.false) many)

pub returns-clause-done : goal.returns-clause-done
returns-clause-done g c =
    let type = through g.T.Alternating.alternative g.T.Alternating.row_choices in
    let size = ap length c.as_bytes-content.ensures.value in
    let few : length c.args.octets.now.0 ≤ usize_max / 8 = omega (arith, size, c.if-count.false) in
    let small : c.args.tag.value < 2 ^ 32 = search rules in
    octets_written type c.args.tag c.args.octets.now (sym c.is_newer.ensures ∙ c.if-not-is_newer.false) small c.with_size-size.result
    (ap size_bounds c.with_size-size.ensures ∙ ap (λ (z : Octets). Some (length z, length z)) c.as_bytes-content.ensures.value) few c.args.encoder.now c.put_octets.new.encoder
    c.as_bytes-content.result.now c.as_bytes-content.ensures.value c.put_octets.result c.put_octets.ensures.done

pub returns-clause-refused : goal.returns-clause-refused
returns-clause-refused g c =
    let type = through g.T.Alternating.alternative g.T.Alternating.row_choices in
    let size = ap length c.as_bytes-content.ensures.value in
    let few : length c.args.octets.now.0 ≤ usize_max / 8 = omega (arith, size, c.if-count.false) in
    let small : c.args.tag.value < 2 ^ 32 = search rules in
    octets_refused type c.args.tag c.args.octets.now (sym c.is_newer.ensures ∙ c.if-not-is_newer.false) small c.with_size-size.result
    (ap size_bounds c.with_size-size.ensures ∙ ap (λ (z : Octets). Some (length z, length z)) c.as_bytes-content.ensures.value) few c.args.encoder.now c.put_octets.new.encoder
    c.as_bytes-content.result.now c.as_bytes-content.ensures.value c.put_octets.result c.put_octets.ensures.refused
