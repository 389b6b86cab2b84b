use Rattle.std.proofs.Common.{◌≡◌, ℕ, ◌+◌, ◌*◌, ◌%◌, ◌<◌, ◌≤◌, ◌++◌, Bool, false, List, ◌∷◌, length, drop, get_or, Option, ap, sym, ◌∙◌, arith}
use Rattle.std.proofs.lemmas.List.{at_drop_more}
use Rattle.asn1_core.specs.Octets.{Octets}
use Rattle.asn1_core.specs.Texts.{parts_from}
use Rattle.asn1_strings.specs.Identifiers.{arcs_of, last_part, part_arcs, then_parts, is_zero_group}
use Rattle.asn1_strings.proofs.IdentifierLists.{part_too_great, part_ends, part_goes_on}
use Rattle.asn1_strings.proofs.identifiers.arcs_of.Goals as goal
use Rattle.asn1_strings.proofs.identifiers.arcs_of.Goals.{then-octet-lt128+in_ok-push_part, else-octet-lt128}

-- the octet that is read now
next : (arcs : List ℕ) (inside : Bool) (n : ℕ) (o : Octets) (i : ℕ) (total : Option (List ℕ)) → i < length o → then_parts arcs (parts_from inside n (drop i o)) ≡ total
    → then_parts arcs (parts_from inside n (get_or o i 0 ∷ drop (i + 1) o)) ≡ total
next arcs inside n o i total lt read = sym (at_drop_more (λ z. then_parts arcs (parts_from inside n z)) o i 0 lt) ∙ read

pub returns-then-part-last_part : goal.returns-then-part-last_part
returns-then-part-last_part c =
    let o = c.args.octets.now in
    let i = c.loop-octet.octet-index in
    let arcs = c.loop-octet.arcs.items in
    let bound : c.last_part.result ≡ last_part arcs = c.last_part.ensures ∙ ap last_part c.as_slice.ensures.value in
    let fits : get_or o i 0 < 256 = let f = c.type_inv.octets i in omega arith in
    let great : last_part arcs < c.loop-octet.part * 128 + get_or o i 0 % 128 = omega (arith, bound) in
    sym (part_too_great arcs c.loop-octet.inside c.loop-octet.part (get_or o i 0) (drop (i + 1) o) fits great) ∙ next arcs c.loop-octet.inside c.loop-octet.part o i (arcs_of o) c.loop-octet-test.true c.loop-octet.invariant.read

pub loop-octet-preserved : goal.loop-octet-preserved
loop-octet-preserved c =
    let o = c.args.octets.now in
    let i = c.loop-octet.octet-index in
    let x = get_or o i 0 in
    let n = c.loop-octet.part in
    let arcs = c.loop-octet.arcs.items in
    let rest = drop (i + 1) o in
    let bound : c.last_part.result ≡ last_part arcs = c.last_part.ensures ∙ ap last_part c.as_slice.ensures.value in
    let fits : x < 256 = let f = c.type_inv.octets i in omega arith in
    let small : n * 128 + x % 128 ≤ last_part arcs = omega (arith, bound) in
    let now = next arcs c.loop-octet.inside n o i (arcs_of o) c.loop-octet-test.true c.loop-octet.invariant.read in
    let begun : is_zero_group c.loop-octet.inside x ≡ false = sym c.is_zero_group.ensures ∙ c.if-is_zero_group.false in
    elim c.if-octet-lt128.branch [
      | then-octet-lt128+in_ok-push_part w ↦
          let arcs_are : c.if-octet-lt128.arcs.items ≡ arcs ++ part_arcs arcs (n * 128 + x % 128) = ap (λ v. v.items) w.arcs-is ∙ w.in_ok-push_part.ensures in
          record {
            small = omega (arith, w.part-is);
            read = (λ k. then_parts (arcs_are k) (parts_from (w.inside-is k) (w.part-is k) rest)) ∙ part_ends arcs c.loop-octet.inside n x rest (arcs_of o) begun w.if-octet-lt128.true small now;
          }
      | else-octet-lt128 w ↦
          let arcs_are : c.if-octet-lt128.arcs.items ≡ arcs = ap (λ v. v.items) w.arcs-is in
          record {
            small = omega (arith, w.part-is, ap last_part arcs_are);
            read = (λ k. then_parts (arcs_are k) (parts_from (w.inside-is k) (w.part-is k) rest)) ∙ part_goes_on arcs c.loop-octet.inside n x rest (arcs_of o) begun w.if-octet-lt128.false fits now;
          }
    ]
