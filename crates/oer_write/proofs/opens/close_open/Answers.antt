use Rattle.std.proofs.Common.{◌≡◌, ◌<◌, ◌++◌, ◌^◌, length, ap, ◌∙◌, arith, rules, ℕ, subst, List}
use Rattle.std.proofs.lemmas.Result.{on_ok_weaker}
use Rattle.asn1_core.specs.Numbers.{low_octets}
use Rattle.asn1_core.specs.Octets.{Octets}
use Rattle.oer_spec.specs.Lengths.{length_octets, behind_length}
use Rattle.oer_write.specs.Layout.{Piece, Adds}
use Rattle.oer_write.proofs.Regions.{adds_length}
use Rattle.oer_write.proofs.opens.close_open.Goals as goal

pub overflow_sub-inserted : goal.overflow_sub-inserted
overflow_sub-inserted c =
    let l = adds_length c.args.is_inside c.args.start c.args.slot c.args.out.now.items c.args.insertions.now c.requires.adds.0 c.requires.start c.requires.adds.1 in
    let i = c.inserted.ensures in
    let b = c.requires.before in
    omega (arith, l.0, i, b)

behind : (size : ℕ) (octets content old new : Octets) (kept left : List Piece) → size < 2 ^ 64 → size ≡ length content → octets ≡ length_octets size → Adds (octets ++ content) old kept new left → Adds (behind_length content) old kept new left × (length content < 2 ^ 64)
behind size octets content old new kept left few s e h = (subst (λ (o : Octets). Adds (o ++ content) old kept new left) (e ∙ ap length_octets s) h, omega (arith, few, s))

pub returns-clause-done : goal.returns-clause-done
returns-clause-done c = λ content a.
    let l = adds_length c.args.is_inside c.args.start c.args.slot c.args.out.now.items c.args.insertions.now content c.requires.start a in
    let n : c.len.result ≡ length c.args.out.now.items = search rules in
    let size : c.in-Some.size ≡ length content = (let e = c.in-Some.ensures.1 in let i = c.inserted.ensures in let b = c.requires.before in omega (arith, l.0, l.1, n, e, i, b)) in
    let few : c.in-Some.size < 2 ^ 64 = search rules in
    let same : low_octets c.in_ok-octets.octets.octets c.in_ok-octets.octets.number ≡ length_octets c.in-Some.size = c.in_ok-octets.ensures.number in
    on_ok_weaker c.close_scope.result (λ h. behind c.in-Some.size (low_octets c.in_ok-octets.octets.octets c.in_ok-octets.octets.number) content _ _ _ _ few size same h) (c.close_scope.ensures.done content a)
