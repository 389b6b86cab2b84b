use Rattle.std.proofs.lemmas.Result.{err_from_is_err_and}
use Rattle.oer_spec.specs.Encoding.{canonical_octets}
use Rattle.oer_write.specs.Layout.{Piece, Ascends}
use Rattle.oer_write.specs.Rows.{open_type}
use Rattle.oer_write.specs.Seen.{view_of}
use Rattle.oer_write.proofs.Lawful.{keeps_all}
use Rattle.std.proofs.Common.{List, ap₂, subst, Ok, ◌≡◌, ap, sym, ◌∙◌, rules, length}
use Rattle.asn1_core.specs.Octets.{Octets}
use Rattle.oer_write.specs.Written.{Written, append, Keeps}
use Rattle.oer_write.proofs.Keeping.{ok_of}
use Rattle.oer_write.proofs.Regions.{adds_from, grown_seen, grown_sound, sound_ascends}
use Rattle.oer_write.proofs.encoder.Encoder.put_own_open.Goals as goal

pub invariant_of-self-2 : goal.invariant_of-self-2
invariant_of-self-2 g c =
    let q : c.replace-pieces.result ≡ c.self.inside.insertions = search rules in
    let answered : c.put_own_by_sort-answer.result ≡ Ok tt = search rules in
    let x : Octets = open_type (canonical_octets (g.T.Spelled.tree g.T.AsnType.CONSTRAINTS c.args.value.now)) in
    grown_sound c.self.inside.scope c.self.inside.is_lent c.self.inside.is_inside c.self.inside.output.now.items x c.put_own_by_sort-answer.new.out.items c.self.inside.insertions c.put_own_by_sort-answer.new.insertions c.self.invariant (adds_from _ _ _ _ _ _ q (ok_of _ answered c.put_own_by_sort-answer.ensures.done)) (λ h. ok_of _ answered (c.put_own_by_sort-answer.ensures.alone h))

pub returns-clause-done : goal.returns-clause-done
returns-clause-done g c =
    let q : c.replace-pieces.result ≡ c.self.inside.insertions = search rules in
    let answered : c.put_own_by_sort-answer.result ≡ Ok tt = search rules in
    let x : Octets = open_type (canonical_octets (g.T.Spelled.tree g.T.AsnType.CONSTRAINTS c.args.value.now)) in
    grown_seen c.self.inside.scope c.self.inside.is_lent c.self.inside.is_inside c.self.inside.output.now.items x c.put_own_by_sort-answer.new.out.items c.self.inside.insertions c.put_own_by_sort-answer.new.insertions c.self.invariant (adds_from _ _ _ _ _ _ q (ok_of _ answered c.put_own_by_sort-answer.ensures.done)) ∙ ap (append x) c.self.view_is

pub returns-in_err-answer-clause-refused : goal.returns-in_err-answer-clause-refused
returns-in_err-answer-clause-refused g c =
    let p = err_from_is_err_and c.from_residual.result c.from_residual.ensures.1 in
    let q : c.replace-pieces.result ≡ c.self.inside.insertions = search rules in
    let s = c.self.inside.scope in
    let e = ap₂ (λ (o : Octets) (is : List Piece). view_of s c.self.inside.is_lent c.self.inside.is_inside o is) c.in_err-answer.ensures.unchanged (c.in_err-answer.ensures.kept ∙ q) ∙ c.self.view_is in
    rw (p.1, p.2) (record { keeps = subst (λ (w : Written). Keeps c.args.self.now w) (sym e) (keeps_all c.args.self.now); reason = c.in_err-answer.ensures.refused; mode = c.in_err-answer.ensures.mode })

pub put_own_by_sort-answer-requires-clause-ascends : goal.put_own_by_sort-answer-requires-clause-ascends
put_own_by_sort-answer-requires-clause-ascends g c =
    let q : c.replace-pieces.result ≡ c.self.inside.insertions = search rules in
    subst (λ (z : List Piece). Ascends 0 z (length c.self.inside.output.now.items)) (sym q) (sound_ascends c.self.inside.scope c.self.inside.is_lent c.self.inside.is_inside c.self.inside.output.now.items c.self.inside.insertions c.self.invariant)
