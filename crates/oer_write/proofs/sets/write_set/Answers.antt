use Rattle.std.proofs.Common.{◌≡◌, ◌++◌, true, Ok, refl, ap, sym, ◌∙◌, subst, rules, length, List}
use Rattle.asn1_core.specs.Octets.{Octets}
use Rattle.oer_spec.specs.Writing.{AppendsOrMemory}
use Rattle.oer_write.specs.Layout.{Piece, Ascends}
use Rattle.oer_write.specs.Scopes.{Promise, set_octets}
use Rattle.oer_write.proofs.Closing.{opened_new}
use Rattle.oer_write.proofs.Nesting.{set_front, set_begins, set_pieces}
use Rattle.oer_write.proofs.sets.write_set.Goals as goal

pub lend-answer-requires-clause-orderly : goal.lend-answer-requires-clause-orderly
lend-answer-requires-clause-orderly g c = λ r left p. c.requires.orderly _ left r (opened_new _ _ _ _ _ c.open-inner.ensures) p

pub returns-in_err-answer-clause-begins : goal.returns-in_err-answer-clause-begins
returns-in_err-answer-clause-begins g c =
    let q : c.replace-pieces.result ≡ c.args.insertions.now = search rules in
    let asc : Ascends 0 c.replace-pieces.result (length c.args.output.now.items) = subst (λ (z : List Piece). Ascends 0 z (length c.args.output.now.items)) (sym q) c.requires.ascends in
    let w = c.close_set-octets.ensures.written in
    let front = set_front true c.args.extensible c.open-inner.result c.lend-answer.new.encoder w.0 c.args.output.now.items c.replace-pieces.result c.open-inner.ensures c.lend-answer.ensures.keeps asc w.1 in
    set_begins c.close_set-octets.result.2 (set_octets c.lend-answer.new.encoder.frame) c.args.output.now.items w.0 c.close_set-octets.result.0.items front w.2

pub returns-in_err-answer-clause-kept : goal.returns-in_err-answer-clause-kept
returns-in_err-answer-clause-kept g c =
    let q : c.replace-pieces.result ≡ c.args.insertions.now = search rules in
    c.close_set-octets.ensures.kept ∙ set_pieces true c.args.extensible c.open-inner.result c.lend-answer.new.encoder c.args.output.now.items c.replace-pieces.result c.open-inner.ensures c.lend-answer.ensures.keeps ∙ q

pub returns-in_err-closed-clause-kept : goal.returns-in_err-closed-clause-kept
returns-in_err-closed-clause-kept g c =
    let q : c.replace-pieces.result ≡ c.args.insertions.now = search rules in
    c.close_set-octets.ensures.kept ∙ set_pieces true c.args.extensible c.open-inner.result c.lend-answer.new.encoder c.args.output.now.items c.replace-pieces.result c.open-inner.ensures c.lend-answer.ensures.keeps ∙ q

pub returns-clause-kept : goal.returns-clause-kept
returns-clause-kept g c =
    let q : c.replace-pieces.result ≡ c.args.insertions.now = search rules in
    c.close_set-octets.ensures.kept ∙ set_pieces true c.args.extensible c.open-inner.result c.lend-answer.new.encoder c.args.output.now.items c.replace-pieces.result c.open-inner.ensures c.lend-answer.ensures.keeps ∙ q

pub returns-clause-done : goal.returns-clause-done
returns-clause-done g c =
    let answered : c.lend-answer.result ≡ Ok tt = search rules in
    let closed : c.close_set-octets.result.2 ≡ Ok tt = search rules in
    let q : c.replace-pieces.result ≡ c.args.insertions.now = search rules in
    let asc : Ascends 0 c.replace-pieces.result (length c.args.output.now.items) = subst (λ (z : List Piece). Ascends 0 z (length c.args.output.now.items)) (sym q) c.requires.ascends in
    let w = c.close_set-octets.ensures.written in
    let front = set_front true c.args.extensible c.open-inner.result c.lend-answer.new.encoder w.0 c.args.output.now.items c.replace-pieces.result c.open-inner.ensures c.lend-answer.ensures.keeps asc w.1 in
    let written : c.close_set-octets.result.0.items ≡ w.0 ++ set_octets c.lend-answer.new.encoder.frame = subst (λ r. AppendsOrMemory r (set_octets c.lend-answer.new.encoder.frame) w.0 c.close_set-octets.result.0.items) closed w.2 in (
      c.lend-answer.new.encoder.frame,
      c.lend-answer.ensures.keeps.octets.0,
      record {
        entered = c.open-inner.result;
        left = c.lend-answer.new.encoder;
        opened = opened_new _ _ _ _ _ c.open-inner.ensures;
        ran = subst (λ r. Promise g.F.FnOnce c.args.f c.open-inner.result r c.lend-answer.new.encoder) answered c.lend-answer.ensures.ran;
        closed = refl;
        wrote = c.lend-answer.ensures.keeps.octets.1;
        counted = c.close_set-octets.ensures.counted;
      },
      written ∙ ap (λ (o : Octets). o ++ set_octets c.lend-answer.new.encoder.frame) front,
    )

pub returns-in_err-closed-clause-begins : goal.returns-in_err-closed-clause-begins
returns-in_err-closed-clause-begins g c =
    let q : c.replace-pieces.result ≡ c.args.insertions.now = search rules in
    let asc : Ascends 0 c.replace-pieces.result (length c.args.output.now.items) = subst (λ (z : List Piece). Ascends 0 z (length c.args.output.now.items)) (sym q) c.requires.ascends in
    let w = c.close_set-octets.ensures.written in
    let front = set_front true c.args.extensible c.open-inner.result c.lend-answer.new.encoder w.0 c.args.output.now.items c.replace-pieces.result c.open-inner.ensures c.lend-answer.ensures.keeps asc w.1 in
    set_begins c.close_set-octets.result.2 (set_octets c.lend-answer.new.encoder.frame) c.args.output.now.items w.0 c.close_set-octets.result.0.items front w.2

pub returns-clause-begins : goal.returns-clause-begins
returns-clause-begins g c =
    let q : c.replace-pieces.result ≡ c.args.insertions.now = search rules in
    let asc : Ascends 0 c.replace-pieces.result (length c.args.output.now.items) = subst (λ (z : List Piece). Ascends 0 z (length c.args.output.now.items)) (sym q) c.requires.ascends in
    let w = c.close_set-octets.ensures.written in
    let front = set_front true c.args.extensible c.open-inner.result c.lend-answer.new.encoder w.0 c.args.output.now.items c.replace-pieces.result c.open-inner.ensures c.lend-answer.ensures.keeps asc w.1 in
    set_begins c.close_set-octets.result.2 (set_octets c.lend-answer.new.encoder.frame) c.args.output.now.items w.0 c.close_set-octets.result.0.items front w.2
