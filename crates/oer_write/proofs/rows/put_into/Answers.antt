use Rattle.std.proofs.Common.{◌≡◌, rules, List, length, subst, sym}
use Rattle.std.proofs.lemmas.Result.{on_ok_weaker}
use Rattle.oer_write.specs.Layout.{Piece, Ascends}
use Rattle.oer_write.proofs.Nesting.{lent_adds}
use Rattle.oer_write.proofs.rows.put_into.Goals as goal

pub returns-clause-done : goal.returns-clause-done
returns-clause-done g c =
    let q : c.replace-pieces.result ≡ c.args.insertions.now = search rules in
    on_ok_weaker c.put_by-answer.result (λ h. (
      h.content,
      h.wrote,
      lent_adds c.args.is_inside c.lent-inner.result c.args.out.now.items c.replace-pieces.result c.args.insertions.now c.lent-inner.ensures q (subst (λ (z : List Piece). Ascends 0 z (length c.args.out.now.items)) (sym q) c.requires.ascends)
          c.put_by-answer.new.encoder c.into_parts-octets.result.0.items c.into_parts-octets.result.1 c.put_by-answer.ensures.keeps c.into_parts-octets.ensures.holds h.content h.appended,
    )) c.put_by-answer.ensures.done

pub returns-clause-grown : goal.returns-clause-grown
returns-clause-grown g c =
    let q : c.replace-pieces.result ≡ c.args.insertions.now = search rules in
    let k = c.put_by-answer.ensures.keeps in
    (k.octets.0, lent_adds c.args.is_inside c.lent-inner.result c.args.out.now.items c.replace-pieces.result c.args.insertions.now c.lent-inner.ensures q (subst (λ (z : List Piece). Ascends 0 z (length c.args.out.now.items)) (sym q) c.requires.ascends) c.put_by-answer.new.encoder c.into_parts-octets.result.0.items c.into_parts-octets.result.1 k c.into_parts-octets.ensures.holds k.octets.0 k.octets.1)
