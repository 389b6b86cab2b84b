use Rattle.std.proofs.Common.{◌≡◌, true, ap, sym, rules, List, length, subst}
use Rattle.std.proofs.lemmas.Result.{on_ok_weaker}
use Rattle.oer_write.specs.Layout.{Piece, Ascends}
use Rattle.oer_write.specs.Written.{Written}
use Rattle.oer_write.proofs.Nesting.{lent_adds, lent_kept, tree_keeps, tree_wrote}
use Rattle.oer_write.proofs.values.append_within.Goals as goal

pub returns-clause-done : goal.returns-clause-done
returns-clause-done g c =
    let q : c.replace-pieces.result ≡ c.args.insertions.now = search rules in
    on_ok_weaker c.encode_with_tag_and_constraints-answer.result (λ h. (
      h.encodable,
      lent_adds true c.lent-encoder.result c.args.out.now.items c.replace-pieces.result c.args.insertions.now c.lent-encoder.ensures q (subst (λ (z : List Piece). Ascends 0 z (length c.args.out.now.items)) (sym q) c.requires.ascends)
          c.encode_with_tag_and_constraints-answer.new.encoder c.into_parts-octets.result.0.items c.into_parts-octets.result.1 (tree_keeps _ _ _ h) c.into_parts-octets.ensures.holds _ (ap (λ (w : Written). w.octets) h.written),
    )) c.encode_with_tag_and_constraints-answer.ensures.done

pub returns-clause-kept : goal.returns-clause-kept
returns-clause-kept g c =
    let q : c.replace-pieces.result ≡ c.args.insertions.now = search rules in
    lent_kept true c.lent-encoder.result c.args.out.now.items c.replace-pieces.result c.args.insertions.now c.lent-encoder.ensures q (subst (λ (z : List Piece). Ascends 0 z (length c.args.out.now.items)) (sym q) c.requires.ascends)
    c.encode_with_tag_and_constraints-answer.new.encoder c.into_parts-octets.result.0.items c.into_parts-octets.result.1 (tree_wrote _ _ _ _ c.encode_with_tag_and_constraints-answer.ensures.done c.encode_with_tag_and_constraints-answer.ensures.refused) c.into_parts-octets.ensures.holds
