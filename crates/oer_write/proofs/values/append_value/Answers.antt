use Rattle.std.proofs.Common.{◌≡◌, true, false, [], ap, ◌∙◌, rules, List, length, subst, sym, arith}
use Rattle.std.proofs.lemmas.Result.{on_ok_weaker}
use Rattle.oer_write.specs.Layout.{Piece, Ascends}
use Rattle.oer_write.specs.Held.{marks}
use Rattle.oer_write.specs.Written.{Written}
use Rattle.oer_write.proofs.Nesting.{adds_alone, lent_adds, lent_kept, tree_keeps, tree_wrote}
use Rattle.oer_write.proofs.values.append_value.Goals as goal

pub returns-clause-none : goal.returns-clause-none
returns-clause-none g c =
    let q : c.replace-pieces.result ≡ [] = search rules in
    let k = tree_wrote _ _ _ _ c.encode_with_tag_and_constraints-answer.ensures.done c.encode_with_tag_and_constraints-answer.ensures.refused in
    c.into_parts-octets.ensures.alone (k.outer ∙ ap (λ (w : Written). w.outer) c.lent-encoder.ensures ∙ ap (marks true false) q)

pub returns-clause-done : goal.returns-clause-done
returns-clause-done g c =
    let q : c.replace-pieces.result ≡ c.args.insertions.now = search rules in
    let none : c.into_parts-octets.result.1 ≡ [] = returns-clause-none g c in
    on_ok_weaker c.encode_with_tag_and_constraints-answer.result (λ h. (
      h.encodable,
      adds_alone _ c.args.out.now.items c.into_parts-octets.result.0.items c.args.insertions.now c.into_parts-octets.result.1 none
          (lent_adds false c.lent-encoder.result c.args.out.now.items c.replace-pieces.result c.args.insertions.now c.lent-encoder.ensures q (subst (λ (z : List Piece). Ascends 0 z (length c.args.out.now.items)) (sym (q ∙ c.requires.none)) (omega arith))
          c.encode_with_tag_and_constraints-answer.new.encoder c.into_parts-octets.result.0.items c.into_parts-octets.result.1 (tree_keeps _ _ _ h) c.into_parts-octets.ensures.holds _ (ap (λ (w : Written). w.octets) h.written)),
    )) c.encode_with_tag_and_constraints-answer.ensures.done

pub returns-clause-begins : goal.returns-clause-begins
returns-clause-begins g c =
    let q : c.replace-pieces.result ≡ c.args.insertions.now = search rules in
    (lent_kept false c.lent-encoder.result c.args.out.now.items c.replace-pieces.result c.args.insertions.now c.lent-encoder.ensures q (subst (λ (z : List Piece). Ascends 0 z (length c.args.out.now.items)) (sym (q ∙ c.requires.none)) (omega arith))
    c.encode_with_tag_and_constraints-answer.new.encoder c.into_parts-octets.result.0.items c.into_parts-octets.result.1 (tree_wrote _ _ _ _ c.encode_with_tag_and_constraints-answer.ensures.done c.encode_with_tag_and_constraints-answer.ensures.refused) c.into_parts-octets.ensures.holds).begins
