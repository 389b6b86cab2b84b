use Rattle.std.proofs.Common.{◌∷◌, Bool, ap, ◌∙◌, subst, Err, List, map}
use Rattle.asn1_core.specs.Rows.{row}
use Rattle.oer_leaf_read.specs.Views.{bits_left}
use Rattle.oer_read.specs.Components.{asking, Inside}
use Rattle.oer_read.specs.Law.{NoEncoding}
use Rattle.oer_read.specs.State.{Ask, State, asks_of}
use Rattle.oer_read.proofs.decoder.Decoder.decode_optional_with_tag_and_constraints.Goals as goal

pub returns-in-Err : goal.returns-in-Err
returns-in-Err g c =
    let (more, next, left) = c.in_ok-is_there.ensures.ok in
    let refused = c.in-Err.ensures.law.refused in
    let asks : List Ask = asks_of (map row c.self.inside.scope.roots.now) (bits_left c.self.inside.scope.presence) in
    record {
      read = tt;
      same = c.ask_from.ensures ∙ ap (λ (s : State). asking s asks) (refused.same ∙ left) ∙ ap (λ (s : State). asking c.args.self.now s.frame.asks) c.self.view_is;
      refused = Inside more (next ∙ ap (λ (b : Bool). record { tag = c.args.tag; bit = b } ∷ more) c.if-is_there.true)
          c.decode_with_tag_and_constraints.new.decoder
          (subst (λ (s : State). g.D.Decode.Answered c.args.constraints s (Err c.in-Err.e) c.decode_with_tag_and_constraints.new.decoder) left c.in-Err.ensures.answered)
          (refused.mode ∙ ap (λ (s : State). s.codec) left)
          (λ m. subst (λ (s : State). NoEncoding (g.D.Spelled.tree c.args.constraints) g.D.Spelled.IsValue s) left (refused.none m));
    }
