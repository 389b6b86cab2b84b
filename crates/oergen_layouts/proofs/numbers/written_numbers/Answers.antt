use Rattle.std.proofs.Common.{◌≡◌, ◌+◌, [], ◌∷◌, ◌++◌, take, sym, ap, subst, ◌∙◌, arith}
use Rattle.std.proofs.lemmas.Grind.{common_steps}
use Rattle.std.proofs.lemmas.List.{take_more}
use Rattle.oergen_parse.specs.declared.ast.Numbered.{Numbered}
use Rattle.oergen_layouts.specs.Enumerations.{IsAsWritten, IsDigits, number_behind}
use Rattle.oergen_layouts.proofs.Writing.{as_behind, map_more, zip_more}
use Rattle.oergen_layouts.proofs.numbers.written_numbers.Goals as goal

pub loop-item-preserved : goal.loop-item-preserved
loop-item-preserved c =
    let tokens = c.args.scope.tokens.now in
    let items = c.args.items.now in
    let at = c.loop-item.item-index in
    let item = c.item-item.result in
    let own = c.in_ok-written_number.field-0 in
    let seen : take (at + 1) items ≡ take at items ++ item ∷ [] = take_more items at item c.loop-item-test.true ∙ ap (λ (it : Numbered). take at items ++ it ∷ []) (sym c.item-item.is) in
    record {
      named = grind (arith, common_steps);
      as_written = rw (c.in_ok-push.ensures.items, seen) (zip_more (IsAsWritten tokens) (take at items) c.loop-item.all.items item own c.loop-item.invariant.as_written c.in_ok-written_number.ensures.as_written);
      numbers = λ all.
          let digits = subst (IsDigits tokens) (sym c.item-item.is) (all at item c.loop-item-test.true) in
          let same = as_behind tokens item own digits c.in_ok-written_number.ensures.named c.in_ok-written_number.ensures.as_written in
          rw (c.in_ok-push.ensures.items, seen) (map_more (number_behind tokens) (take at items) c.loop-item.all.items item own (c.loop-item.invariant.numbers all) same);
    }
