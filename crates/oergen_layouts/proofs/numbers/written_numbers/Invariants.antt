use Rattle.std.proofs.Common.{◌≡◌, is_some, map, take}
use Rattle.std.specs.List.{All, AllZip}
use Rattle.oergen_layouts.specs.Enumerations.{IsAsWritten, IsDigits, number_behind}
use Rattle.oergen_layouts.proofs.numbers.written_numbers.Given as goal

abbrev pub invariant-loop-item : goal.invariant-loop-item
invariant-loop-item l = record {
  named : map is_some l.all.items ≡ map (λ item. is_some item.number) (take l.item-index l.items);
  as_written : AllZip (IsAsWritten l.scope.tokens.now) (take l.item-index l.items) l.all.items;
  numbers : All (IsDigits l.scope.tokens.now) l.items → l.all.items ≡ map (number_behind l.scope.tokens.now) (take l.item-index l.items);
}
