use Rattle.std.proofs.Common.{◌≡◌, ◌≢◌, ℤ, int_cmp, int_eq, is_some, map, take}
use Rattle.std.specs.BTreeMap as tree
use Rattle.std.specs.List.{All, AllPairs, list_any}
use Rattle.oergen_layouts.specs.Numbers.{IsI128}
use Rattle.oergen_layouts.proofs.numbers.named_numbers.Given as goal

abbrev pub invariant-loop-at : goal.invariant-loop-at
invariant-loop-at l = record {
  names : map (λ one. one.0) l.all.items ≡ map (λ item. item.name) (take l.at l.items);
  numbers : map (λ one. one.1) l.all.items ≡ take l.at l.numbers;
  seen : (n : ℤ) → is_some (tree.get int_cmp l.seen n) ≡ list_any (int_eq n) (take l.at l.numbers);
  distinct : AllPairs (λ a b. a ≢ b) (take l.at l.numbers);
  fits : All IsI128 (take l.at l.numbers);
}
