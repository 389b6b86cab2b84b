use Rattle.std.proofs.Common.{◌≡◌, ◌-◌, ℤ, pos, List, ◌++◌, length, drop, take}
use Rattle.std.specs.List.{All, filter_map}
use Rattle.oergen_layouts.specs.Enumerations.{AreNumbered, AreNumberedFrom, bound_of}
use Rattle.oergen_layouts.specs.Numbers.{IsI128}
use Rattle.oergen_layouts.proofs.numbers.given_numbers.Given as goal

abbrev pub invariant-loop-at : goal.invariant-loop-at
invariant-loop-at l = record {
  numbered : (rest : List ℤ) → AreNumberedFrom (filter_map (λ own. own) (take l.root l.written)) (l.root - l.at) (bound_of l.next) (drop l.at l.written) rest → AreNumberedFrom (filter_map (λ own. own) (take l.root l.written)) l.root (pos 0) l.written (l.all.items ++ rest);
  each : length l.all.items ≡ l.at;
  only : (numbers : List ℤ) → AreNumbered l.root l.written numbers → All IsI128 numbers → (l.all.items ≡ take l.at numbers) × AreNumberedFrom (filter_map (λ own. own) (take l.root l.written)) (l.root - l.at) (bound_of l.next) (drop l.at l.written) (drop l.at numbers);
}
