use Rattle.std.proofs.Common.{◌≡◌, ◌++◌, None, false, length, map, take}
use Rattle.std.specs.List.{All, flat_map}
use Rattle.oergen_layouts.specs.Definitions.{IsDefined, assigned, defined, inside, waits}
use Rattle.oergen_layouts.proofs.definitions.definitions.Given as goal

pub record Invariant (l : goal.Live-loop-at) : Type 0 where
  pub count : length l.all.items ≡ l.at
  pub are_defined : map defined l.all.items ≡ take (length l.all.items) (map waits l.pending.items)
  pub are_waiting : map waits l.pending.items ≡ assigned l.scope.modules.now ++ flat_map inside l.all.items
  pub have_parts : All (IsDefined (length (assigned l.scope.modules.now)) (map waits l.pending.items)) l.all.items
  pub have_none : l.keeps_faults ≡ false → All (λ one. one.fault ≡ None) l.all.items

abbrev pub invariant-loop-at : goal.invariant-loop-at
invariant-loop-at l = Invariant l
