use Rattle.std.proofs.Common.{◌≡◌, ◌++◌, ◌<◌, ◌^◌, Some, length, map, take}
use Rattle.std.specs.List.{All, flat_map}
use Rattle.oergen_layouts.specs.Definitions.{IsPeeled, LeadsTo, assigned, inside_by, waits}
use Rattle.oergen_layouts.specs.declared.definitions.Part.{Part}
use Rattle.oergen_layouts.proofs.definitions.parts_of.Given as goal

pub record Invariant (l : goal.Live-loop-row) : Type 0 where
  pub keeps : take (length l.initial.pending.items) l.pending.items ≡ l.initial.pending.items
  pub are_waiting : map waits l.pending.items ≡ map waits l.initial.pending.items ++ flat_map (inside_by l.parent.1) l.parts.items
  pub are_rows : map (λ (part : Part). part.row) l.parts.items ≡ map Some (take l.row-index l.row-items)
  pub are_peeled : All (IsPeeled l.of) l.parts.items
  pub lead : length (assigned l.scope.modules.now) < 2 ^ 64 → All (LeadsTo (length (assigned l.scope.modules.now)) (map waits l.pending.items) l.parent.1) l.parts.items

abbrev pub invariant-loop-row : goal.invariant-loop-row
invariant-loop-row l = Invariant l
