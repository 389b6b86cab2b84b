use Rattle.std.proofs.Common.{◌≡◌, ◌≤◌, ◌+◌, ◌++◌, [], ◌∷◌, length, map, take}
use Rattle.std.specs.List.{All, flat_map}
use Rattle.oergen_print.specs.Sections.{AreNumbered, IsCutOf, numbers, of_cut}
use Rattle.oergen_print.proofs.sections.cuts.Given as goal

pub record Invariant (l : goal.Live-loop-at) : Type 0 where
  pub each : flat_map (of_cut l.types) l.all.items ≡ take l.cut.from l.types
  pub within : All (IsCutOf l.types) l.all.items
  pub numbered : AreNumbered (map numbers l.all.items ++ numbers l.cut ∷ [])
  pub few : (l.cut.library ≤ l.at + 1) × (l.cut.«module» ≤ l.at + 1)
  pub behind : l.cut.from ≤ l.at
  pub whole : l.at ≡ length l.types → l.cut.from ≡ length l.types

abbrev pub invariant-loop-at : goal.invariant-loop-at
invariant-loop-at l = Invariant l
