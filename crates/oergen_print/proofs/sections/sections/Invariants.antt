use Rattle.std.proofs.Common.{◌≡◌, take}
use Rattle.std.specs.List.{All}
use Rattle.oergen_print.specs.Sections.{IsNamed, IsSectionOf, cuts_of}
use Rattle.oergen_print.proofs.sections.sections.Given as goal

pub record Invariant (l : goal.Live-loop-cut) : Type 0 where
  pub cuts : cuts_of l.all.items ≡ take l.cut-index l.cut-items
  pub within : All (IsSectionOf l.types) l.all.items
  pub named : All (IsNamed l.name l.count) l.all.items

abbrev pub invariant-loop-cut : goal.invariant-loop-cut
invariant-loop-cut l = Invariant l
