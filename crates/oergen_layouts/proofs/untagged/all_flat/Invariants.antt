use Rattle.std.proofs.Common.{take}
use Rattle.std.specs.List.{AllZip}
use Rattle.oergen_layouts.specs.Untagged.{IsFound}
use Rattle.oergen_layouts.proofs.untagged.all_flat.Given as goal

abbrev pub invariant-loop-definition : goal.invariant-loop-definition
invariant-loop-definition l = AllZip (IsFound l.all) (take l.definition-index l.all) l.made.items
