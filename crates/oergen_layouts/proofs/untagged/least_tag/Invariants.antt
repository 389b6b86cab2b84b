use Rattle.std.proofs.Common.{take}
use Rattle.oergen_layouts.specs.Untagged.{IsLeastOf, root_tags}
use Rattle.oergen_layouts.proofs.untagged.least_tag.Given as goal

abbrev pub invariant-loop-part : goal.invariant-loop-part
invariant-loop-part l = IsLeastOf (root_tags (take l.part-index l.parts)) l.least
