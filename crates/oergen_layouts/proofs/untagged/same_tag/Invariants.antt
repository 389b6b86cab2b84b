use Rattle.std.proofs.Common.{◌≢◌, take}
use Rattle.std.specs.List.{All}
use Rattle.oergen_layouts.specs.Untagged.{part_tag}
use Rattle.oergen_layouts.proofs.untagged.same_tag.Given as goal

abbrev pub invariant-loop-part : goal.invariant-loop-part
invariant-loop-part l = All (λ part. part_tag part ≢ l.tag) (take l.part-index l.parts)
