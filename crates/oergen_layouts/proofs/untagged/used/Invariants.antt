use Rattle.std.proofs.Common.{length, take}
use Rattle.std.specs.List.{AllZip, zip}
use Rattle.oergen_layouts.specs.Untagged.{IsAtPlaces, used_of}
use Rattle.oergen_layouts.proofs.untagged.used.Given as goal

abbrev pub invariant-loop-definition : goal.invariant-loop-definition
invariant-loop-definition l = AllZip (IsAtPlaces l.places.items) (used_of (take (length l.yielded) (zip l.fn.all.items l.unused))) l.kept.items
