use Rattle.std.proofs.Common.{◌≡◌, drop}
use Rattle.oer_json.specs.Readings.{bounds_of}
use Rattle.oer_json.proofs.tables.Bounds.of.Given as goal

abbrev pub invariant-loop-it : goal.invariant-loop-it
invariant-loop-it l = bounds_of l.all l.type_number ≡ bounds_of (drop l.it-index l.all) l.type_number
