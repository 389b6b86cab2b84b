use Rattle.std.proofs.Common.{◌≡◌}
use Rattle.std.specs.Option.{option_map}
use Rattle.oer_read.specs.SetRows.{found}
use Rattle.example_closures.specs.Statuses.{part_index}
use Rattle.example_closures.specs.declared.statuses.Part.TheVariants.{Ready, Code}
use Rattle.example_closures.proofs.statuses.status_of.Given as goal

abbrev pub invariant-loop-part : goal.invariant-loop-part
invariant-loop-part l = (found part_index 0 l.yielded ≡ option_map Ready l.ready) × (found part_index 1 l.yielded ≡ option_map Code l.code)
