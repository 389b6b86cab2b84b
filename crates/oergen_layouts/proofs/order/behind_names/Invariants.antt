use Rattle.std.proofs.Common.{◌≡◌, ◌-◌}
use Rattle.oergen_layouts.specs.Untagged.{past_names}
use Rattle.oergen_layouts.proofs.order.behind_names.Given as goal

abbrev pub invariant-loop : goal.invariant-loop
invariant-loop l = past_names (64 - l.counter) l.definitions l.at ≡ past_names 64 l.definitions l.start
