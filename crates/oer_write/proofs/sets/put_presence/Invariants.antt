use Rattle.std.proofs.Common.{◌≡◌, ◌++◌, drop, map, []}
use Rattle.oer_spec.specs.Places.{presence}
use Rattle.oer_write.specs.Kept.{item}
use Rattle.oer_write.proofs.sets.put_presence.Given as goal

abbrev pub invariant-loop-component : goal.invariant-loop-component
invariant-loop-component l = l.bits ++ presence (map (item []) (drop l.component-index l.components)) ≡ l.initial.bits ++ presence (map (item []) l.components)
