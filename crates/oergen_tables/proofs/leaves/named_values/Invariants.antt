use Rattle.std.proofs.Common.{◌≡◌, ◌++◌, drop, map}
use Rattle.std.specs.List.{All, filter_map}
use Rattle.oergen_tables.specs.Names.{IsReadable, shown, value_of}
use Rattle.oergen_tables.proofs.leaves.named_values.Given as goal

abbrev pub invariant-loop-item : goal.invariant-loop-item
invariant-loop-item l = All (IsReadable l.scope.tokens.now) l.names → map shown l.values.items ++ filter_map (value_of l.scope.tokens.now) (drop l.item-index l.names) ≡ filter_map (value_of l.scope.tokens.now) l.names
