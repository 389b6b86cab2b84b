use Rattle.std.proofs.Common.{◌≡◌, ◌≤◌}
use Rattle.oer_walk.specs.Tables.{optionals}
use Rattle.oer_walk.proofs.table.Table.optionals.Given as goal

abbrev pub invariant-loop-index : goal.invariant-loop-index
invariant-loop-index l = record { value : l.count ≡ optionals l.self.words.now l.parts l.index; few : l.count ≤ l.index }
