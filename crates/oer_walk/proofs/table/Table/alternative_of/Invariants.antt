use Rattle.std.proofs.Common.{◌≡◌, ◌+◌, ◌-◌}
use Rattle.oer_walk.specs.Tables.{alternative_from}
use Rattle.oer_walk.proofs.table.Table.alternative_of.Given as goal

abbrev pub invariant-loop-index : goal.invariant-loop-index
invariant-loop-index l = alternative_from l.self.words.now l.parts l.tag (l.parts.roots + l.parts.additions - l.index) l.index ≡ alternative_from l.self.words.now l.parts l.tag (l.parts.roots + l.parts.additions) 0
