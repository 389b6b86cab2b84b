use Rattle.std.proofs.Common.{◌≡◌, drop}
use Rattle.oer_choices.specs.Numbered.{value_among}
use Rattle.oer_choices.proofs.enumerations.value_of.Given as goal

abbrev pub invariant-loop-value : goal.invariant-loop-value
invariant-loop-value g l = value_among g.T.Numbered.number g.T.Numbered.values l.number ≡ value_among g.T.Numbered.number (drop l.value-index g.T.Numbered.values) l.number
