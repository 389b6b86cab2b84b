use Rattle.example_printed.proofs.types_02.SignalAlternativesAlternating.put.Goals as goal

pub returns-in-Busy : goal.returns-in-Busy
returns-in-Busy g c = rw c.in-Busy.is (rw c.tag.ensures at c.put_alternative.ensures)

pub returns-in-Level : goal.returns-in-Level
returns-in-Level g c = rw c.in-Level.is (rw c.tag-in-Level.ensures at c.put_alternative-in-Level.ensures)

pub returns-in-NewKey : goal.returns-in-NewKey
returns-in-NewKey g c = rw c.in-NewKey.is (rw c.tag-in-NewKey.ensures at c.put_alternative-in-NewKey.ensures)
