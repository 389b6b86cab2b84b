use Rattle.example_recursive.proofs.types_04.MarkAlternativesAlternating.put.Goals as goal

pub returns-in-None : goal.returns-in-None
returns-in-None g c = rw c.in-None.is (rw c.tag.ensures at c.put_alternative.ensures)

pub returns-in-Text : goal.returns-in-Text
returns-in-Text g c = rw c.in-Text.is (rw c.tag-in-Text.ensures at c.put_alternative-in-Text.ensures)

pub returns-in-Number : goal.returns-in-Number
returns-in-Number g c = rw c.in-Number.is (rw c.tag-in-Number.ensures at c.put_alternative-in-Number.ensures)
