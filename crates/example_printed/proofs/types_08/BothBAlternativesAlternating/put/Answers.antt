use Rattle.example_printed.proofs.types_08.BothBAlternativesAlternating.put.Goals as goal

pub returns-in-C : goal.returns-in-C
returns-in-C g c = rw c.in-C.is (rw c.tag.ensures at c.put_alternative.ensures)

pub returns-in-D : goal.returns-in-D
returns-in-D g c = rw c.in-D.is (rw c.tag-in-D.ensures at c.put_alternative-in-D.ensures)
