use Rattle.example_words.proofs.types_07.BoolChoiceAlternativesAlternating.put.Goals as goal

pub returns-in-A : goal.returns-in-A
returns-in-A g c = rw c.in-A.is (rw c.tag.ensures at c.put_alternative.ensures)

pub returns-in-C : goal.returns-in-C
returns-in-C g c = rw c.in-C.is (rw c.tag-in-C.ensures at c.put_alternative-in-C.ensures)

pub returns-in-B : goal.returns-in-B
returns-in-B g c = rw c.in-B.is (rw c.tag-in-B.ensures at c.put_alternative-in-B.ensures)
