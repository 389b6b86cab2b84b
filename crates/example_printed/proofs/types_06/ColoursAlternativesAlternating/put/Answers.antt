use Rattle.example_printed.proofs.types_06.ColoursAlternativesAlternating.put.Goals as goal

pub returns-in-One : goal.returns-in-One
returns-in-One g c = rw c.in-One.is (rw c.tag.ensures at c.put_alternative.ensures)

pub returns-in-Two : goal.returns-in-Two
returns-in-Two g c = rw c.in-Two.is (rw c.tag-in-Two.ensures at c.put_alternative-in-Two.ensures)

pub returns-in-Three : goal.returns-in-Three
returns-in-Three g c = rw c.in-Three.is (rw c.tag-in-Three.ensures at c.put_alternative-in-Three.ensures)
