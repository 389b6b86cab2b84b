use Rattle.example_recursive.proofs.types_04.WayAlternativesAlternating.put.Goals as goal

pub returns-in-Road : goal.returns-in-Road
returns-in-Road g c = rw c.in-Road.is (rw c.tag.ensures at c.put_alternative.ensures)

pub returns-in-Air : goal.returns-in-Air
returns-in-Air g c = rw c.in-Air.is (rw c.tag-in-Air.ensures at c.put_alternative-in-Air.ensures)

pub returns-in-Sea : goal.returns-in-Sea
returns-in-Sea g c = rw c.in-Sea.is (rw c.tag-in-Sea.ensures at c.put_alternative-in-Sea.ensures)
