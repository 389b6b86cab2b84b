use Rattle.example_printed.proofs.types_05.AreaAlternativesAlternating.put.Goals as goal

pub returns-in-Round : goal.returns-in-Round
returns-in-Round g c = rw c.in-Round.is (rw c.tag.ensures at c.put_alternative.ensures)

pub returns-in-Boxes : goal.returns-in-Boxes
returns-in-Boxes g c = rw c.in-Boxes.is (rw c.tag-in-Boxes.ensures at c.put_alternative-in-Boxes.ensures)

pub returns-in-Corners : goal.returns-in-Corners
returns-in-Corners g c = rw c.in-Corners.is (rw c.tag-in-Corners.ensures at c.put_alternative-in-Corners.ensures)

pub returns-in-Names : goal.returns-in-Names
returns-in-Names g c = rw c.in-Names.is (rw c.tag-in-Names.ensures at c.put_alternative-in-Names.ensures)
