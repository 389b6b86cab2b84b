use Rattle.example_words.proofs.types_07.PriorityChoiceAlternativesAlternating.put.Goals as goal

pub returns-in-Normal : goal.returns-in-Normal
returns-in-Normal g c = rw c.in-Normal.is (rw c.tag.ensures at c.put_alternative.ensures)

pub returns-in-High : goal.returns-in-High
returns-in-High g c = rw c.in-High.is (rw c.tag-in-High.ensures at c.put_alternative-in-High.ensures)

pub returns-in-Medium : goal.returns-in-Medium
returns-in-Medium g c = rw c.in-Medium.is (rw c.tag-in-Medium.ensures at c.put_alternative-in-Medium.ensures)
