use Rattle.example_printed.proofs.types_08.ReplyAlternativesAlternating.put.Goals as goal

pub returns-in-Plain : goal.returns-in-Plain
returns-in-Plain g c = rw c.in-Plain.is (rw c.tag.ensures at c.put_alternative.ensures)

pub returns-in-OtherOne : goal.returns-in-OtherOne
returns-in-OtherOne g c = rw c.in-OtherOne.is (rw c.tag-in-OtherOne.ensures at c.put_alternative-in-OtherOne.ensures)

pub returns-in-OtherTwo : goal.returns-in-OtherTwo
returns-in-OtherTwo g c = rw c.in-OtherTwo.is (rw c.tag-in-OtherTwo.ensures at c.put_alternative-in-OtherTwo.ensures)

pub returns-in-Last : goal.returns-in-Last
returns-in-Last g c = rw c.in-Last.is (rw c.tag-in-Last.ensures at c.put_alternative-in-Last.ensures)

pub returns-in-OtherMore : goal.returns-in-OtherMore
returns-in-OtherMore g c = rw c.in-OtherMore.is (rw c.tag-in-OtherMore.ensures at c.put_alternative-in-OtherMore.ensures)
