use Rattle.example_printed.proofs.types_05.EventAlternativesAlternating.put.Goals as goal

pub returns-in-E0 : goal.returns-in-E0
returns-in-E0 g c = rw c.in-E0.is (rw c.tag.ensures at c.put_alternative.ensures)

pub returns-in-E1 : goal.returns-in-E1
returns-in-E1 g c = rw c.in-E1.is (rw c.tag-in-E1.ensures at c.put_alternative-in-E1.ensures)

pub returns-in-E2 : goal.returns-in-E2
returns-in-E2 g c = rw c.in-E2.is (rw c.tag-in-E2.ensures at c.put_alternative-in-E2.ensures)

pub returns-in-E3 : goal.returns-in-E3
returns-in-E3 g c = rw c.in-E3.is (rw c.tag-in-E3.ensures at c.put_alternative-in-E3.ensures)

pub returns-in-E4 : goal.returns-in-E4
returns-in-E4 g c = rw c.in-E4.is (rw c.tag-in-E4.ensures at c.put_alternative-in-E4.ensures)

pub returns-in-E5 : goal.returns-in-E5
returns-in-E5 g c = rw c.in-E5.is (rw c.tag-in-E5.ensures at c.put_alternative-in-E5.ensures)

pub returns-in-E6 : goal.returns-in-E6
returns-in-E6 g c = rw c.in-E6.is (rw c.tag-in-E6.ensures at c.put_alternative-in-E6.ensures)

pub returns-in-E7 : goal.returns-in-E7
returns-in-E7 g c = rw c.in-E7.is (rw c.tag-in-E7.ensures at c.put_alternative-in-E7.ensures)

pub returns-in-E8 : goal.returns-in-E8
returns-in-E8 g c = rw c.in-E8.is (rw c.tag-in-E8.ensures at c.put_alternative-in-E8.ensures)

pub returns-in-E9 : goal.returns-in-E9
returns-in-E9 g c = rw c.in-E9.is (rw c.tag-in-E9.ensures at c.put_alternative-in-E9.ensures)

pub returns-in-E10 : goal.returns-in-E10
returns-in-E10 g c = rw c.in-E10.is (rw c.tag-in-E10.ensures at c.put_alternative-in-E10.ensures)

pub returns-in-E11 : goal.returns-in-E11
returns-in-E11 g c = rw c.in-E11.is (rw c.tag-in-E11.ensures at c.put_alternative-in-E11.ensures)

pub returns-in-E12 : goal.returns-in-E12
returns-in-E12 g c = rw c.in-E12.is (rw c.tag-in-E12.ensures at c.put_alternative-in-E12.ensures)

pub returns-in-E13 : goal.returns-in-E13
returns-in-E13 g c = rw c.in-E13.is (rw c.tag-in-E13.ensures at c.put_alternative-in-E13.ensures)

pub returns-in-E14 : goal.returns-in-E14
returns-in-E14 g c = rw c.in-E14.is (rw c.tag-in-E14.ensures at c.put_alternative-in-E14.ensures)

pub returns-in-E15 : goal.returns-in-E15
returns-in-E15 g c = rw c.in-E15.is (rw c.tag-in-E15.ensures at c.put_alternative-in-E15.ensures)

pub returns-in-E16 : goal.returns-in-E16
returns-in-E16 g c = rw c.in-E16.is (rw c.tag-in-E16.ensures at c.put_alternative-in-E16.ensures)

pub returns-in-E17 : goal.returns-in-E17
returns-in-E17 g c = rw c.in-E17.is (rw c.tag-in-E17.ensures at c.put_alternative-in-E17.ensures)

pub returns-in-E18 : goal.returns-in-E18
returns-in-E18 g c = rw c.in-E18.is (rw c.tag-in-E18.ensures at c.put_alternative-in-E18.ensures)

pub returns-in-E19 : goal.returns-in-E19
returns-in-E19 g c = rw c.in-E19.is (rw c.tag-in-E19.ensures at c.put_alternative-in-E19.ensures)

pub returns-in-E20 : goal.returns-in-E20
returns-in-E20 g c = rw c.in-E20.is (rw c.tag-in-E20.ensures at c.put_alternative-in-E20.ensures)

pub returns-in-E21 : goal.returns-in-E21
returns-in-E21 g c = rw c.in-E21.is (rw c.tag-in-E21.ensures at c.put_alternative-in-E21.ensures)

pub returns-in-E22 : goal.returns-in-E22
returns-in-E22 g c = rw c.in-E22.is (rw c.tag-in-E22.ensures at c.put_alternative-in-E22.ensures)

pub returns-in-E23 : goal.returns-in-E23
returns-in-E23 g c = rw c.in-E23.is (rw c.tag-in-E23.ensures at c.put_alternative-in-E23.ensures)

pub returns-in-E24 : goal.returns-in-E24
returns-in-E24 g c = rw c.in-E24.is (rw c.tag-in-E24.ensures at c.put_alternative-in-E24.ensures)

pub returns-in-E25 : goal.returns-in-E25
returns-in-E25 g c = rw c.in-E25.is (rw c.tag-in-E25.ensures at c.put_alternative-in-E25.ensures)

pub returns-in-E26 : goal.returns-in-E26
returns-in-E26 g c = rw c.in-E26.is (rw c.tag-in-E26.ensures at c.put_alternative-in-E26.ensures)

pub returns-in-E27 : goal.returns-in-E27
returns-in-E27 g c = rw c.in-E27.is (rw c.tag-in-E27.ensures at c.put_alternative-in-E27.ensures)
