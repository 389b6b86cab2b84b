use Rattle.example_printed.proofs.types_08.TitleAlternativesAlternating.put.Goals as goal

pub returns-in-TeletexString : goal.returns-in-TeletexString
returns-in-TeletexString g c = rw c.in-TeletexString.is (rw c.tag.ensures at c.put_alternative.ensures)

pub returns-in-PrintableString : goal.returns-in-PrintableString
returns-in-PrintableString g c = rw c.in-PrintableString.is (rw c.tag-in-PrintableString.ensures at c.put_alternative-in-PrintableString.ensures)

pub returns-in-UniversalString : goal.returns-in-UniversalString
returns-in-UniversalString g c = rw c.in-UniversalString.is (rw c.tag-in-UniversalString.ensures at c.put_alternative-in-UniversalString.ensures)

pub returns-in-Utf8String : goal.returns-in-Utf8String
returns-in-Utf8String g c = rw c.in-Utf8String.is (rw c.tag-in-Utf8String.ensures at c.put_alternative-in-Utf8String.ensures)

pub returns-in-BmpString : goal.returns-in-BmpString
returns-in-BmpString g c = rw c.in-BmpString.is (rw c.tag-in-BmpString.ensures at c.put_alternative-in-BmpString.ensures)
