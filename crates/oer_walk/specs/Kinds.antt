-- The kinds of types by their numbers in a table.
use Rattle.std.specs.Prelude.{ℕ, Bool, true, false, cond, ◌==◌, Option, Some, None}
use Rattle.oer_walk.specs.declared.kinds.Kind.{Kind}
use Rattle.oer_walk.specs.declared.kinds.Kind.TheVariants.{Boolean, Null, FixedInteger, Integer, Enumerated, FixedBitString, BitString, FixedString, String, NamedBitString, List, Sequence, Choice}

abbrev pub kind_numbered : ℕ → Option Kind
kind_numbered n =
    cond (n == 0) (Some Boolean)
    (cond (n == 1) (Some Null)
    (cond (n == 2) (Some FixedInteger)
    (cond (n == 3) (Some Integer)
    (cond (n == 4) (Some Enumerated)
    (cond (n == 5) (Some FixedBitString)
    (cond (n == 6) (Some BitString)
    (cond (n == 7) (Some FixedString)
    (cond (n == 8) (Some String)
    (cond (n == 9) (Some NamedBitString)
    (cond (n == 10) (Some List)
    (cond (n == 11) (Some Sequence)
    (cond (n == 12) (Some Choice) None))))))))))))

abbrev pub kind_number : Kind → ℕ
kind_number Boolean = 0
kind_number Null = 1
kind_number FixedInteger = 2
kind_number Integer = 3
kind_number Enumerated = 4
kind_number FixedBitString = 5
kind_number BitString = 6
kind_number FixedString = 7
kind_number String = 8
kind_number NamedBitString = 9
kind_number List = 10
kind_number Sequence = 11
kind_number Choice = 12

abbrev pub has_parts : Kind → Bool
has_parts List = true
has_parts Sequence = true
has_parts Choice = true
has_parts Boolean = false
has_parts Null = false
has_parts FixedInteger = false
has_parts Integer = false
has_parts Enumerated = false
has_parts FixedBitString = false
has_parts BitString = false
has_parts NamedBitString = false
has_parts FixedString = false
has_parts String = false
