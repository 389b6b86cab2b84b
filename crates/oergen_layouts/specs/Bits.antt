-- Bits of literals, and bits of a BIT STRING with named bits: zero bits behind the last that is set mean nothing, and there are as many of
-- them as the least size wants (X.680, 22.7).
use Rattle.std.specs.Prelude.{◌≡◌, ℕ, ◌-◌, ◌++◌, Bool, true, false, cond, nat_lt, List, [], length, replicate, take, drop}
use Rattle.std.specs.Char.{digit_value}
use Rattle.std.specs.List.{IsAfterLastMatch, flat_map}
use Rattle.asn1_core.specs.Octets.{bits8}
use Rattle.oergen_parse.specs.declared.lexer.Kind.{Kind}
use Rattle.oergen_parse.specs.declared.lexer.Kind.TheVariants.{Bits, Hex}

-- bits up to the last that is set
pub record AreUpToTheLast (bits kept : List Bool) : Type 0 where
  pub are_first : kept ≡ take (length kept) bits
  pub end_behind : IsAfterLastMatch (λ bit. bit) bits (length kept)

-- bits with zero bits behind them, up to so many
abbrev pub filled : ℕ → List Bool → List Bool
filled count bits = bits ++ replicate (count - length bits) false

-- the bits of a hexadecimal digit, or of a binary one, the highest first; none of what is no such digit
abbrev pub digit_bits : Bool → ℕ → List Bool
digit_bits true c = cond (nat_lt (digit_value c) 16) (drop 4 (bits8 (digit_value c))) []
digit_bits false c = cond (nat_lt (digit_value c) 2) (drop 7 (bits8 (digit_value c))) []

-- the bits of a literal between quotes, whose quotes and letter are no digits; of another token none (X.680, 12.10 and 12.12)
abbrev pub literal_bits : Kind → List ℕ → List Bool
literal_bits Bits text = flat_map (digit_bits false) text
literal_bits Hex text = flat_map (digit_bits true) text
literal_bits _ text = []
