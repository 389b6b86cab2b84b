-- Bits compared with those that a module writes.
use Rattle.std.proofs.Common.{◌≡◌, ℕ, Bool, List, length, take, eqb, ap, sym, ◌∙◌}
use Rattle.std.proofs.Math.Bool.{beq}
use Rattle.std.specs.Cmp.Lexicographic.{pointwise}
use Rattle.asn1_core.specs.Octets.{Octets, bits_of, pack}
use Rattle.asn1_strings.proofs.BitLists.{bits_of-pack, same_bits}
use Rattle.oer_rows.specs.Literals.{IsLiteral}

pub compared : (b : List Bool) (o : Octets) (n : ℕ) → IsLiteral o n → length b ≡ n → pointwise eqb (pack b) o ≡ pointwise beq b (take n (bits_of o))
compared b o n literal e =
    let own : take n (bits_of (pack b)) ≡ b = ap (λ k. take k (bits_of (pack b))) (sym e) ∙ bits_of-pack b in
    same_bits (pack b) o n (ap pack (sym own)) literal.0 ∙ ap (λ l. pointwise beq l (take n (bits_of o))) own
