use Rattle.std.proofs.Common.{◌≡◌, ℕ, List, Bool, length, take, sym, ap, ap₂, ◌∙◌, arith}
use Rattle.std.specs.Int.{div_ceil}
use Rattle.asn1_core.specs.Octets.{bits_of, octets_for, pack}
use Rattle.asn1_strings.specs.NamedBits.{significant, without_zeros}
use Rattle.asn1_strings.proofs.NamedLists.{cut, cut_is, cut_bits, cut_enough}
use Rattle.asn1_strings.proofs.bits.BitString.without_zeros.Goals as goal

whole_octets : (n : ℕ) → div_ceil n 8 ≡ octets_for n
whole_octets n = omega arith

abbrev old : goal.After-truncate → List Bool
old c = take c.self.inside.bits (bits_of c.self.inside.octets.items)

count_is : (c : goal.After-truncate) → c.significant_bits-bits.result ≡ significant (old c)
count_is c = c.significant_bits-bits.ensures ∙ ap (λ l. significant (take c.self.inside.bits (bits_of l))) c.as_slice.ensures.value

items_are : (c : goal.After-truncate) → c.truncate.new.self.items ≡ cut c.self.inside.octets.items (old c) c.self.invariant.packed
items_are c = c.truncate.ensures.items ∙ ap (λ n. take n c.self.inside.octets.items) (c.div_ceil.ensures ∙ whole_octets c.significant_bits-bits.result ∙ ap octets_for (count_is c))

bits_are : (c : goal.After-truncate) → take c.significant_bits-bits.result (bits_of c.truncate.new.self.items) ≡ without_zeros (old c)
bits_are c = ap₂ (λ n l. take n (bits_of l)) (count_is c) (items_are c) ∙ cut_bits c.self.inside.octets.items (old c) c.self.invariant.packed

pub invariant_of-result : goal.invariant_of-result
invariant_of-result c = record {
  enough = omega (arith, count_is c, ap length (items_are c), cut_enough c.self.inside.octets.items (old c) c.self.invariant.packed);
  packed = items_are c ∙ cut_is c.self.inside.octets.items (old c) c.self.invariant.packed ∙ ap pack (sym (bits_are c));
}

pub returns : goal.returns
returns c = bits_are c ∙ ap without_zeros c.self.view_is
