-- From what the readers of strings promise to the law of reading.
use Rattle.std.proofs.Common.{◌≡◌, ℕ, Bool, List, Option, Some, None, Result, refl}
use Rattle.std.specs.Borrow.{Bor}
use Rattle.asn1_core.specs.Bounds.{Size, fixed_size, size_bounds}
use Rattle.asn1_core.specs.Octets.{Octets, AreOctets}
use Rattle.asn1_core.specs.Texts.{Rule, Obeys}
use Rattle.asn1_core.specs.declared.constraints.Constraints.{Constraints}
use Rattle.asn1_core.specs.declared.error.DecodeError.{DecodeError}
use Rattle.asn1_core.specs.declared.error.DecodeErrorKind.{DecodeErrorKind}
use Rattle.asn1_strings.specs.NamedBits.{IsNamed}
use Rattle.oer_spec.specs.Encoding.{IsTree}
use Rattle.oer_spec.specs.Leaves.{IsLeafEncoding, IsText}
use Rattle.oer_spec.specs.Mode.{Mode, mode_of}
use Rattle.oer_spec.specs.Reading.{ReadsFront, seen}
use Rattle.oer_spec.specs.Same.{Alike}
use Rattle.oer_spec.specs.Spelled.{IsAny, IsTextOf, bit_string, bit_string_is, bit_strings_alike, named_bit_string, named_bit_string_is, named_bit_strings_alike, text, text_is, texts_alike, unsized_text, unsized_text_is, unsized_texts_alike}
use Rattle.oer_spec.specs.Tree.{Tree, Primitive, Bits, Named, Text, InOctets}
use Rattle.oer_read.specs.Answers.{Took}
use Rattle.oer_read.specs.Law.{Decodes}
use Rattle.oer_read.specs.State.{State}
use Rattle.oer_read.proofs.LeafLaws.{leaf_law}

-- what spells a text is octets
text_octets : (m : Mode) (o : Octets) (fixed : Option ℕ) (c : Octets) → IsText m o fixed (InOctets c) → AreOctets c
text_octets m o (Some n) c (e, k) = k
text_octets m o None c (l, e, k, a) = a

-- the tree of a text of that size
pub record IsTextTree (r : Rule) (s : Size) (tree : Octets → Tree) : Type 0 where
  pub primitive : (c : Octets) → tree c ≡ Primitive (Text r s (InOctets c))
  pub is_tree : (c : Octets) → IsTextOf r c → IsTree (tree c)
  pub alike : (c d : Octets) → Alike (tree c) (tree d)

pub sized : (r : Rule) (c : Constraints) → IsTextTree r (size_bounds c) (text r c)
unfolding text
sized r c = record { primitive = λ o. refl; is_tree = text_is r c; alike = texts_alike r c }

pub unsized : (r : Rule) → IsTextTree r None (unsized_text r)
unfolding unsized_text
unsized r = record { primitive = λ o. refl; is_tree = unsized_text_is r; alike = unsized_texts_alike r }

module _ {A : Type 0} (show : A → Octets) (r : Rule) (s : Size) (tree : Octets → Tree) (k : IsTextTree r s tree) where
  abbrev IsValue : A → Type 0
  IsValue v = IsTextOf r (show v)

  value_of : (m : Mode) (o : Octets) (v : A) → IsLeafEncoding m o (Text r s (InOctets (show v))) → Obeys r (show v) → IsValue v
  value_of m o v l b = record { octets = text_octets m o (fixed_size s) (show v) l.1; obeys = b }

  -- a reader of texts whose relation says that they obey the rule
  pub text_law : (old : State) (answer : Result (A × Bor (List ℕ)) DecodeErrorKind) (result : Result A DecodeError) (new : State)
      → ReadsFront (λ o c. IsLeafEncoding (mode_of old.codec) o (Text r s (InOctets c)) × Obeys r c) old.input (seen (λ (x : A × Bor (List ℕ)). (show x.0, x.1.now)) answer)
      → Took answer old result new → Decodes (λ v. tree (show v)) IsValue old result new
  text_law old =
      leaf_law (λ v. tree (show v)) IsValue (λ v. Text r s (InOctets (show v))) (λ v. k.primitive (show v)) show (λ o c. IsLeafEncoding (mode_of old.codec) o (Text r s (InOctets c)) × Obeys r c) old
      (record { is_tree = λ v i. k.is_tree (show v) i; alike = λ v w i j. k.alike (show v) (show w) }) (λ o v l. (value_of (mode_of old.codec) o v l.0 l.1, l.0)) (λ o v i l. (l, i.obeys))

  -- a reader of octets that obey each rule
  pub octets_law : ((c : Octets) → Obeys r c) → (old : State) (answer : Result (A × Bor (List ℕ)) DecodeErrorKind) (result : Result A DecodeError) (new : State)
      → ReadsFront (λ o c. IsLeafEncoding (mode_of old.codec) o (Text r s (InOctets c))) old.input (seen (λ (x : A × Bor (List ℕ)). (show x.0, x.1.now)) answer)
      → Took answer old result new → Decodes (λ v. tree (show v)) IsValue old result new
  octets_law all old =
      leaf_law (λ v. tree (show v)) IsValue (λ v. Text r s (InOctets (show v))) (λ v. k.primitive (show v)) show (λ o c. IsLeafEncoding (mode_of old.codec) o (Text r s (InOctets c))) old
      (record { is_tree = λ v i. k.is_tree (show v) i; alike = λ v w i j. k.alike (show v) (show w) }) (λ o v l. (value_of (mode_of old.codec) o v l (all (show v)), l)) (λ o v i l. l)

pub bits_law : (c : Constraints) (old : State) (answer : Result (List Bool × Bor (List ℕ)) DecodeErrorKind) (result : Result (List Bool) DecodeError) (new : State)
    → ReadsFront (λ o b. IsLeafEncoding (mode_of old.codec) o (Bits (size_bounds c) b)) old.input (seen (λ (x : List Bool × Bor (List ℕ)). (x.0, x.1.now)) answer)
    → Took answer old result new → Decodes (bit_string c) IsAny old result new
unfolding bit_string
bits_law c old =
    leaf_law (bit_string c) IsAny (λ b. Bits (size_bounds c) b) (λ b. refl) (λ b. b) (λ o b. IsLeafEncoding (mode_of old.codec) o (Bits (size_bounds c) b)) old
    (record { is_tree = λ b i. bit_string_is c b; alike = λ a b i j. bit_strings_alike c a b }) (λ o b l. (tt, l)) (λ o b i l. l)

pub named_bits_law : (c : Constraints) (old : State) (answer : Result (List Bool × Bor (List ℕ)) DecodeErrorKind) (result : Result (List Bool) DecodeError) (new : State)
    → ReadsFront (λ o b. IsLeafEncoding (mode_of old.codec) o (Named (size_bounds c) b) × IsNamed b) old.input (seen (λ (x : List Bool × Bor (List ℕ)). (x.0, x.1.now)) answer)
    → Took answer old result new → Decodes (named_bit_string c) IsNamed old result new
unfolding named_bit_string
named_bits_law c old =
    leaf_law (named_bit_string c) IsNamed (λ b. Named (size_bounds c) b) (λ b. refl) (λ b. b) (λ o b. IsLeafEncoding (mode_of old.codec) o (Named (size_bounds c) b) × IsNamed b) old
    (record { is_tree = λ b i. named_bit_string_is c b i; alike = λ a b i j. named_bit_strings_alike c a b }) (λ o b l. (l.1, l.0)) (λ o b i l. (l, i))
