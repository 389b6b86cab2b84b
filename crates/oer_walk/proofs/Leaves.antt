-- What is an encoding of a leaf is taken whole.
use Rattle.std.proofs.Common.{◌≡◌, ℕ, ◌*◌, ◌/◌, Bool, List, [], ◌∷◌, ◌++◌, length, Result, Ok, Option, Some, None, refl, sym, ap, ◌∙◌, arith, inl, inr}
use Rattle.asn1_core.specs.Bounds.{fixed_size, size_fits}
use Rattle.asn1_core.specs.Octets.{Octets, octets_for}
use Rattle.asn1_core.specs.Texts.{Rule, AnyOctets, Utf8, Numeric, Printable, Visible, Ia5, General, Graphic, Teletex, Bmp, Universal, Identifier, Utc, Generalized, Date, Obeys}
use Rattle.asn1_core.specs.declared.codec.Codec.TheVariants.{Oer}
use Rattle.asn1_core.specs.declared.error.DecodeErrorKind.{DecodeErrorKind}
use Rattle.oer_leaf_read.proofs.ReadEnumerated.{enumerated_reads}
use Rattle.oer_leaf_read.proofs.ReadLengths.{content_reads}
use Rattle.oer_leaf_read.proofs.ReadPlaces.{fewest_octets}
use Rattle.oer_leaf_read.proofs.ReadTexts.{not_not, fixed_only}
use Rattle.oer_spec.specs.Leaves.{Width, Fixed as FixedWidth, Counted as CountedWidth, BadSize, width_of, unit_of, IsLeaf, IsInteger, IsBitString, IsText, IsLeafEncoding}
use Rattle.oer_spec.specs.Lengths.{IsBehindLength}
use Rattle.oer_spec.specs.Mode.{Lenient}
use Rattle.oer_spec.specs.Reading.{◌>>=◌, octets_at, length_at, content_at}
use Rattle.oer_spec.specs.Tree.{Content, InOctets, Civil, Leaf, Boolean, Null, Enum, Int, Bits, Named, Text}
use Rattle.oer_spec.proofs.Named.{whole_size}
use Rattle.oer_spec.proofs.Steps.{bind_ok, octets_again}
use Rattle.oer_walk.specs.Forms.{width_form, bits_form, units_form, leaf_form}
use Rattle.oer_walk.specs.Shown.{IsContentBy}
use Rattle.oer_walk.specs.Walks.{behind_length_at, leaf_at}
use Rattle.oer_walk.specs.declared.table.Form.{Form}
use Rattle.oer_walk.specs.declared.table.Form.TheVariants.{Fixed, Counted}
use Rattle.oer_walk.proofs.Suffixes.{octets_split}

-- What is answered: where the content begins. A length may be in front of it.
pub record IsTaken (form : Form) (o rest : Octets) : Type 0 where
  pub front : Octets
  pub content : Octets
  pub split : o ≡ front ++ content
  pub is : IsContentBy form o content
  pub taken : leaf_at form (o ++ rest) ≡ Ok (content ++ rest, rest)

fixed_taken : (k : ℕ) (o rest : Octets) → length o ≡ k → IsTaken (Fixed k) o rest
unfolding leaf_at
fixed_taken k o rest e = record { front = []; content = o; split = refl; is = refl; taken = rw (octets_again o rest k e) refl }

-- octets behind a length, with what is behind the length
pub behind_length_is : (input c rest : Octets) → content_at Oer input ≡ Ok (c, rest) → (b : Octets) × (b ≡ c ++ rest) × (behind_length_at input ≡ Ok (c, b, rest))
unfolding content_at behind_length_at
behind_length_is input c rest e =
    let a = bind_ok (length_at Oer input) (λ count. octets_at count.0 count.1) (c, rest) e in
    (a.0.1, octets_split a.0.0 a.0.1 (c, rest) a.2, ap (λ (r : Result (ℕ × Octets) DecodeErrorKind). r >>= λ (k : ℕ × Octets). octets_at k.0 k.1 >>= λ (x : Octets × Octets). Ok (x.0, k.1, x.1)) a.1 ∙ ap (λ (r : Result (Octets × Octets) DecodeErrorKind). r >>= λ (x : Octets × Octets). Ok (x.0, a.0.1, x.1)) a.2)

counted_taken : (o c rest : Octets) → IsBehindLength Lenient o c → IsTaken Counted o rest
unfolding leaf_at
counted_taken o c rest h =
    let b = behind_length_is (o ++ rest) c rest ((content_reads Oer).again o rest c h) in
    record { front = h.0; content = c; split = h.1; is = h; taken = rw b.2 (ap (λ (z : Octets). Ok (z, rest)) b.1) }

width_taken : (w : Width) (n : _) (o rest : Octets) → IsInteger Lenient o w n → IsTaken (width_form w) o rest
width_taken (FixedWidth sign k) n o rest h = fixed_taken k o rest h.0
width_taken (CountedWidth sign) n o rest h = counted_taken o h.0 rest h.1

bits_taken : (f : Option ℕ) (b : List Bool) (o rest : Octets) → ((n : ℕ) → f ≡ Some n → length b ≡ n) → IsBitString Lenient o f b → IsTaken (bits_form f) o rest
bits_taken (Some n) b o rest size (octets, unused, few, split, strict) = fixed_taken (octets_for n) o rest ((fewest_octets o b unused few split).0 ∙ ap octets_for (size n refl))
bits_taken None b o rest size (inl (unused, (c, behind, few, split), strict)) = counted_taken o (length unused ∷ c) rest behind
bits_taken None b o rest size (inr (lenient, behind, none)) = counted_taken o [] rest behind

-- so many units are so many octets
units : (r : Rule) (c : Octets) (n : ℕ) → Obeys r c → length c / unit_of r ≡ n → length c ≡ n * unit_of r
units AnyOctets c n o e = omega (arith, e)
units Utf8 c n o e = omega (arith, e)
units Numeric c n o e = omega (arith, e)
units Printable c n o e = omega (arith, e)
units Visible c n o e = omega (arith, e)
units Ia5 c n o e = omega (arith, e)
units General c n o e = omega (arith, e)
units Graphic c n o e = omega (arith, e)
units Teletex c n o e = omega (arith, e)
units Bmp c n (k, even) e = omega (arith, even, e)
units Universal c n (k, whole) e = omega (arith, whole, e)
units Identifier c n o e = omega (arith, e)
units Utc c n o e = omega (arith, e)
units Generalized c n o e = omega (arith, e)
units Date c n o e = omega (arith, e)

text_taken : (f : Option ℕ) (unit : ℕ) (c : Content) (o rest : Octets) → ((n : ℕ) (d : Octets) → f ≡ Some n → c ≡ InOctets d → length d ≡ n * unit) → IsText Lenient o f c → IsTaken (units_form unit f) o rest
text_taken (Some n) unit (InOctets c) o rest size h = fixed_taken (n * unit) o rest (ap length h.0 ∙ size n c refl refl)
text_taken None unit (InOctets c) o rest size h = counted_taken o c rest h
text_taken (Some n) unit (Civil fields) o rest size h = absurd h
text_taken None unit (Civil fields) o rest size h = absurd h

pub leaf_taken : (l : Leaf) (o rest : Octets) → IsLeaf l → IsLeafEncoding Lenient o l → IsTaken (leaf_form l) o rest
unfolding leaf_at
leaf_taken (Boolean b) o rest i h = fixed_taken 1 o rest (ap length h.1.1)
leaf_taken Null o rest i h = fixed_taken 0 o rest (ap length h.1)
leaf_taken (Enum n) o rest i h = record { front = []; content = o; split = refl; is = refl; taken = rw ((enumerated_reads Oer).again o rest n (i, h)) refl }
leaf_taken (Int r n) o rest i h = width_taken (width_of r) n o rest h.1
leaf_taken (Bits s b) o rest i h = bits_taken (fixed_size s) b o rest (λ n f. fixed_only s n (length b) f (not_not (size_fits s (length b)) (h.0 BadSize))) h.1
leaf_taken (Named s b) o rest i h =
    let (zeros, _, fine, spells, _) = h.1 in
    bits_taken (fixed_size s) (b ++ zeros) o rest (λ n f. fixed_only s n (length (b ++ zeros)) f (whole_size s b zeros fine)) spells
leaf_taken (Text r s (InOctets c)) o rest i h =
    text_taken (fixed_size s) (unit_of r) (InOctets c) o rest (λ n d f same. let e : c ≡ d = cc same in ap length (sym e) ∙ units r c n i.1 (fixed_only s n (length c / unit_of r) f (not_not (size_fits s (length c / unit_of r)) (h.0 BadSize)))) h.1
leaf_taken (Text r s (Civil fields)) o rest i h = absurd (no_civil (fixed_size s) h.1)
  where
    no_civil : (f : Option ℕ) → IsText Lenient o f (Civil fields) → ⊥
    no_civil (Some n) e = e
    no_civil None e = e
