-- What one mode reads a more lenient one reads.
use Rattle.std.proofs.Common.{ℕ, ◌-◌, Bool, true, false, List, [], ◌∷◌, ◌++◌, length, drop, inl, inr, ℤ, Option, Some, None}
use Rattle.asn1_core.specs.Bounds.{fixed_size}
use Rattle.asn1_core.specs.Octets.{Octets}
use Rattle.asn1_core.specs.Tags.{holds}
use Rattle.asn1_core.specs.declared.tag.Tag.{Tag}
use Rattle.oer_spec.specs.Encoding.{IsEncoding, AreItems, IsItem, AreElements}
use Rattle.oer_spec.specs.Leaves.{Width, Fixed, Counted, IsInteger, IsEnumerated, IsBitString, IsText, SpellsLeaf, width_of}
use Rattle.oer_spec.specs.Lengths.{IsLength, IsBehindLength, IsTag, IsOpenType, AreCountedBits, IsBitmap, IsQuantity}
use Rattle.oer_spec.specs.Mode.{Mode, Lenient, Canonical, OwnSized, InLenient, InStrict, InOwnSized}
use Rattle.oer_spec.specs.Places.{Item, AreSkipped, IsAddition, AreAdditions, IsExtension, SpellsStruct, IsInOrder, SpellsList, IsAlternative, SpellsChoice}
use Rattle.oer_spec.specs.Same.{EachTree, OnSlot}
use Rattle.oer_spec.specs.Tree.{Content, InOctets, Civil, Leaf, Boolean, Null, Enum, Int, Bits, Named, Text, Tree, Rows, NoRows, Required, Optional, Default, Slot, Absent, Present, Trees, NoTrees, More}
use Rattle.oer_spec.proofs.Trees.{EachRow, by_parts}

-- n is as strict as m at most
module _ (m n : Mode)
    (strict : (P : Type 0) → InStrict m P → InStrict n P)
    (oer : InLenient m → InLenient n)
    (own : (P : Type 0) → InOwnSized m P → InOwnSized n P) where
  pub length_within : (o : Octets) (k : ℕ) → IsLength m o k → IsLength n o k
  length_within [] k f = f
  length_within (x ∷ xs) k (inl f) = inl f
  length_within (x ∷ xs) k (inr (a, b, c, d, e, f, g)) = inr (a, b, c, d, e, f, strict _ g)

  pub behind_within : (o c : Octets) → IsBehindLength m o c → IsBehindLength n o c
  behind_within o c (l, a, f, b) = (l, a, length_within l (length c) f, b)

  pub tag_within : (o : Octets) (t : Tag) → IsTag m o t → IsTag n o t
  tag_within [] t f = f
  tag_within (x ∷ xs) t (inl f) = inl f
  tag_within (x ∷ xs) t (inr (a, b, c, d, f)) = inr (a, b, c, d, strict _ f)

  pub open_within : (o f : Octets) → IsOpenType m o f → IsOpenType n o f
  open_within o f (c, r, a, b, d) = (c, r, behind_within o c a, b, strict _ d)

  pub bits_within : (o : Octets) (b u : List Bool) → AreCountedBits m o b u → AreCountedBits n o b u
  bits_within o b u (c, a, d, e) = (c, behind_within o (length u ∷ c) a, d, e)

  pub bitmap_within : (o : Octets) (b : List Bool) → IsBitmap m o b → IsBitmap n o b
  bitmap_within o b (u, a, c) = (u, bits_within o b u a, strict _ c)

  pub quantity_within : (o : Octets) (k : ℕ) → IsQuantity m o k → IsQuantity n o k
  quantity_within o k (c, a, b, d, e, f) = (c, behind_within o c a, b, d, e, strict _ f)

  pub int_within : (o : Octets) (w : Width) (k : ℤ) → IsInteger m o w k → IsInteger n o w k
  int_within o (Fixed s w) k f = f
  int_within o (Counted s) k (c, a, b, d, e) = (c, behind_within o c a, b, d, strict _ e)

  pub enum_within : (o : Octets) (k : ℤ) → IsEnumerated m o k → IsEnumerated n o k
  enum_within [] k f = f
  enum_within (x ∷ xs) k (inl f) = inl f
  enum_within (x ∷ xs) k (inr (a, b, c, d, e, f)) = inr (a, b, c, d, e, strict _ f)

  pub bits_form_within : (o : Octets) (s : Option ℕ) (b : List Bool) → IsBitString m o s b → IsBitString n o s b
  bits_form_within o (Some k) b (a, u, c, d, e) = (a, u, c, d, strict _ e)
  bits_form_within o None b (inl (u, a, e)) = inl (u, bits_within o b u a, strict _ e)
  bits_form_within o None b (inr (z, a, e)) = inr (oer z, behind_within o [] a, e)

  pub text_within : (o : Octets) (s : Option ℕ) (c : Content) → IsText m o s c → IsText n o s c
  text_within o (Some k) (InOctets c) f = f
  text_within o None (InOctets c) f = behind_within o c f
  text_within o s (Civil c) f = absurd f

  pub spells_within : (o : Octets) (l : Leaf) → SpellsLeaf m o l → SpellsLeaf n o l
  spells_within o (Boolean b) (x, a, c, d, e) = (x, a, c, d, strict _ e)
  spells_within o Null f = f
  spells_within o (Enum k) f = enum_within o k f
  spells_within o (Int r k) f = int_within o (width_of r) k f
  spells_within o (Bits s b) f = bits_form_within o (fixed_size s) b f
  spells_within o (Named s b) (zeros, f, fine, spells, e) = (zeros, f, fine, bits_form_within o (fixed_size s) (b ++ zeros) spells, strict _ e)
  spells_within o (Text r s c) f = text_within o (fixed_size s) c f

  pub skips_within : (b : List Bool) (o : Octets) → AreSkipped m b o → AreSkipped n b o
  skips_within [] o f = f
  skips_within (false ∷ b) o f = skips_within b o f
  skips_within (true ∷ b) o (g, r, c, a, h, k) = (g, r, c, a, behind_within g c h, skips_within b r k)

  pub addition_within : (bit : Bool) (f o r : Octets) → IsAddition m bit f o r → IsAddition n bit f o r
  addition_within false f o r a = a
  addition_within true f o r (g, a, b) = (g, a, open_within g f b)

  pub additions_within : (b : List Bool) (o : Octets) (is : List Item) → AreAdditions m b o is → AreAdditions n b o is
  additions_within b o [] f = skips_within b o f
  additions_within b o (i ∷ is) (a, r, c, d) = (a, r, addition_within i.bit i.octets o r c, additions_within (drop 1 b) r is d)

  pub tail_within : (extended : Bool) (o : Octets) (is : List Item) → IsExtension m extended o is → IsExtension n extended o is
  tail_within false o is f = f
  tail_within true o is (q, r, b, a, c, d, e) = (q, r, b, a, bitmap_within q b c, additions_within b r is d, own _ e)

  pub struct_within : (o : Octets) (set extensible : Bool) (is js : List Item) → SpellsStruct m o set extensible is js → SpellsStruct n o set extensible is js
  struct_within o set extensible is js f = record {
    extended = f.extended;
    preamble = f.preamble;
    extension = f.extension;
    whole = f.whole;
    bits = f.bits;
    rest = tail_within f.extended f.extension js f.rest;
    only = f.only;
  }

  pub order_within : (ordered : Bool) (read own' : List Octets) → IsInOrder m ordered read own' → IsInOrder n ordered read own'
  order_within true read own' f = f
  order_within false read own' (f, g) = (f, strict _ g)

  pub list_within : (o : Octets) (ordered : Bool) (own' : List Octets) → SpellsList m o ordered own' → SpellsList n o ordered own'
  list_within o ordered own' (q, read, a, b, c) = (q, read, a, quantity_within q (length own') b, order_within ordered read own' c)

  pub alternative_within : (direct : Bool) (o f : Octets) → IsAlternative m direct o f → IsAlternative n direct o f
  alternative_within true o f a = a
  alternative_within false o f a = open_within o f a

  pub choice_within : (o : Octets) (roots : List Tag) (g : Tag) (f : Octets) → SpellsChoice m o roots g f → SpellsChoice n o roots g f
  choice_within o roots g f (q, r, a, b, c) = (q, r, a, tag_within q g b, alternative_within (holds roots g) r f c)

  abbrev IsWithin : Tree → Type 0
  IsWithin t = (d : ℕ) (o : Octets) → IsEncoding m d o t → IsEncoding n d o t

  pub piece_within : (d : ℕ) (g : Tag) (i : Item) (s : Slot) → OnSlot IsWithin s → IsItem m d g i s → IsItem n d g i s
  unfolding IsEncoding
  piece_within d g i Absent h f = f
  piece_within d g i (Present t) h (f, x) = (f, h d i.octets x)

  pub pieces_within : (d : ℕ) (is : List Item) (r : Rows) → EachRow IsWithin r → AreItems m d is r → AreItems n d is r
  unfolding IsEncoding
  pieces_within d is NoRows h f = f
  pieces_within d [] (Required g t r) h f = absurd f
  pieces_within d [] (Optional g s r) h f = absurd f
  pieces_within d [] (Default g u s r) h f = absurd f
  pieces_within d (i ∷ is) (Required g t r) (h, hs) (f, x, fs) = (f, h d i.octets x, pieces_within d is r hs fs)
  pieces_within d (i ∷ is) (Optional g s r) (h, hs) (f, fs) = (piece_within d g i s h f, pieces_within d is r hs fs)
  pieces_within d (i ∷ is) (Default g u s r) (k, h, hs) (inl f, fs) = (inl (piece_within d g i s h f), pieces_within d is r hs fs)
  pieces_within d (i ∷ is) (Default g u s r) (k, h, hs) (inr (z, a, f, x), fs) = (inr (oer z, a, f, k d i.octets x), pieces_within d is r hs fs)

  pub elements_within : (d : ℕ) (os : List Octets) (ts : Trees) → EachTree IsWithin ts → AreElements m d os ts → AreElements n d os ts
  unfolding IsEncoding
  elements_within d os NoTrees h f = f
  elements_within d [] (More t ts) h f = absurd f
  elements_within d (o ∷ os) (More t ts) (h, hs) (f, fs) = (h d o f, elements_within d os ts hs fs)

  pub within : (t : Tree) → IsWithin t
  unfolding IsEncoding
  within t = by_parts IsWithin
      (λ l d o f. (f.0, spells_within o l f.1))
      (λ set e r a h k d o f. (f.0, f.1, f.2, pieces_within (d - 1) f.1 r h f.3, pieces_within (d - 1) f.2 a k f.4, struct_within o set e f.1 f.2 f.5))
      (λ ordered ts h d o f. (f.0, f.1, f.2, elements_within (d - 1) f.2 ts h f.3, list_within o ordered f.2 f.4))
      (λ roots a g t h d o f. (f.0, f.1, h (d - 1) f.1 f.2, choice_within o roots g f.1 f.3))
      t

pub own_sized_within_canonical : (t : Tree) (d : ℕ) (o : Octets) → IsEncoding OwnSized d o t → IsEncoding Canonical d o t
own_sized_within_canonical t d o f = within OwnSized Canonical (λ P h. h) (λ h. h) (λ P h. tt) t d o f

pub canonical_within_lenient : (t : Tree) (d : ℕ) (o : Octets) → IsEncoding Canonical d o t → IsEncoding Lenient d o t
canonical_within_lenient t d o f = within Canonical Lenient (λ P h. tt) (λ h. tt) (λ P h. h) t d o f
