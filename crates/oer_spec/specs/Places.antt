-- How the octets of parts lie in the octets of a node, without trees.
use Rattle.std.specs.Prelude.{◌≡◌, ◌<◌, Bool, true, false, cond, ◌&&◌, ◌||◌, List, [], ◌∷◌, ◌++◌, length, get_or, drop, map, nat_lt, nat_le, ◌==◌}
use Rattle.std.specs.List.{AllByRecursion}
use Rattle.asn1_core.specs.Octets.{Octets, AreOctets, bits_of, AllFalse, pack, joined}
use Rattle.asn1_core.specs.Tags.{tag_le, holds}
use Rattle.asn1_core.specs.declared.tag.Tag.{Tag}
use Rattle.oer_spec.specs.Lengths.{IsBehindLength, IsOpenType, IsTag, IsBitmap, IsQuantity, behind_length, tag_octets, counted_bits, quantity_octets}
use Rattle.oer_spec.specs.Mode.{Mode, InStrict, InOwnSized}
use Rattle.oer_spec.specs.Orders.{Reorders, octets_le, Ascends}

-- What a row gives: its tag, whether the preamble has a bit for it, whether something is spelled, and that.
pub record Item : Type 0 where
  pub tag : Tag
  pub marked : Bool
  pub bit : Bool
  pub octets : Octets

abbrev pub needed : Tag → Octets → Item
needed g o = record { tag = g; marked = false; bit = true; octets = o }

abbrev pub present : Tag → Octets → Item
present g o = record { tag = g; marked = true; bit = true; octets = o }

abbrev pub absent : Tag → Item
absent g = record { tag = g; marked = true; bit = false; octets = [] }

-- put in front of the first whose tag is not less
abbrev pub put_by_tag : Item → List Item → List Item
put_by_tag i [] = i ∷ []
put_by_tag i (j ∷ js) = cond (tag_le i.tag j.tag) (i ∷ j ∷ js) (j ∷ put_by_tag i js)

abbrev pub by_tag : List Item → List Item
by_tag [] = []
by_tag (i ∷ is) = put_by_tag i (by_tag is)

-- table order, for a set tag order (X.696, 18)
abbrev pub in_writing_order : Bool → List Item → List Item
in_writing_order set is = cond set (by_tag is) is

-- the presence bits
abbrev pub presence : List Item → List Bool
presence [] = []
presence (i ∷ is) = cond i.marked (i.bit ∷ presence is) (presence is)

abbrev pub bodies : List Item → Octets
bodies is = joined (map (λ i. i.octets) is)

abbrev pub extension_bit : Bool → Bool → List Bool
extension_bit extensible extended = cond extensible (extended ∷ []) []

-- A preamble (16.2): bits, and zero bits up to a whole octet; no octet where there is no bit.
abbrev pub IsPreamble : Octets → List Bool → Type 0
IsPreamble o b = AreOctets o × (unused : List Bool) × (length unused < 8) × (bits_of o ≡ b ++ unused) × AllFalse unused

-- Additions past the type's own (16.5): for each set bit a length with any octets.
abbrev pub AreSkipped : Mode → List Bool → Octets → Type 0
AreSkipped m [] o = o ≡ []
AreSkipped m (false ∷ b) o = AreSkipped m b o
AreSkipped m (true ∷ b) o = (g rest c : Octets) × (o ≡ g ++ rest) × IsBehindLength m g c × AreSkipped m b rest

-- an addition's octets, where its bit is set, and what follows
abbrev pub IsAddition : Mode → Bool → Octets → Octets → Octets → Type 0
IsAddition m false f o rest = o ≡ rest
IsAddition m true f o rest = (g : Octets) × (o ≡ g ++ rest) × IsOpenType m g f

-- the additions by a bitmap's bits; a row past its end has no bit set
abbrev pub AreAdditions : Mode → List Bool → Octets → List Item → Type 0
AreAdditions m b o [] = AreSkipped m b o
AreAdditions m b o (i ∷ is) = (get_or b 0 false ≡ i.bit) × (rest : Octets) × IsAddition m i.bit i.octets o rest × AreAdditions m (drop 1 b) rest is

-- What follows the root components (16.4, 16.5): nothing where the extension bit is 0; else a bitmap and the additions, in
-- mode OwnSized with as many bits as the type has additions.
abbrev pub IsExtension : Mode → Bool → Octets → List Item → Type 0
IsExtension m false o is = (o ≡ []) × AllByRecursion (λ i. i.bit ≡ false) is
IsExtension m true o is = (q rest : Octets) × (b : List Bool) × (o ≡ q ++ rest) × IsBitmap m q b × AreAdditions m b rest is × InOwnSized m (length b ≡ length is)

-- SEQUENCE and SET (16, 18): preamble, root components, additions.
pub record SpellsStruct (m : Mode) (o : Octets) (set extensible : Bool) (roots additions : List Item) : Type 0 where
  pub extended : Bool
  pub preamble : Octets
  pub extension : Octets
  pub whole : o ≡ preamble ++ (bodies (in_writing_order set roots) ++ extension)
  pub bits : IsPreamble preamble (extension_bit extensible extended ++ presence (in_writing_order set roots))
  pub rest : IsExtension m extended extension additions
  pub only : extended ≡ true → extensible ≡ true

-- As read and in the list's own order: the same; for SET OF in some order, strictly ascending (19).
abbrev pub IsInOrder : Mode → Bool → List Octets → List Octets → Type 0
IsInOrder m true read own = read ≡ own
IsInOrder m false read own = Reorders read own × InStrict m (Ascends read)

-- SEQUENCE OF and SET OF (17, 19): a quantity, and the elements.
abbrev pub SpellsList : Mode → Octets → Bool → List Octets → Type 0
SpellsList m o ordered own = (q : Octets) × (read : List Octets) × (o ≡ q ++ joined read) × IsQuantity m q (length own) × IsInOrder m ordered read own

-- A root alternative directly, an addition as an open type (20.2, 20.3).
abbrev pub IsAlternative : Mode → Bool → Octets → Octets → Type 0
IsAlternative m true o f = o ≡ f
IsAlternative m false o f = IsOpenType m o f

-- CHOICE (20): a tag, and the alternative.
abbrev pub SpellsChoice : Mode → Octets → List Tag → Tag → Octets → Type 0
SpellsChoice m o roots g f = (q r : Octets) × (o ≡ q ++ r) × IsTag m q g × IsAlternative m (holds roots g) r f

-- ---- the octets that are written

abbrev pub any_bit : List Item → Bool
any_bit [] = false
any_bit (i ∷ is) = i.bit || any_bit is

abbrev pub additions_octets : List Item → Octets
additions_octets [] = []
additions_octets (i ∷ is) = cond i.bit (behind_length i.octets) [] ++ additions_octets is

abbrev pub extension_octets : List Item → Octets
extension_octets is = cond (any_bit is) (counted_bits (map (λ i. i.bit) is) ++ additions_octets is) []

abbrev pub struct_octets : Bool → Bool → List Item → List Item → Octets
struct_octets set extensible roots additions =
    pack (extension_bit extensible (any_bit additions) ++ presence (in_writing_order set roots))
    ++ (bodies (in_writing_order set roots) ++ extension_octets additions)

abbrev pub put_octets : Octets → List Octets → List Octets
put_octets o [] = o ∷ []
put_octets o (p ∷ ps) = cond (octets_le o p) (o ∷ p ∷ ps) (p ∷ put_octets o ps)

abbrev pub sorted : List Octets → List Octets
sorted [] = []
sorted (o ∷ os) = put_octets o (sorted os)

abbrev pub list_octets : Bool → List Octets → Octets
list_octets ordered own = quantity_octets (length own) ++ joined (cond ordered own (sorted own))

abbrev pub choice_octets : List Tag → Tag → Octets → Octets
choice_octets roots g f = tag_octets g ++ cond (holds roots g) f (behind_length f)
