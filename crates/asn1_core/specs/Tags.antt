-- Tags (X.680, clause 8; X.696, 8.7): a class and a number, and their order.
use Rattle.std.specs.Prelude.{◌≡◌, ℕ, ◌+◌, Bool, false, cond, ◌&&◌, ◌||◌, ◌==◌, nat_lt, nat_le, List, [], ◌∷◌, ⊤}
use Rattle.asn1_core.specs.declared.tag.Class.{Class}
use Rattle.asn1_core.specs.declared.tag.Class.TheVariants.{Universal, Application, Context, Private}
use Rattle.asn1_core.specs.declared.tag.Tag.{Tag}

-- the class as it stands in the top two bits of a tag's first octet
abbrev pub class_number : Class → ℕ
class_number Universal = 0
class_number Application = 1
class_number Context = 2
class_number Private = 3

-- by class, then by number
abbrev pub tag_le : Tag → Tag → Bool
tag_le a b = nat_lt (class_number a.class) (class_number b.class) || ((class_number a.class == class_number b.class) && nat_le a.value b.value)

abbrev pub same_tag : Tag → Tag → Bool
same_tag a b = (class_number a.class == class_number b.class) && (a.value == b.value)

abbrev pub holds : List Tag → Tag → Bool
holds [] g = false
holds (h ∷ hs) g = same_tag h g || holds hs g

abbrev pub times_held : List Tag → Tag → ℕ
times_held [] g = 0
times_held (h ∷ hs) g = cond (same_tag h g) 1 0 + times_held hs g

abbrev pub AreDistinct : List Tag → Type 0
AreDistinct [] = ⊤
AreDistinct (g ∷ gs) = (holds gs g ≡ false) × AreDistinct gs

-- in front of the first of no lower tag
abbrev pub put_by_tag : {X : Type 0} → (X → Tag) → X → List X → List X
put_by_tag tag x [] = x ∷ []
put_by_tag tag x (y ∷ ys) = cond (tag_le (tag x) (tag y)) (x ∷ y ∷ ys) (y ∷ put_by_tag tag x ys)

-- in tag order, those of one tag as they stood
abbrev pub by_tag : {X : Type 0} → (X → Tag) → List X → List X
by_tag tag [] = []
by_tag tag (x ∷ xs) = put_by_tag tag x (by_tag tag xs)
