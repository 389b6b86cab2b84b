-- Equal trees, and trees that could be of one type.
use Rattle.std.specs.Prelude.{◌≡◌, true, false, ◌⊎◌, ⊤}
use Rattle.oer_spec.specs.Tree.{Leaf, Boolean, Null, Enum, Int, Bits, Named, Text, Tree, Primitive, Struct, ListOf, Choice, Rows, NoRows, Required, Optional, Default, Slot, Absent, Present, Trees, NoTrees, More}

-- each of the trees, present slots and defaults
abbrev pub EachTree : (Tree → Type 0) → Trees → Type 0
EachTree P NoTrees = ⊤
EachTree P (More t ts) = P t × EachTree P ts

abbrev pub OnSlot : (Tree → Type 0) → Slot → Type 0
OnSlot P Absent = ⊤
OnSlot P (Present t) = P t

-- t stands at some place of us, and rest is us less that place
abbrev pub StandsIn : Trees → Tree → Trees → Type 0
StandsIn NoTrees t rest = ⊥
StandsIn (More u us) t rest = ((u ≡ t) × (us ≡ rest)) ⊎ ((rs : Trees) × (rest ≡ More u rs) × StandsIn us t rs)

-- Equal node by node, defaults included; unordered lists in some order.
unfoldable mutual
  pub Same : Tree → Tree → Type 0
  Same (Primitive l) (Primitive k) = l ≡ k
  Same (Struct s e r a) (Struct s' e' r' a') = (s ≡ s') × (e ≡ e') × SameRows r r' × SameRows a a'
  Same (ListOf true ts) (ListOf true us) = SameTrees ts us
  Same (ListOf false ts) (ListOf false us) = SameReordered ts us
  Same (Choice r a g t) (Choice r' a' g' t') = (r ≡ r') × (a ≡ a') × (g ≡ g') × Same t t'
  Same _ _ = ⊥

  pub SameRows : Rows → Rows → Type 0
  SameRows NoRows NoRows = ⊤
  SameRows (Required g t r) (Required g' t' r') = (g ≡ g') × Same t t' × SameRows r r'
  SameRows (Optional g s r) (Optional g' s' r') = (g ≡ g') × SameSlot s s' × SameRows r r'
  SameRows (Default g u s r) (Default g' u' s' r') = (g ≡ g') × (u ≡ u') × SameSlot s s' × SameRows r r'
  SameRows _ _ = ⊥

  pub SameSlot : Slot → Slot → Type 0
  SameSlot Absent Absent = ⊤
  SameSlot (Present t) (Present t') = Same t t'
  SameSlot _ _ = ⊥

  pub SameTrees : Trees → Trees → Type 0
  SameTrees NoTrees NoTrees = ⊤
  SameTrees (More t ts) (More u us) = Same t u × SameTrees ts us
  SameTrees _ _ = ⊥

  pub SameReordered : Trees → Trees → Type 0
  SameReordered NoTrees us = us ≡ NoTrees
  SameReordered (More t ts) us = (u : Tree) × (rest : Trees) × StandsIn us u rest × Same t u × SameReordered ts rest

abbrev pub AlikeLeaf : Leaf → Leaf → Type 0
AlikeLeaf (Boolean b) (Boolean c) = ⊤
AlikeLeaf Null Null = ⊤
AlikeLeaf (Enum n) (Enum m) = ⊤
AlikeLeaf (Int r n) (Int r' m) = r ≡ r'
AlikeLeaf (Bits s b) (Bits s' c) = s ≡ s'
AlikeLeaf (Named s b) (Named s' c) = s ≡ s'
AlikeLeaf (Text r s c) (Text r' s' c') = (r ≡ r') × (s ≡ s')
AlikeLeaf _ _ = ⊥

-- Could be of one type: the same sort of node, equal but for numbers, bits, content, slots, elements, tag and alternative.
unfoldable mutual
  pub Alike : Tree → Tree → Type 0
  Alike (Primitive l) (Primitive k) = AlikeLeaf l k
  Alike (Struct s e r a) (Struct s' e' r' a') = (s ≡ s') × (e ≡ e') × AlikeRows r r' × AlikeRows a a'
  Alike (ListOf o ts) (ListOf o' us) = (o ≡ o') × AlikeTrees ts us
  Alike (Choice r a g t) (Choice r' a' g' t') = (r ≡ r') × (a ≡ a') × (g ≡ g' → Alike t t')
  Alike _ _ = ⊥

  pub AlikeRows : Rows → Rows → Type 0
  AlikeRows NoRows NoRows = ⊤
  AlikeRows (Required g t r) (Required g' t' r') = (g ≡ g') × Alike t t' × AlikeRows r r'
  AlikeRows (Optional g s r) (Optional g' s' r') = (g ≡ g') × AlikeSlot s s' × AlikeRows r r'
  -- the present trees and the default are alike, pairwise
  AlikeRows (Default g u s r) (Default g' u' s' r') =
      (g ≡ g') × (u ≡ u') × Alike u u × OnSlot (λ t'. Alike u t') s' × AlikeSlot s (Present u) × AlikeSlot s s' × AlikeRows r r'
  AlikeRows _ _ = ⊥

  -- slots that are both present
  pub AlikeSlot : Slot → Slot → Type 0
  AlikeSlot Absent s' = ⊤
  AlikeSlot (Present t) s' = OnSlot (λ t'. Alike t t') s'

  pub AlikeTrees : Trees → Trees → Type 0
  AlikeTrees NoTrees us = ⊤
  AlikeTrees (More t ts) us = EachTree (λ u. Alike t u) us × AlikeTrees ts us
