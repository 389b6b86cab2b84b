-- Trees of an older and of a newer version of one type.
use Rattle.std.specs.Prelude.{◌≡◌, Bool, true, false, ◌⊎◌, ⊤}
use Rattle.asn1_core.specs.Tags.{holds}
use Rattle.oer_spec.specs.Same.{StandsIn}
use Rattle.oer_spec.specs.Tree.{Tree, Primitive, Struct, ListOf, Choice, Rows, NoRows, Required, Optional, Default, Slot, Absent, Present, Trees, NoTrees, More}

-- The second tree is the first, the newer one, less its later additions. Where settled, no present slot stands beside an
-- absent one: so canonical reading takes the one for the other too.
unfoldable mutual
  pub Drops : Bool → Tree → Tree → Type 0
  Drops settled (Primitive l) (Primitive k) = l ≡ k
  Drops settled (Struct s e r a) (Struct s' e' r' a') = (s ≡ s') × (e ≡ e') × DropsRows settled false r r' × DropsRows settled true a a'
  Drops settled (ListOf true ts) (ListOf true us) = DropsTrees settled ts us
  Drops settled (ListOf false ts) (ListOf false us) = DropsReordered settled ts us
  Drops settled (Choice r a g t) (Choice r' a' g' t') = (g ≡ g') × (holds r g ≡ holds r' g') × Drops settled t t'
  Drops settled _ _ = ⊥

  -- whether the newer tree may have more rows
  pub DropsRows : Bool → Bool → Rows → Rows → Type 0
  DropsRows settled more NoRows NoRows = ⊤
  DropsRows settled more (Required g t r) (Required g' t' r') = (g ≡ g') × Drops settled t t' × DropsRows settled more r r'
  DropsRows settled more (Optional g s r) (Optional g' s' r') = (g ≡ g') × DropsSlot settled s s' × DropsRows settled more r r'
  DropsRows settled more (Default g u s r) (Default g' u' s' r') =
      (g ≡ g') × Drops false u u' × (DropsSlot settled s s' ⊎ ((settled ≡ false) × (s' ≡ Absent) × DropsSlot settled s (Present u'))) × DropsRows settled more r r'
  DropsRows settled more (Required g t r) NoRows = more ≡ true
  DropsRows settled more (Optional g s r) NoRows = more ≡ true
  DropsRows settled more (Default g u s r) NoRows = more ≡ true
  DropsRows settled more _ _ = ⊥

  pub DropsSlot : Bool → Slot → Slot → Type 0
  DropsSlot settled Absent Absent = ⊤
  DropsSlot settled (Present t) (Present t') = Drops settled t t'
  DropsSlot settled _ _ = ⊥

  pub DropsTrees : Bool → Trees → Trees → Type 0
  DropsTrees settled NoTrees NoTrees = ⊤
  DropsTrees settled (More t ts) (More u us) = Drops settled t u × DropsTrees settled ts us
  DropsTrees settled _ _ = ⊥

  pub DropsReordered : Bool → Trees → Trees → Type 0
  DropsReordered settled NoTrees us = us ≡ NoTrees
  DropsReordered settled (More t ts) us = (u : Tree) × (rest : Trees) × StandsIn us u rest × Drops settled t u × DropsReordered settled ts rest

-- further additions of the newer type
abbrev pub AreAbsent : Rows → Type 0
AreAbsent NoRows = ⊤
AreAbsent (Required g t r) = ⊥
AreAbsent (Optional g s r) = (s ≡ Absent) × AreAbsent r
AreAbsent (Default g u s r) = (s ≡ Absent) × AreAbsent r

-- The second tree is the first, the older one, under newer tables.
unfoldable mutual
  pub Lacks : Tree → Tree → Type 0
  Lacks (Primitive l) (Primitive k) = l ≡ k
  Lacks (Struct s e r a) (Struct s' e' r' a') = (s ≡ s') × (e ≡ e') × LacksRows false r r' × LacksRows true a a'
  Lacks (ListOf true ts) (ListOf true us) = LacksTrees ts us
  Lacks (ListOf false ts) (ListOf false us) = LacksReordered ts us
  Lacks (Choice r a g t) (Choice r' a' g' t') = (g ≡ g') × (holds r g ≡ holds r' g') × Lacks t t'
  Lacks _ _ = ⊥

  pub LacksRows : Bool → Rows → Rows → Type 0
  LacksRows false NoRows r' = r' ≡ NoRows
  LacksRows true NoRows r' = AreAbsent r'
  LacksRows more (Required g t r) (Required g' t' r') = (g ≡ g') × Lacks t t' × LacksRows more r r'
  LacksRows more (Optional g s r) (Optional g' s' r') = (g ≡ g') × LacksSlot s s' × LacksRows more r r'
  LacksRows more (Default g u s r) (Default g' u' s' r') = (g ≡ g') × Lacks u u' × LacksSlot s s' × LacksRows more r r'
  LacksRows more _ _ = ⊥

  pub LacksSlot : Slot → Slot → Type 0
  LacksSlot Absent Absent = ⊤
  LacksSlot (Present t) (Present t') = Lacks t t'
  LacksSlot _ _ = ⊥

  pub LacksTrees : Trees → Trees → Type 0
  LacksTrees NoTrees NoTrees = ⊤
  LacksTrees (More t ts) (More u us) = Lacks t u × LacksTrees ts us
  LacksTrees _ _ = ⊥

  pub LacksReordered : Trees → Trees → Type 0
  LacksReordered NoTrees us = us ≡ NoTrees
  LacksReordered (More t ts) us = (u : Tree) × (rest : Trees) × StandsIn us u rest × Lacks t u × LacksReordered ts rest
