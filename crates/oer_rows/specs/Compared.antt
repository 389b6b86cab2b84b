-- Sequences that are same just where their components are equal, piece by piece.
use Rattle.std.specs.Prelude.{◌≡◌, Bool, true, false, ◌&&◌, Option, Some, None, ⊤, refl}
use Rattle.std.specs.Bool.{Decides}
use Rattle.std.specs.Option.{option_eq}
use Rattle.std.proofs.lemmas.Bool.Decides.{Decides-and, Decides-like}
use Rattle.asn1_core.specs.declared.tag.Tag.{Tag}
use Rattle.oer_spec.specs.Same.{Same, SameRows, SameSlot}
use Rattle.oer_spec.specs.Tree.{Tree, Struct, Rows, NoRows, Required, Optional, Default, Slot, Absent, Present, slot_of, present_unless}
use Rattle.oer_rows.specs.Slots.{IfThere}

-- a required component alone
pub required_same : (g : Tag) (t u : Tree) (b : Bool) → Decides b (Same t u) → Decides b (SameRows (Required g t NoRows) (Required g u NoRows))
unfolding Rattle.oer_spec.specs.Same.Same
required_same g t u b d = (λ e. (refl, d.0 e, tt), λ s. d.1 s.1)

-- an optional component alone
module _ {A : Type 0} (tree : A → Tree) (IsValue : A → Type 0) (eq : A → A → Bool) (decides : (v w : A) → IsValue v → IsValue w → Decides (eq v w) (Same (tree v) (tree w))) where
  slots_same : (o p : Option A) → IfThere IsValue o → IfThere IsValue p → Decides (option_eq eq o p) (SameSlot (slot_of tree o) (slot_of tree p))
  unfolding Rattle.oer_spec.specs.Same.Same
  slots_same None None i j = (λ e. tt, λ s. refl)
  slots_same None (Some w) i j = (λ e. absurd (cc e), λ s. absurd s)
  slots_same (Some v) None i j = (λ e. absurd (cc e), λ s. absurd s)
  slots_same (Some v) (Some w) i j = decides v w i j

  pub optional_same : (g : Tag) (o p : Option A) → IfThere IsValue o → IfThere IsValue p → Decides (option_eq eq o p) (SameRows (Optional g (slot_of tree o) NoRows) (Optional g (slot_of tree p) NoRows))
  unfolding Rattle.oer_spec.specs.Same.Same
  optional_same g o p i j = let d = slots_same o p i j in (λ e. (refl, d.0 e, tt), λ s. d.1 s.1)

-- a sequence of root components alone
pub roots_same : (extensible : Bool) (r q : Rows) (b : Bool) → Decides b (SameRows r q) → Decides b (Same (Struct false extensible r NoRows) (Struct false extensible q NoRows))
unfolding Rattle.oer_spec.specs.Same.Same
roots_same extensible r q b d = (λ e. (refl, refl, d.0 e, tt), λ s. d.1 s.2)

-- a sequence of root components and additions
pub tables_same : (extensible : Bool) (r q a c : Rows) (b d : Bool) → Decides b (SameRows r q) → Decides d (SameRows a c) → Decides (b && d) (Same (Struct false extensible r a) (Struct false extensible q c))
unfolding Rattle.oer_spec.specs.Same.Same
tables_same extensible r q a c b d first second = let k = Decides-and b d first second in (λ e. let (x, y) = k.0 e in (refl, refl, x, y), λ s. k.1 (s.2, s.3))

-- ---- values with parts, which are compared in any order

-- that two trees, or two rows, are same is just what is known of their parts
pub record SameBy (P : Type 0) (t u : Tree) : Type 0 where
  pub whole : P → Same t u
  pub parts : Same t u → P

pub record SameRowsBy (P : Type 0) (r q : Rows) : Type 0 where
  pub whole : P → SameRows r q
  pub parts : SameRows r q → P

pub no_rows_by : SameRowsBy ⊤ NoRows NoRows
unfolding Rattle.oer_spec.specs.Same.Same
no_rows_by = record { whole = λ p. tt; parts = λ s. tt }

module _ {P : Type 0} {r q : Rows} where
  pub required_by : {g : Tag} {t u : Tree} → SameRowsBy P r q → SameRowsBy (Same t u × P) (Required g t r) (Required g u q)
  unfolding Rattle.oer_spec.specs.Same.Same
  required_by rest = record { whole = λ (p, o). (refl, p, rest.whole o); parts = λ (e, s, o). (s, rest.parts o) }

  pub optional_by : {g : Tag} {s z : Slot} → SameRowsBy P r q → SameRowsBy (SameSlot s z × P) (Optional g s r) (Optional g z q)
  unfolding Rattle.oer_spec.specs.Same.Same
  optional_by rest = record { whole = λ (p, o). (refl, p, rest.whole o); parts = λ (e, s, o). (s, rest.parts o) }

  pub default_by : {g : Tag} {d : Tree} {s z : Slot} → SameRowsBy P r q → SameRowsBy (SameSlot s z × P) (Default g d s r) (Default g d z q)
  unfolding Rattle.oer_spec.specs.Same.Same
  default_by rest = record { whole = λ (p, o). (refl, refl, p, rest.whole o); parts = λ (e, f, s, o). (s, rest.parts o) }

pub struct_by : {set extensible : Bool} {P Q : Type 0} {r q a c : Rows} → SameRowsBy P r q → SameRowsBy Q a c → SameBy (P × Q) (Struct set extensible r a) (Struct set extensible q c)
unfolding Rattle.oer_spec.specs.Same.Same
struct_by roots additions = record { whole = λ (p, o). (refl, refl, roots.whole p, additions.whole o); parts = λ (e, f, s, o). (roots.parts s, additions.parts o) }

-- a part and those before it
pub also_same : {a b : Bool} {P Q : Type 0} → Decides a P → Decides b Q → Decides (a && b) (P × Q)
also_same {a} {b} d e = Decides-and a b d e

-- no part at all
pub nothing_same : Decides true ⊤
nothing_same = (λ e. tt, λ s. refl)

-- the parts in the order in which they are compared, and in that of their rows
pub parts_same : {b : Bool} {P Q : Type 0} {t u : Tree} → Decides b P → SameBy Q t u → (P → Q) → (Q → P) → Decides b (Same t u)
parts_same {b} d by to from = Decides-like b (λ p. by.whole (to p)) (λ s. from (by.parts s)) d

-- what is said of each value said of one
pub given_same : {A : Type 0} (tree : A → Tree) (IsValue : A → Type 0) (eq : A → A → Bool) (w : A) → ((v : A) → IsValue v → Decides (eq v w) (Same (tree v) (tree w))) → (v : A) → IsValue v → Decides (eq v w) (Same (tree v) (tree w))
given_same tree IsValue eq w each v i = each v i

-- an optional component that the other value lacks, and one that it has
module _ {A : Type 0} (tree : A → Tree) (eq : A → A → Bool) where
  pub absent_same : (o : Option A) → Decides (option_eq eq o None) (SameSlot (slot_of tree o) Absent)
  unfolding Rattle.oer_spec.specs.Same.Same
  absent_same None = (λ e. tt, λ s. refl)
  absent_same (Some v) = (λ e. absurd (cc e), λ s. absurd s)

  pub present_same : (IsValue : A → Type 0) (w : A) → ((v : A) → IsValue v → Decides (eq v w) (Same (tree v) (tree w))) → (o : Option A) → IfThere IsValue o → Decides (option_eq eq o (Some w)) (SameSlot (slot_of tree o) (Present (tree w)))
  unfolding Rattle.oer_spec.specs.Same.Same
  present_same IsValue w d None i = (λ e. absurd (cc e), λ s. absurd s)
  present_same IsValue w d (Some v) i = d v i

-- a component that is equal to its own default
pub omitted_same : (b : Bool) (t : Tree) → Decides b (SameSlot (present_unless b t) Absent)
unfolding Rattle.oer_spec.specs.Same.Same
omitted_same true t = (λ e. tt, λ s. refl)
omitted_same false t = (λ e. absurd (cc e), λ s. absurd s)
