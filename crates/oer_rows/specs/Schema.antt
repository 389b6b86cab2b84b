-- The schema of a type: what is known of its components, said once.
use Rattle.std.specs.Prelude.{◌≡◌, ℕ, suc, Bool, true, false, List, [], ◌∷◌, Option, ⊤, length, refl}
use Rattle.asn1_core.specs.Rows.{Row, AreCountedFrom, AreTables}
use Rattle.asn1_core.specs.declared.constraints.Constraints.{Constraints}
use Rattle.asn1_core.specs.declared.fields.FieldPresence.TheVariants as presence
use Rattle.asn1_core.specs.declared.tag.Class.TheVariants.{Universal, Application, Context, Private}
use Rattle.asn1_core.specs.declared.tag.Tag.{Tag}
use Rattle.oer_spec.specs.Encoding.{IsTree, AreRows, AreSlot}
use Rattle.oer_spec.specs.Same.{Same, SameSlot, Alike, AlikeRows, AlikeSlot}
use Rattle.oer_spec.specs.Spelled.{IsConsistent}
use Rattle.oer_spec.specs.Tree.{Tree, Rows, NoRows, Required, Optional, Default, Struct, present_unless, slot_of}
use Rattle.oer_read.specs.Defaults.{IsDefault}
use Rattle.oer_read.specs.Parts.{Parts, NoParts, RequiredPart, OptionalPart, DefaultPart, Admits, AreOf, IsTableOf}
use Rattle.oer_rows.specs.declared.both.Both.{Both}
use Rattle.oer_rows.specs.Slots.{IfThere, slot_is, slots_alike, slot_made}
use Rattle.oer_rows.specs.DefaultSlots.{default_slot_is, default_slot_differs, default_slot_admitted, default_slots_alike}

-- tags by their number in each class
abbrev pub universal : ℕ → Tag
universal n = record { class = Universal; value = n }

abbrev pub application : ℕ → Tag
application n = record { class = Application; value = n }

abbrev pub context : ℕ → Tag
context n = record { class = Context; value = n }

abbrev pub private_tag : ℕ → Tag
private_tag n = record { class = Private; value = n }

-- A type of components: its values' trees, and which values it admits.
pub record Typed (B : Type 0) : Type 1 where
  pub tree : B → Tree
  pub IsPart : B → Type 0

-- what every type promises of these
pub record IsTyped {B : Type 0} (of : Typed B) : Type 0 where
  pub is : (v : B) → of.IsPart v → IsTree (of.tree v)
  pub like : (v w : B) → of.IsPart v → of.IsPart w → Alike (of.tree v) (of.tree w)

-- a type's trees under its own constraints
abbrev pub typed : {B : Type 0} → (Constraints → B → Tree) → Constraints → (B → Type 0) → Typed B
typed tree c IsValue = record { tree = tree c; IsPart = IsValue }

pub typed_is : {B : Type 0} (tree : Constraints → B → Tree) (IsValue : B → Type 0) → ((c : Constraints) → IsConsistent c → (v : B) → IsValue v → IsTree (tree c v)) → ((c : Constraints) → IsConsistent c → (v w : B) → IsValue v → IsValue w → Alike (tree c v) (tree c w))
    → (c : Constraints) → IsConsistent c → IsTyped (typed tree c IsValue)
typed_is tree IsValue is like c k = record { is = is c k; like = like c k }

-- One table of a type of values, root components or additions: the trees that each may have, a value's rows, the values
-- that are admitted, and the table's rows counted from a number on.
pub record Table (A : Type 0) : Type 1 where
  pub parts : Parts
  pub rows : A → Rows
  pub IsValue : A → Type 0
  pub fields : ℕ → List Row

-- what each table keeps
pub record IsTable {A : Type 0} (t : Table A) : Type 0 where
  pub are : (v : A) → t.IsValue v → AreRows (t.rows v)
  pub like : (v w : A) → t.IsValue v → t.IsValue w → AlikeRows (t.rows v) (t.rows w)
  pub made : (v : A) → t.IsValue v → AreOf t.parts (t.rows v)
  pub is_table : (n : ℕ) → IsTableOf (t.fields n) t.parts
  pub counted : (n : ℕ) → AreCountedFrom n (t.fields n)

-- ---- a table of no components

abbrev pub none : {A : Type 0} → Table A
none = record { parts = NoParts; rows = λ v. NoRows; IsValue = λ v. ⊤; fields = λ n. [] }

empty_are : AreRows NoRows
unfolding Rattle.oer_spec.specs.Encoding.IsTree
empty_are = tt

empty_like : AlikeRows NoRows NoRows
unfolding Rattle.oer_spec.specs.Same.Alike
empty_like = tt

pub none_is : {A : Type 0} → IsTable (none {A = A})
none_is = record { are = λ v i. empty_are; like = λ v w i j. empty_like; made = λ v i. tt; is_table = λ n. tt; counted = λ n. tt }

-- ---- a table, as one of values that hold its own

abbrev pub under : {A R : Type 0} → (A → R) → Table R → Table A
under rest others = record { parts = others.parts; rows = λ v. others.rows (rest v); IsValue = λ v. others.IsValue (rest v); fields = others.fields }

pub under_is : {A R : Type 0} (rest : A → R) (others : Table R) → IsTable others → IsTable (under rest others)
under_is rest others k = record { are = λ v i. k.are (rest v) i; like = λ v w i j. k.like (rest v) (rest w) i j; made = λ v i. k.made (rest v) i; is_table = k.is_table; counted = k.counted }

-- ---- a required component, before others
module _ {A B R : Type 0} (tag : Tag) (of : Typed B) (value : A → B) (rest : A → R) (others : Table R) where
  abbrev pub needed : Table A
  needed = record {
    parts = RequiredPart tag (Admits of.tree of.IsPart) others.parts;
    rows = λ v. Required tag (of.tree (value v)) (others.rows (rest v));
    IsValue = λ v. of.IsPart (value v) × others.IsValue (rest v);
    fields = λ n. record { index = n; tag = tag; presence = presence.Required } ∷ others.fields (suc n);
  }

  required_are : IsTyped of → IsTable others → (v : A) → needed.IsValue v → AreRows (needed.rows v)
  unfolding Rattle.oer_spec.specs.Encoding.IsTree
  required_are t o v (i, k) = (t.is (value v) i, o.are (rest v) k)

  required_like : IsTyped of → IsTable others → (v w : A) → needed.IsValue v → needed.IsValue w → AlikeRows (needed.rows v) (needed.rows w)
  unfolding Rattle.oer_spec.specs.Same.Alike
  required_like t o v w (i, k) (j, l) = (refl, t.like (value v) (value w) i j, o.like (rest v) (rest w) k l)

  pub required_is : IsTyped of → IsTable others → IsTable needed
  required_is t o = record {
    are = required_are t o;
    like = required_like t o;
    made = λ v i. (refl, record { value = value v; is_value = i.0; is = refl }, o.made (rest v) i.1);
    is_table = λ n. (refl, refl, o.is_table (suc n));
    counted = λ n. (refl, o.counted (suc n));
  }

-- ---- an optional component, before others
module _ {A B R : Type 0} (tag : Tag) (of : Typed B) (value : A → Option B) (rest : A → R) (others : Table R) where
  abbrev pub optional : Table A
  optional = record {
    parts = OptionalPart tag (Admits of.tree of.IsPart) others.parts;
    rows = λ v. Optional tag (slot_of of.tree (value v)) (others.rows (rest v));
    IsValue = λ v. IfThere of.IsPart (value v) × others.IsValue (rest v);
    fields = λ n. record { index = n; tag = tag; presence = presence.Optional } ∷ others.fields (suc n);
  }

  optional_are : IsTyped of → IsTable others → (v : A) → optional.IsValue v → AreRows (optional.rows v)
  unfolding Rattle.oer_spec.specs.Encoding.IsTree
  optional_are t o v (i, k) = (slot_is of.tree of.IsPart t.is (value v) i, o.are (rest v) k)

  optional_like : IsTyped of → IsTable others → (v w : A) → optional.IsValue v → optional.IsValue w → AlikeRows (optional.rows v) (optional.rows w)
  unfolding Rattle.oer_spec.specs.Same.Alike
  optional_like t o v w (i, k) (j, l) = (refl, slots_alike of.tree of.IsPart t.like (value v) (value w) i j, o.like (rest v) (rest w) k l)

  pub optional_is : IsTyped of → IsTable others → IsTable optional
  optional_is t o = record {
    are = optional_are t o;
    like = optional_like t o;
    made = λ v i. (refl, slot_made of.tree of.IsPart (value v) i.0, o.made (rest v) i.1);
    is_table = λ n. (refl, refl, o.is_table (suc n));
    counted = λ n. (refl, o.counted (suc n));
  }

-- ---- a component with a default, before others; that the default is one is a part of what is said of the values, since a
-- schema can't cite a law of the type
module _ {A B R : Type 0} (tag : Tag) (of : Typed B) (eq : B → B → Bool) (default : B) (value : A → B) (rest : A → R) (others : Table R) where
  abbrev pub defaulted : Table A
  defaulted = record {
    parts = DefaultPart tag (of.tree default) (Admits of.tree of.IsPart) others.parts;
    rows = λ v. Default tag (of.tree default) (present_unless (eq (value v) default) (of.tree (value v))) (others.rows (rest v));
    IsValue = λ v. IsDefault of.tree of.IsPart eq default × (eq (value v) default ≡ false → of.IsPart (value v)) × others.IsValue (rest v);
    fields = λ n. record { index = n; tag = tag; presence = presence.Default } ∷ others.fields (suc n);
  }

  defaulted_are : IsTable others → (v : A) → defaulted.IsValue v → AreRows (defaulted.rows v)
  unfolding Rattle.oer_spec.specs.Encoding.IsTree
  defaulted_are o v (known, i, k) = (known.is_tree default known.value, default_slot_is of.tree of.IsPart eq default known (value v) i, default_slot_differs of.tree of.IsPart eq default known (value v) i, o.are (rest v) k)

  defaulted_like : IsTable others → (v w : A) → defaulted.IsValue v → defaulted.IsValue w → AlikeRows (defaulted.rows v) (defaulted.rows w)
  unfolding Rattle.oer_spec.specs.Same.Alike
  defaulted_like o v w (known, i, k) (_, j, l) =
      let a = default_slots_alike of.tree of.IsPart eq default known (value v) (value w) i j in
      (refl, refl, a.itself, a.other, a.own, a.both, o.like (rest v) (rest w) k l)

  pub defaulted_is : IsTable others → IsTable defaulted
  defaulted_is o = record {
    are = defaulted_are o;
    like = defaulted_like o;
    made = λ v i. (refl, refl, default_slot_admitted of.tree of.IsPart eq default i.0 (value v) i.1, default_slot_differs of.tree of.IsPart eq default i.0 (value v) i.1, o.made (rest v) i.2);
    is_table = λ n. (refl, refl, o.is_table (suc n));
    counted = λ n. (refl, o.counted (suc n));
  }

-- ---- both tables of a type

pub record Schema (A : Type 0) : Type 1 where
  pub roots : Table A
  pub additions : Table A

-- what both keep: additions stand only in an extensible type
pub record IsSchema {A : Type 0} (s : Schema A) (extensible : Bool) : Type 0 where
  pub roots : IsTable s.roots
  pub additions : IsTable s.additions
  pub no_additions : extensible ≡ false → (v : A) → s.additions.rows v ≡ NoRows
  pub no_fields : extensible ≡ false → s.additions.fields 0 ≡ []

-- no component
abbrev pub empty : {A : Type 0} → Schema A
empty = record { roots = none; additions = none }

pub empty_is : {A : Type 0} → IsSchema (empty {A = A}) false
empty_is = record { roots = none_is; additions = none_is; no_additions = λ e v. refl; no_fields = λ e. refl }

-- additions alone
abbrev pub added : {A : Type 0} → Table A → Schema A
added t = record { roots = none; additions = t }

pub added_is : {A : Type 0} (t : Table A) → IsTable t → IsSchema (added t) true
added_is t k = record { roots = none_is; additions = k; no_additions = λ e v. absurd (cc e); no_fields = λ e. absurd (cc e) }

-- a root component before others
abbrev pub required_then : {B R : Type 0} → Tag → Typed B → Schema R → Schema (Both B R)
required_then tag of s = record { roots = needed tag of (λ v. v.0) (λ v. v.1) s.roots; additions = under (λ v. v.1) s.additions }

abbrev pub optional_then : {B R : Type 0} → Tag → Typed B → Schema R → Schema (Both (Option B) R)
optional_then tag of s = record { roots = optional tag of (λ v. v.0) (λ v. v.1) s.roots; additions = under (λ v. v.1) s.additions }

abbrev pub default_then : {B R : Type 0} → Tag → Typed B → (B → B → Bool) → B → Schema R → Schema (Both B R)
default_then tag of eq default s = record { roots = defaulted tag of eq default (λ v. v.0) (λ v. v.1) s.roots; additions = under (λ v. v.1) s.additions }

pub required_then_is : {B R : Type 0} (tag : Tag) (of : Typed B) (s : Schema R) (extensible : Bool) → IsTyped of → IsSchema s extensible → IsSchema (required_then tag of s) extensible
required_then_is tag of s extensible t k = record {
  roots = required_is tag of (λ v. v.0) (λ v. v.1) s.roots t k.roots;
  additions = under_is (λ v. v.1) s.additions k.additions;
  no_additions = λ e v. k.no_additions e v.1;
  no_fields = k.no_fields;
}

pub optional_then_is : {B R : Type 0} (tag : Tag) (of : Typed B) (s : Schema R) (extensible : Bool) → IsTyped of → IsSchema s extensible → IsSchema (optional_then tag of s) extensible
optional_then_is tag of s extensible t k = record {
  roots = optional_is tag of (λ v. v.0) (λ v. v.1) s.roots t k.roots;
  additions = under_is (λ v. v.1) s.additions k.additions;
  no_additions = λ e v. k.no_additions e v.1;
  no_fields = k.no_fields;
}

pub default_then_is : {B R : Type 0} (tag : Tag) (of : Typed B) (eq : B → B → Bool) (default : B) (s : Schema R) (extensible : Bool) → IsSchema s extensible → IsSchema (default_then tag of eq default s) extensible
default_then_is tag of eq default s extensible k = record {
  roots = defaulted_is tag of eq default (λ v. v.0) (λ v. v.1) s.roots k.roots;
  additions = under_is (λ v. v.1) s.additions k.additions;
  no_additions = λ e v. k.no_additions e v.1;
  no_fields = k.no_fields;
}

-- the schema of values that have their components in another value
abbrev pub through : {A R : Type 0} → (A → R) → Schema R → Schema A
through rest s = record { roots = under rest s.roots; additions = under rest s.additions }

pub through_is : {A R : Type 0} (rest : A → R) (s : Schema R) (extensible : Bool) → IsSchema s extensible → IsSchema (through rest s) extensible
through_is rest s extensible k = record {
  roots = under_is rest s.roots k.roots;
  additions = under_is rest s.additions k.additions;
  no_additions = λ e v. k.no_additions e (rest v);
  no_fields = k.no_fields;
}

-- ---- what a type has by its schema

abbrev pub tree_of : {A : Type 0} → Schema A → Bool → A → Tree
tree_of s extensible v = Struct false extensible (s.roots.rows v) (s.additions.rows v)

abbrev pub IsOf : {A : Type 0} → Schema A → A → Type 0
IsOf s v = s.roots.IsValue v × s.additions.IsValue v

pub schema_is : {A : Type 0} (s : Schema A) (extensible : Bool) → IsSchema s extensible → (v : A) → IsOf s v → IsTree (tree_of s extensible v)
unfolding Rattle.oer_spec.specs.Encoding.IsTree
schema_is s extensible k v (i, j) = (k.roots.are v i, k.additions.are v j, (λ e. k.no_additions e v), (λ e. absurd (cc e)))

pub schema_like : {A : Type 0} (s : Schema A) (extensible : Bool) → IsSchema s extensible → (v w : A) → IsOf s v → IsOf s w → Alike (tree_of s extensible v) (tree_of s extensible w)
unfolding Rattle.oer_spec.specs.Same.Alike
schema_like s extensible k v w (i, j) (l, m) = (refl, refl, k.roots.like v w i l, k.additions.like v w j m)

-- its two tables, by how many rows each has
pub schema_tables : {A : Type 0} (s : Schema A) (extensible : Bool) → IsSchema s extensible → (roots additions : ℕ) → length (s.roots.fields 0) ≡ roots → length (s.additions.fields 0) ≡ additions
    → AreTables false extensible roots additions (s.roots.fields 0) (s.additions.fields 0)
schema_tables s extensible k roots additions e f = record {
  root_count = e;
  addition_count = f;
  root_indexes = k.roots.counted 0;
  addition_indexes = k.additions.counted 0;
  only = k.no_fields;
  distinct = λ e. absurd (cc e);
}

-- a type's tables are its row's
pub record HasTables {A : Type 0} (s : Schema A) (of_row extensible : Bool) (roots additions : List Row) : Type 0 where
  pub same : of_row ≡ extensible
  pub roots_are : roots ≡ s.roots.fields 0
  pub additions_are : additions ≡ s.additions.fields 0
