-- What is kept of the slots of components with a default.
use Rattle.std.specs.Prelude.{◌≡◌, Bool, true, false, refl}
use Rattle.oer_spec.specs.Encoding.{IsTree, AreSlot}
use Rattle.oer_spec.specs.Same.{SameSlot, Alike, AlikeSlot, OnSlot}
use Rattle.oer_spec.specs.Tree.{Tree, Slot, Present, present_unless}
use Rattle.oer_read.specs.Defaults.{IsDefault}
use Rattle.oer_read.specs.Parts.{Admits, OnPresent}

module _ {A : Type 0} (tree : A → Tree) (IsValue : A → Type 0) (eq : A → A → Bool) (default : A) (known : IsDefault tree IsValue eq default) where
  -- the slot of a value: absent where it is equal to the default
  abbrev pub default_slot : A → Slot
  default_slot v = present_unless (eq v default) (tree v)

  -- of a value that is equal to the default nothing more has to be known
  abbrev pub IfOther : A → Type 0
  IfOther v = eq v default ≡ false → IsValue v

  present_is : (b : Bool) (v : A) → (b ≡ false → IsValue v) → AreSlot (present_unless b (tree v))
  unfolding Rattle.oer_spec.specs.Encoding.IsTree
  present_is true v i = tt
  present_is false v i = known.is_tree v (i refl)

  pub default_slot_is : (v : A) → IfOther v → AreSlot (default_slot v)
  default_slot_is v i = present_is (eq v default) v i

  present_differs : (b : Bool) (v : A) → (b ≡ false → IsValue v) → eq v default ≡ b → SameSlot (present_unless b (tree v)) (Present (tree default)) → ⊥
  unfolding Rattle.oer_spec.specs.Same.Same
  present_differs true v i e x = x
  present_differs false v i e x = absurd (cc (e, (known.decides v (i refl)).1 x))

  pub default_slot_differs : (v : A) → IfOther v → SameSlot (default_slot v) (Present (tree default)) → ⊥
  default_slot_differs v i x = present_differs (eq v default) v i refl x

  present_admitted : (b : Bool) (v : A) → (b ≡ false → IsValue v) → OnPresent (Admits tree IsValue) (present_unless b (tree v))
  present_admitted true v i = tt
  present_admitted false v i = record { value = v; is_value = i refl; is = refl }

  pub default_slot_admitted : (v : A) → IfOther v → OnPresent (Admits tree IsValue) (default_slot v)
  default_slot_admitted v i = present_admitted (eq v default) v i

  -- a value's slot, and another's, are alike each other and the default
  pub record AlikeDefaults (v w : A) : Type 0 where
    pub itself : Alike (tree default) (tree default)
    pub other : OnSlot (λ t. Alike (tree default) t) (default_slot w)
    pub own : AlikeSlot (default_slot v) (Present (tree default))
    pub both : AlikeSlot (default_slot v) (default_slot w)

  present_other : (b : Bool) (w : A) → (b ≡ false → IsValue w) → OnSlot (λ t. Alike (tree default) t) (present_unless b (tree w))
  present_other true w j = tt
  present_other false w j = known.alike default w known.value (j refl)

  present_own : (b : Bool) (v : A) → (b ≡ false → IsValue v) → AlikeSlot (present_unless b (tree v)) (Present (tree default))
  unfolding Rattle.oer_spec.specs.Same.Alike
  present_own true v i = tt
  present_own false v i = known.alike v default (i refl) known.value

  present_both : (b c : Bool) (v w : A) → (b ≡ false → IsValue v) → (c ≡ false → IsValue w) → AlikeSlot (present_unless b (tree v)) (present_unless c (tree w))
  unfolding Rattle.oer_spec.specs.Same.Alike
  present_both true c v w i j = tt
  present_both false true v w i j = tt
  present_both false false v w i j = known.alike v w (i refl) (j refl)

  pub default_slots_alike : (v w : A) → IfOther v → IfOther w → AlikeDefaults v w
  default_slots_alike v w i j = record {
    itself = known.alike default default known.value known.value;
    other = present_other (eq w default) w j;
    own = present_own (eq v default) v i;
    both = present_both (eq v default) (eq w default) v w i j;
  }
