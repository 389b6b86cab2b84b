-- ENUMERATED types that keep the numbers of newer versions.
use Rattle.std.specs.Prelude.{◌≡◌, ℤ, pos, Bool, true, not, cond, is_some, List, Some, Result, Ok}
use Rattle.std.specs.Bool.{Decides}
use Rattle.std.specs.Option.{option_map_or}
use Rattle.std.proofs.Common.{sym, ap, subst}
use Rattle.asn1_core.specs.Numbers.{in_isize}
use Rattle.asn1_core.specs.Octets.{Octets}
use Rattle.asn1_core.specs.declared.codec.Codec.{Codec}
use Rattle.asn1_core.specs.declared.error.DecodeErrorKind.{DecodeErrorKind}
use Rattle.oer_choices.specs.Numbered.{value_among, same_number, numbers_same}
use Rattle.oer_leaf_read.specs.ReadingEnumerated.{enumerated_at}
use Rattle.oer_spec.specs.Encoding.{IsTree}
use Rattle.oer_spec.specs.Reading.{◌>>=◌}
use Rattle.oer_spec.specs.Same.{Alike, Same}
use Rattle.oer_spec.specs.Spelled.{enumerated, enumerated_is, enumerated_alike}
use Rattle.oer_spec.specs.Tree.{Tree, Leaf, Primitive, Int}
use Rattle.oer_kept.specs.declared.enumerations.KeptEnumeration.{KeptEnumeration}
use Rattle.oer_kept.specs.declared.enumerations.KeptEnumeration.TheVariants.{Known, Other}

module _ {E : Type 0} (number : E → ℤ) where
  abbrev pub kept_number : KeptEnumeration E → ℤ
  kept_number (Known v) = number v
  kept_number (Other n) = n

-- a number outside of its range, which can't be written
abbrev pub no_leaf : Leaf
no_leaf = Int (Some (Some (pos 1), Some (pos 1))) (pos 0)

module _ {E : Type 0} (number : E → ℤ) (values : List E) where
  -- the value of a number: one of this version, where it has the number
  abbrev pub kept_of : ℤ → KeptEnumeration E
  kept_of n = option_map_or Known (value_among number values n) (Other n)

  -- it isn't a number of this version as that of another value
  abbrev pub is_kept : KeptEnumeration E → Bool
  is_kept (Known v) = true
  is_kept (Other n) = not (is_some (value_among number values n))

  -- what is no value can't be written
  abbrev pub kept_tree : KeptEnumeration E → Tree
  kept_tree w = cond (is_kept w) (enumerated (kept_number number w)) (Primitive no_leaf)

  abbrev pub IsKept : KeptEnumeration E → Type 0
  IsKept w = (is_kept w ≡ true) × (in_isize (kept_number number w) ≡ true)

  -- a value has the tree of its number
  pub kept_tree_is : (w : KeptEnumeration E) → is_kept w ≡ true → kept_tree w ≡ enumerated (kept_number number w)
  kept_tree_is w e = ap (λ (b : Bool). cond b (enumerated (kept_number number w)) (Primitive no_leaf)) e

  pub kept_is : (w : KeptEnumeration E) → IsKept w → IsTree (kept_tree w)
  kept_is w (e, i) = subst IsTree (sym (kept_tree_is w e)) (enumerated_is (kept_number number w) i)

  pub kept_alike : (v w : KeptEnumeration E) → IsKept v → IsKept w → Alike (kept_tree v) (kept_tree w)
  kept_alike v w (e, i) (f, j) =
      subst (λ (t : Tree). Alike t (kept_tree w)) (sym (kept_tree_is v e))
      (subst (λ (t : Tree). Alike (enumerated (kept_number number v)) t) (sym (kept_tree_is w f)) (enumerated_alike (kept_number number v) (kept_number number w)))

  pub kept_same : (v w : KeptEnumeration E) → IsKept v → IsKept w → Decides (same_number (kept_number number) v w) (Same (kept_tree v) (kept_tree w))
  kept_same v w (e, i) (f, j) =
      subst (λ (t : Tree). Decides (same_number (kept_number number) v w) (Same t (kept_tree w))) (sym (kept_tree_is v e))
      (subst (λ (t : Tree). Decides (same_number (kept_number number) v w) (Same (enumerated (kept_number number v)) t)) (sym (kept_tree_is w f)) (numbers_same (kept_number number v) (kept_number number w)))

  -- what is read: the number, as the value that has it
  unfoldable pub kept_at : Codec → Octets → Result (KeptEnumeration E × Octets) DecodeErrorKind
  kept_at codec input = enumerated_at codec input >>= λ n. Ok (kept_of n.0, n.1)
