-- Which values of a choice are equal to one of them, by its alternatives.
use Rattle.std.specs.Prelude.{◌≡◌, Bool, true, false, List, refl}
use Rattle.std.specs.Bool.{Decides}
use Rattle.std.proofs.Common.{sym, ap, ◌∙◌}
use Rattle.asn1_core.specs.Tags.{same_tag}
use Rattle.asn1_core.specs.declared.tag.Tag.{Tag}
use Rattle.oer_spec.specs.Same.{Same}
use Rattle.oer_spec.specs.Tree.{Tree, Choice}
use Rattle.oer_choices.specs.Choosing.{same_itself}
use Rattle.oer_choices.specs.declared.choices.OneOf.{OneOf}

-- values of one alternative, and of two
module _ (roots additions : List Tag) (g : Tag) (t u : Tree) where
  pub alternative_same : (b : Bool) → Decides b (Same t u) → Decides b (Same (Choice roots additions g t) (Choice roots additions g u))
  unfolding Rattle.oer_spec.specs.Same.Same
  alternative_same b d = (λ e. (refl, refl, refl, d.0 e), λ s. d.1 s.3)

  pub other_alternative : (h : Tag) → same_tag g h ≡ false → Decides false (Same (Choice roots additions g t) (Choice roots additions h u))
  unfolding Rattle.oer_spec.specs.Same.Same
  other_alternative h n = (λ e. absurd (cc e), λ s. let f = sym (same_itself g) ∙ ap (λ z. same_tag g z) s.2 ∙ n in absurd (cc f))

-- what is said of each alternative is said of each value
module _ {A : Type 0} (tree : OneOf A → Tree) (IsValue : OneOf A → Type 0) (eq : OneOf A → OneOf A → Bool) (w : OneOf A) where
  pub chosen_same : ((a : A) → IsValue (record { 0 = a }) → Decides (eq (record { 0 = a }) w) (Same (tree (record { 0 = a })) (tree w))) → (v : OneOf A) → IsValue v → Decides (eq v w) (Same (tree v) (tree w))
  chosen_same each v i = each v.0 i
