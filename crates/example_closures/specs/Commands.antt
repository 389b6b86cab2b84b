-- A choice of a root alternative and an extension addition.
use Rattle.std.specs.Prelude.{◌≡◌, ◌<◌, ◌^◌, List, [], ◌∷◌, refl}
use Rattle.std.proofs.Common.{sym, ap, arith}
use Rattle.asn1_core.specs.declared.constraints.TheConstants.Constraints.{NONE}
use Rattle.asn1_core.specs.declared.tag.Tag.{Tag}
use Rattle.oer_spec.specs.Encoding.{IsTree}
use Rattle.oer_spec.specs.Same.{Alike}
use Rattle.oer_spec.specs.Spelled.{null, null_is, nulls_alike, integer_is, integers_alike}
use Rattle.oer_spec.specs.Tree.{Tree, Choice}
use Rattle.oer_rows.specs.Integers.{plain_integer}
use Rattle.oer_rows.specs.Schema.{context}
use Rattle.example_closures.specs.declared.commands.Command.{Command}
use Rattle.example_closures.specs.declared.commands.Command.TheVariants.{Level, Reset}

abbrev pub command_roots : List Tag
command_roots = context 0 ∷ []

abbrev pub command_additions : List Tag
command_additions = context 1 ∷ []

pub tags_differ : context 0 ≡ context 1 → ⊥
tags_differ e = absurd (cc (ap (λ (g : Tag). g.value) e))

-- the tag of an alternative, and the tree of what it holds
abbrev pub command_tag : Command → Tag
command_tag (Level n) = context 0
command_tag (Reset u) = context 1

abbrev pub command_child : Command → Tree
command_child (Level n) = plain_integer n
command_child (Reset u) = null u

unfoldable pub command_tree : Command → Tree
command_tree v = Choice command_roots command_additions (command_tag v) (command_child v)

pub command_chosen : (v : Command) → command_tree v ≡ Choice command_roots command_additions (command_tag v) (command_child v)
unfolding command_tree
command_chosen v = refl

pub command_is : (v : Command) → IsTree (command_tree v)
unfolding command_tree Rattle.oer_spec.specs.Encoding.IsTree
command_is (Level n) = (integer_is NONE n, refl)
command_is (Reset u) = (null_is u, refl)

-- the trees of what one alternative holds are alike
pub commands_alike : (v w : Command) → Alike (command_tree v) (command_tree w)
unfolding command_tree Rattle.oer_spec.specs.Same.Alike
commands_alike (Level n) (Level m) = (refl, refl, λ e. integers_alike NONE n m)
commands_alike (Level n) (Reset u) = (refl, refl, λ e. absurd (tags_differ e))
commands_alike (Reset u) (Level n) = (refl, refl, λ e. absurd (tags_differ (sym e)))
commands_alike (Reset u) (Reset w) = (refl, refl, λ e. nulls_alike u w)

pub command_small : (v : Command) → (command_tag v).value < 2 ^ 32
command_small (Level n) = omega arith
command_small (Reset u) = omega arith
