-- What the alternatives of a command hold.
use Rattle.std.proofs.Common.{◌≡◌, ℕ, ℤ, refl, sym, ◌∙◌}
use Rattle.asn1_core.specs.declared.tag.Class.TheVariants.{Context}
use Rattle.asn1_core.specs.declared.tag.Tag.{Tag}
use Rattle.oer_spec.specs.Spelled.{IsAny, null}
use Rattle.oer_read.proofs.Alternatives.{Holds}
use Rattle.oer_rows.specs.Integers.{plain_integer, IsWhole}
use Rattle.oer_rows.specs.Schema.{context}
use Rattle.example_closures.specs.Commands.{command_tag, command_child, tags_differ}
use Rattle.example_closures.specs.declared.commands.Command.{Command}
use Rattle.example_closures.specs.declared.commands.Command.TheVariants.{Level, Reset}

-- the tag of a class and a number
pub context_is : (g : Tag) (n : ℕ) → g.class ≡ Context → g.value ≡ n → context n ≡ g
context_is g n e f = λ z. record { class = sym e z; value = sym f z }

abbrev HasTag : Tag → Command → Type 0
HasTag g v = IsAny v × (command_tag v ≡ g)

pub level_holds : (g : Tag) → context 0 ≡ g → Holds command_child (HasTag g) plain_integer IsWhole Level
level_holds g e = record { is = λ n i. (tt, e); same = λ n. refl; only = only }
  where
    only : (v : Command) → HasTag g v → (n : ℤ) × (command_child v ≡ plain_integer n) × IsWhole n
    only (Level n) i = (n, refl, refl)
    only (Reset u) i = absurd (tags_differ (e ∙ sym i.1))

pub reset_holds : (g : Tag) → context 1 ≡ g → Holds command_child (HasTag g) null IsAny Reset
reset_holds g e = record { is = λ u i. (tt, e); same = λ u. refl; only = only }
  where
    only : (v : Command) → HasTag g v → (u : Unit {0}) × (command_child v ≡ null u) × IsAny u
    only (Level n) i = absurd (tags_differ (i.1 ∙ sym e))
    only (Reset u) i = (u, refl, tt)
