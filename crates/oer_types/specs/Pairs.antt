-- A sequence of two required components.
use Rattle.std.specs.Prelude.{false, refl}
use Rattle.asn1_core.specs.declared.constraints.TheConstants.Constraints.{NONE}
use Rattle.oer_spec.specs.Encoding.{IsTree}
use Rattle.oer_spec.specs.Same.{Alike}
use Rattle.oer_spec.specs.Spelled.{IsAny, integer, integer_is, integers_alike}
use Rattle.oer_spec.specs.Tree.{Tree, Rows, NoRows, Required, Struct}
use Rattle.oer_read.specs.Parts.{Parts, NoParts, RequiredPart, Admits, AreOf}
use Rattle.oer_rows.specs.Integers.{IsWhole, plain_integer}
use Rattle.oer_rows.specs.Schema.{context}
use Rattle.oer_types.specs.declared.pairs.Pair.{Pair}

abbrev pub pair_rows : Pair → Rows
pair_rows p = Required (context 0) (integer NONE p.a) (Required (context 1) (integer NONE p.b) NoRows)

unfoldable pub pair_tree : Pair → Tree
pair_tree p = Struct false false (pair_rows p) NoRows

pub pair_is : (p : Pair) → IsTree (pair_tree p)
unfolding pair_tree Rattle.oer_spec.specs.Encoding.IsTree
pair_is p = ((integer_is NONE p.a, (integer_is NONE p.b, tt)), tt, (λ e. refl), (λ e. absurd (cc e)))

pub pairs_alike : (p q : Pair) → Alike (pair_tree p) (pair_tree q)
unfolding pair_tree Rattle.oer_spec.specs.Same.Alike
pairs_alike p q = (refl, refl, (refl, integers_alike NONE p.a q.a, (refl, integers_alike NONE p.b q.b, tt)), tt)

abbrev pub pair_parts : Parts
pair_parts = RequiredPart (context 0) (Admits plain_integer IsWhole) (RequiredPart (context 1) (Admits plain_integer IsWhole) NoParts)

pub pair_made : (p : Pair) → IsAny p → AreOf pair_parts (pair_rows p) × AreOf NoParts NoRows
pair_made p i = ((refl, (record { value = p.a; is_value = refl; is = refl }), (refl, (record { value = p.b; is_value = refl; is = refl }), tt)), tt)
