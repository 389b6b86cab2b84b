-- No canonical encoding is a proper front of another's.
use Rattle.std.proofs.Common.{◌≡◌, ℕ, List, [], ◌++◌, refl, sym, ap, ◌∙◌, arith, append-nil}
use Rattle.asn1_core.specs.Octets.{Octets}
use Rattle.oer_spec.specs.Encoding.{IsTree, IsEncodable, canonical_octets, levels}
use Rattle.oer_spec.specs.Mode.{OwnSized}
use Rattle.oer_spec.specs.Same.{Alike}
use Rattle.oer_spec.specs.Tree.{Tree}
use Rattle.oer_spec.proofs.Unambiguous.{unique}
use Rattle.oer_spec.proofs.Unique.{cancel}
use Rattle.oer_spec.proofs.WrittenTrees.{spelt}

pub no_front : (t u : Tree) → IsTree t → IsTree u → IsEncodable t → IsEncodable u → Alike t u → (more : Octets) → canonical_octets u ≡ canonical_octets t ++ more → more ≡ []
no_front t u i j f g a more e =
    let whole : canonical_octets t ++ more ≡ canonical_octets u ++ [] = sym e ∙ sym (append-nil (canonical_octets u)) in
    let one : canonical_octets t ≡ canonical_octets u = (unique t u OwnSized (levels t) (levels u) (canonical_octets t) (canonical_octets u) more [] i j a (spelt t (levels t) i f (omega arith)).0 (spelt u (levels u) j g (omega arith)).0 whole).0 in
    cancel (canonical_octets t) (canonical_octets u) more [] one whole
