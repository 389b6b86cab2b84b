-- What a reading leaves is the rear of what it read.
use Rattle.std.proofs.Common.{◌≡◌, ℕ, ◌≤◌, [], ◌++◌, length, drop, List, Option, Some, None, Result, Ok, refl, sym, ap, subst, ◌∙◌, arith, append_assoc, length-append}
use Rattle.std.proofs.lemmas.List.{take-append-drop}
use Rattle.asn1_core.specs.Octets.{Octets, AreOctets}
use Rattle.asn1_core.specs.declared.codec.Codec.TheVariants.{Oer}
use Rattle.asn1_core.specs.declared.error.DecodeErrorKind.{DecodeErrorKind}
use Rattle.asn1_core.specs.declared.tag.Tag.{Tag}
use Rattle.oer_leaf_read.specs.ReadingEnumerated.{enumerated_at}
use Rattle.oer_leaf_read.proofs.ReadEnumerated.{enumerated_reads}
use Rattle.oer_leaf_read.proofs.ReadLengths.{length_reads}
use Rattle.oer_leaf_read.proofs.ReadTags.{tag_reads}
use Rattle.oer_spec.specs.Reading.{◌>>=◌, octets_at, length_at, tag_at}
use Rattle.oer_spec.proofs.Steps.{Reads, bind_ok, octets_ok, rear_octets}
use Rattle.oer_walk.specs.Tables.{alternative_of}
use Rattle.oer_walk.specs.Walks.{behind_length_at, leaf_at, tagged_at, found}
use Rattle.oer_walk.specs.declared.table.Form.{Form}
use Rattle.oer_walk.specs.declared.table.Form.TheVariants.{Fixed, Counted, Enumerated, List as ListForm, Sequence, Choice, Nothing}
use Rattle.oer_walk.specs.declared.table.Parts.{Parts}

abbrev pub IsRear : Octets → Octets → Type 0
IsRear input rest = (o : Octets) × (input ≡ o ++ rest)

pub rear_length : (input rest : Octets) → IsRear input rest → length rest ≤ length input
rear_length input rest h = omega (arith, ap length h.1, length-append h.0 rest)

pub rear_are : (input rest : Octets) → AreOctets input → IsRear input rest → AreOctets rest
rear_are input rest a h = rear_octets h.0 rest (subst AreOctets h.1 a)

pub rear_of_rear : (input mid rest : Octets) → IsRear input mid → IsRear mid rest → IsRear input rest
rear_of_rear input mid rest h k = (h.0 ++ k.0, h.1 ∙ ap (λ (z : Octets). h.0 ++ z) k.1 ∙ sym (append_assoc h.0 k.0 rest))

pub rear_same : (input : Octets) → IsRear input input
rear_same input = ([], refl)

pub rear_read : {V : Type 0} {read : Octets → Result (V × Octets) DecodeErrorKind} {Spells : Octets → V → Type 0} → Reads read Spells → (input : Octets) (x : V × Octets) → AreOctets input → read input ≡ Ok x → IsRear input x.1
rear_read reads input x a e = let f = reads.found input x.1 x.0 a e in (f.0, f.1)

pub octets_split : (k : ℕ) (input : Octets) (x : Octets × Octets) → octets_at k input ≡ Ok x → input ≡ x.0 ++ x.1
octets_split k input x e =
    let p = octets_ok k input x e in
    sym (take-append-drop k input) ∙ ap (λ (z : Octets). z ++ drop k input) (sym p.1) ∙ ap (λ (z : Octets). x.0 ++ z) (sym p.2)

-- the octets behind a length
pub behind_split : (input : Octets) (x : Octets × Octets × Octets) → AreOctets input → behind_length_at input ≡ Ok x → IsRear input x.1 × (x.1 ≡ x.0 ++ x.2)
unfolding behind_length_at
behind_split input x a e =
    let c = bind_ok (length_at Oer input) (λ (k : ℕ × Octets). octets_at k.0 k.1 >>= λ (y : Octets × Octets). Ok (y.0, k.1, y.1)) x e in
    let y = bind_ok (octets_at c.0.0 c.0.1) (λ (y : Octets × Octets). Ok (y.0, c.0.1, y.1)) x c.2 in
    let r = rear_read (length_reads Oer) input c.0 a c.1 in
    let s : c.0.1 ≡ y.0.0 ++ y.0.1 = octets_split c.0.0 c.0.1 y.0 y.1 in
    let same : (y.0.0, c.0.1, y.0.1) ≡ x = cc (y.2) in
    (subst (λ (z : Octets × Octets × Octets). IsRear input z.1) same r, subst (λ (z : Octets × Octets × Octets). z.1 ≡ z.0 ++ z.2) same s)

pub leaf_rears : (form : Form) (input : Octets) (z : Octets × Octets) → AreOctets input → leaf_at form input ≡ Ok z → IsRear input z.0 × IsRear z.0 z.1
unfolding leaf_at
leaf_rears (Fixed k) input z a e =
    let x = bind_ok (octets_at k input) (λ (x : Octets × Octets). Ok (input, x.1)) z e in
    let same : (input, x.0.1) ≡ z = cc (x.2) in
    let r : IsRear input x.0.1 = (x.0.0, octets_split k input x.0 x.1) in
    subst (λ (y : Octets × Octets). IsRear input y.0 × IsRear y.0 y.1) same (rear_same input, r)
leaf_rears Counted input z a e =
    let x = bind_ok (behind_length_at input) (λ (x : Octets × Octets × Octets). Ok (x.1, x.2)) z e in
    let same : (x.0.1, x.0.2) ≡ z = cc (x.2) in
    let s = behind_split input x.0 a x.1 in
    let r : IsRear x.0.1 x.0.2 = (x.0.0, s.1) in
    subst (λ (y : Octets × Octets). IsRear input y.0 × IsRear y.0 y.1) same (s.0, r)
leaf_rears Enumerated input z a e =
    let x = bind_ok (enumerated_at Oer input) (λ x. Ok (input, x.1)) z e in
    let same : (input, x.0.1) ≡ z = cc (x.2) in
    subst (λ (y : Octets × Octets). IsRear input y.0 × IsRear y.0 y.1) same (rear_same input, rear_read (enumerated_reads Oer) input x.0 a x.1)
leaf_rears (ListForm n) input z a e = absurd cc
leaf_rears (Sequence ps) input z a e = absurd cc
leaf_rears (Choice ps) input z a e = absurd cc
leaf_rears Nothing input z a e = absurd cc

tag_left : (ps : Parts) (t : Tag) (rest : Octets) (o : Option ℕ) (x : ℕ × Octets) → found ps t rest o ≡ Ok x → rest ≡ x.1
tag_left ps t rest (Some i) x e = let same : (i, rest) ≡ x = cc e in ap (λ (z : ℕ × Octets). z.1) same
tag_left ps t rest None x e = absurd cc

pub tagged_rear : (ws : List ℕ) (ps : Parts) (input : Octets) (x : ℕ × Octets) → AreOctets input → tagged_at ws ps input ≡ Ok x → IsRear input x.1
unfolding tagged_at
tagged_rear ws ps input x a e =
    let t = bind_ok (tag_at Oer input) (λ (t : Tag × Octets). found ps t.0 t.1 (alternative_of ws ps t.0)) x e in
    subst (λ (z : Octets). IsRear input z) (tag_left ps t.0.0 t.0.1 (alternative_of ws ps t.0.0) x t.2) (rear_read (tag_reads Oer) input t.0 a t.1)
