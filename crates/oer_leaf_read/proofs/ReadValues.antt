-- Values that texts stand for are read exactly where a front of the octets spells them.
use Rattle.std.proofs.Common.{◌≡◌, ℕ, Bool, true, false, List, ◌++◌, Result, Ok, Err, IfOk, inl, inr, ◌⊎◌, refl, sym, ap, ◌∙◌, subst, get_or, Fits, w8, Option, Some, None}
use Rattle.asn1_core.specs.Octets.{Octets, AreOctets}
use Rattle.asn1_core.specs.Texts.{Rule, Obeys, unit_of}
use Rattle.asn1_core.specs.declared.codec.Codec.{Codec}
use Rattle.asn1_core.specs.declared.error.DecodeErrorKind.{DecodeErrorKind}
use Rattle.asn1_core.specs.declared.error.DecodeErrorKind.TheVariants.{InvalidObjectIdentifier, InvalidTime, OutOfMemory}
use Rattle.asn1_strings.specs.Identifiers.{is_identifier, arcs_octets, SpellsIdentifier}
use Rattle.asn1_strings.proofs.IdentifierSpelling.{identifiers_obey, spells_one}
use Rattle.oer_spec.specs.Leaves.{BadTime, IsLeafEncoding}
use Rattle.oer_spec.specs.Mode.{mode_of}
use Rattle.oer_spec.specs.Reading.{Gives, seen, ReadsFront}
use Rattle.oer_spec.specs.ReadingTexts.{text_at, tested, are_contents}
use Rattle.oer_spec.specs.TimeTexts.{time_at, time_content}
use Rattle.oer_spec.specs.Tree.{Text, InOctets}
use Rattle.oer_leaf_read.proofs.ReadTexts.{Tells, text_reads}
use Rattle.oer_spec.proofs.Steps.{Reads, bind_ok, pair_is, front_of}

-- a reading of texts as one of the values that they stand for
pub values_front : {V X : Type 0} (text : V → Octets) (IsValue : V → Type 0) (P : Octets → Octets → Type 0) (Q : Octets → Type 0) → ((v : V) → IsValue v → Q (text v)) → (view : X → V × Octets) (input : Octets) (r : Result X DecodeErrorKind) → IfOk r (λ x. IsValue (view x).0)
    → ReadsFront (λ o c. P o c × Q c) input (seen (λ x. (text (view x).0, (view x).1)) r) → ReadsFront (λ o v. P o (text v) × IsValue v) input (seen view r)
values_front text IsValue P Q obeys view input (Ok x) is (o, split, (p, q)) = (o, split, (p, is))
values_front text IsValue P Q obeys view input (Err e) is none = λ m o rest v split (p, i). none m o rest (text v) split (p, obeys v i)

-- ---- object identifiers
pub identifier_obeys : (arcs : List ℕ) → is_identifier arcs ≡ true → are_contents (arcs_octets arcs) ≡ true
identifier_obeys arcs i = (identifiers_obey arcs i).1

pub identifier_ok : (o : Octets) (arcs : List ℕ) → SpellsIdentifier o arcs → tested are_contents InvalidObjectIdentifier o ≡ Ok (arcs_octets arcs)
identifier_ok o arcs s = ap (tested are_contents InvalidObjectIdentifier) s.octets_are ∙ rw (identifier_obeys arcs s.identifier) refl

identifier_none : (o : Octets) → AreOctets o → ((arcs : List ℕ) → SpellsIdentifier o arcs → ⊥) → tested are_contents InvalidObjectIdentifier o ≡ Err InvalidObjectIdentifier
identifier_none o f none = go (are_contents o) refl
  where
    go : (b : Bool) → are_contents o ≡ b → tested are_contents InvalidObjectIdentifier o ≡ Err InvalidObjectIdentifier
    go true e = let one = spells_one o f e in absurd (none one.0 one.1)
    go false e = rw e refl

pub identifier_err : (o : Octets) (k : DecodeErrorKind) → AreOctets o → (k ≡ OutOfMemory) ⊎ ((k ≡ InvalidObjectIdentifier) × ((arcs : List ℕ) → SpellsIdentifier o arcs → ⊥)) → (k ≡ OutOfMemory) ⊎ (tested are_contents InvalidObjectIdentifier o ≡ Err k)
identifier_err o k f (inl memory) = inl memory
identifier_err o k f (inr (is, none)) = inr (identifier_none o f none ∙ ap (λ z. Err z) (sym is))

-- ---- times and days
module _ (is_text : Octets → Bool) (r : Rule) (one : unit_of r ≡ 1) (tells : Tells is_text r) (codec : Codec) where
  -- octets of a text
  SpellsText : Octets → Option Octets → Type 0
  SpellsText o k = (c : Octets) × (k ≡ Some c) × (IsLeafEncoding (mode_of codec) o (Text r None (InOctets c)) × Obeys r c)

  time_reads : Reads (time_at is_text codec) SpellsText
  unfolding time_at SpellsText
  time_reads = record {
    found = λ input rest k fits e.
        let a = bind_ok (text_at is_text InvalidTime None codec input) (λ text. Ok (Some text.0, text.1)) (k, rest) e in
        let same = pair_is (Some a.0.0) k a.0.1 rest a.2 in
        let f = (text_reads is_text InvalidTime r one tells None codec).found input a.0.1 a.0.0 fits a.1 in
        (f.0, f.1 ∙ ap (λ z. f.0 ++ z) same.1, (a.0.0, sym same.0, f.2));
    again = λ o rest k (c, is, spells). rw ((text_reads is_text InvalidTime r one tells None codec).again o rest c spells) (ap (λ z. Ok (z, rest)) (sym is));
  }

  module _ {V : Type 0} (text : V → Option Octets) (obeys : (t : V) (o : Octets) → text t ≡ Some o → is_text o ≡ true) (fields : V → List ℕ) where
    written : (o : Octets) (t : V) → SpellsText o (text t) → IsLeafEncoding (mode_of codec) o (Text r None (time_content (text t) (fields t)))
    unfolding SpellsText
    written o t (c, is, (spells, ob)) = subst (λ z. IsLeafEncoding (mode_of codec) o (Text r None (time_content z (fields t)))) (sym is) spells

    spelled : (o : Octets) (t : V) → IsLeafEncoding (mode_of codec) o (Text r None (time_content (text t) (fields t))) → SpellsText o (text t)
    unfolding SpellsText
    spelled o t s = go (text t) refl s
      where
        go : (k : Option Octets) → text t ≡ k → IsLeafEncoding (mode_of codec) o (Text r None (time_content k (fields t))) → SpellsText o k
        go (Some c) e s = (c, refl, (s, (tells c).0 (obeys t c e)))
        go None e s = absurd (cc (s.0 BadTime))

    pub times_front : {X : Type 0} (view : X → V × Octets) (input : Octets) (res : Result X DecodeErrorKind) → ((k : ℕ) → Fits w8 (get_or input k 0)) → Gives (λ x. (text (view x).0, (view x).1)) res (time_at is_text codec input)
        → ReadsFront (λ o t. IsLeafEncoding (mode_of codec) o (Text r None (time_content (text t) (fields t)))) input (seen view res)
    times_front view input (Ok x) f e =
        let s = front_of time_reads (λ x. (text (view x).0, (view x).1)) input (Ok x) f e in
        (s.0, s.1, written s.0 (view x).0 s.2)
    times_front view input (Err d) f e =
        let s = front_of time_reads (λ x. (text (view x).0, (view x).1)) input (Err d) f e in
        λ m o rest t split spells. s m o rest (text t) split (spelled o t spells)
