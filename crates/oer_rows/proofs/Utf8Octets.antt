-- A UTF8String is read by the law, seen by its octets.
use Rattle.std.proofs.Common.{◌≡◌, Result, Ok, Err, refl, ap, ◌∙◌}
use Rattle.std.specs.Str.{is_utf8}
use Rattle.std.proofs.lemmas.Str.{is_utf8-from_IsUtf8, IsUtf8-from_is_utf8}
use Rattle.asn1_core.specs.Bounds.{size_bounds}
use Rattle.asn1_core.specs.Octets.{Octets}
use Rattle.asn1_core.specs.Texts.{Utf8}
use Rattle.asn1_core.specs.declared.constraints.Constraints.{Constraints}
use Rattle.asn1_core.specs.declared.error.DecodeError.{DecodeError}
use Rattle.asn1_core.specs.declared.error.DecodeErrorKind.{DecodeErrorKind}
use Rattle.asn1_core.specs.declared.error.DecodeErrorKind.TheVariants.{StringConversionFailed}
use Rattle.oer_leaf_read.proofs.ReadTexts.{text_reads}
use Rattle.oer_spec.specs.Mode.{mode_of}
use Rattle.oer_spec.specs.ReadingTexts.{text_at}
use Rattle.oer_spec.specs.Spelled.{IsTextOf, text, text_is, texts_alike}
use Rattle.oer_spec.specs.Tree.{Text, InOctets}
use Rattle.oer_read.specs.Answers.{Answers}
use Rattle.oer_read.specs.Law.{NoEncoding, Decodes, IsForMemory}
use Rattle.oer_read.specs.State.{State}
use Rattle.oer_read.proofs.LeafLaws.{AreSettled, reads_front, encoded}
use Rattle.oer_read.proofs.ListLaw.{not_both}
use Rattle.oer_read.proofs.TextLaws.{sized}

module _ (c : Constraints) where
  settled : AreSettled (text Utf8 c) (IsTextOf Utf8)
  settled = record { is_tree = λ o i. text_is Utf8 c o i; alike = λ o p i j. texts_alike Utf8 c o p }

  abbrev reading : State → Result (Octets × Octets) DecodeErrorKind
  reading s = text_at is_utf8 StringConversionFailed (size_bounds c) s.codec s.input

  none : (old : State) (e : DecodeError) → ((IsForMemory e → ⊥) → reading old ≡ Err e.kind) → (IsForMemory e → ⊥) → NoEncoding (text Utf8 c) (IsTextOf Utf8) old
  none old e read m o p i f =
      let spells = encoded (text Utf8 c) (IsTextOf Utf8) (λ o. Text Utf8 (size_bounds c) (InOctets o)) (sized Utf8 c).primitive (mode_of old.codec) old.levels p o f.encoding in
      let again = (text_reads is_utf8 StringConversionFailed Utf8 refl (λ o. (IsUtf8-from_is_utf8 o, is_utf8-from_IsUtf8 o)) (size_bounds c) old.codec).again p f.rest o (spells, i.obeys) in
      not_both (reading old) (o, f.rest) e.kind (ap (text_at is_utf8 StringConversionFailed (size_bounds c) old.codec) f.split ∙ again) (read m)

  module _ {A : Type 0} (show : A → Octets) where
    pub octets_read : (old : State) (v : A) (new : State) → Decodes (λ v. text Utf8 c (show v)) (λ v. IsTextOf Utf8 (show v)) old (Ok v) new → Decodes (text Utf8 c) (IsTextOf Utf8) old (Ok (show v)) new
    octets_read old v new d =
        let r = d.read in
        record { read = reads_front (text Utf8 c) (IsTextOf Utf8) settled old (show v) new r.taken new.input r.value r.split r.encoding r.rest; refused = tt }

    pub octets_refused : (old : State) (e : DecodeError) (new : State) → Answers show old (Err e) new (reading old) → Decodes (text Utf8 c) (IsTextOf Utf8) old (Err e) new
    octets_refused old e new a = record { read = tt; refused = record { same = a.2; mode = a.1; none = none old e a.0 } }
