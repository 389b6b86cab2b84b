-- What the law of reading gives to the entry calls, by the laws of the definitions.
use Rattle.std.proofs.Common.{◌≡◌, ℕ, ◌≤◌, ◌++◌, Result, Ok, Err, ap, sym, ◌∙◌, subst}
use Rattle.std.specs.Borrow.{Bor}
use Rattle.asn1_core.specs.Octets.{Octets}
use Rattle.asn1_core.specs.declared.codec.Codec.{Codec}
use Rattle.asn1_core.specs.declared.codec.Codec.TheVariants.{Oer, Coer}
use Rattle.oer_spec.specs.Encoding.{IsTree, IsEncodable, IsEncoding, canonical_octets, levels}
use Rattle.oer_spec.specs.Mode.{mode_of}
use Rattle.oer_spec.specs.Same.{Same, Alike}
use Rattle.oer_spec.specs.Tree.{Tree}
use Rattle.oer_spec.specs.Versions.{Drops}
use Rattle.oer_spec.proofs.Canonical.{own_is_canonical, same_octets}
use Rattle.oer_spec.proofs.Skips.{skips_lenient, skips_canonical}
use Rattle.oer_spec.proofs.Unambiguous.{unique}
use Rattle.oer_spec.proofs.Unique.{cancel}
use Rattle.oer_spec.proofs.Within.{own_sized_within_canonical, canonical_within_lenient}
use Rattle.oer_spec.proofs.WrittenTrees.{spelt}
use Rattle.asn1_core.specs.declared.error.DecodeError.{DecodeError}
use Rattle.rasn_oer.specs.Headline.{is_settled, started, Begins, Decoded, HasNone, NotRead, Says}
use Rattle.oer_read.specs.Law.{Reads, RefusedBy}
use Rattle.oer_read.specs.State.{State}

-- what is written is read in both modes
pub written_in : (m : Codec) (t : Tree) (d : ℕ) → IsTree t → IsEncodable t → levels t ≤ d → IsEncoding (mode_of m) d (canonical_octets t) t
written_in Coer t d i f l = own_sized_within_canonical t d (canonical_octets t) (spelt t d i f l).0
written_in Oer t d i f l = canonical_within_lenient t d (canonical_octets t) (own_sized_within_canonical t d (canonical_octets t) (spelt t d i f l).0)

older_in : (m : Codec) (n t : Tree) (d : ℕ) (o : Octets) → IsTree n → IsTree t → Drops (is_settled m) n t → IsEncoding (mode_of m) d o n → IsEncoding (mode_of m) d o t
older_in Coer n t d o i j f g = skips_canonical n t d o i j f g
older_in Oer n t d o i j f g = skips_lenient n t d o i j f g

module _ {A : Type 0} (tree : A → Tree) (IsValue : A → Type 0) (is_tree : (v : A) → IsValue v → IsTree (tree v)) (alike : (v w : A) → IsValue v → IsValue w → Alike (tree v) (tree w)) where
  only_one : (m : Codec) (d : ℕ) (input : Octets) (v w : A) (o p r s : Octets) → Begins tree IsValue m d input v o r → Begins tree IsValue m d input w p s → (p ≡ o) × (s ≡ r) × Same (tree v) (tree w)
  only_one m d input v w o p r s b c =
      let e : o ++ r ≡ p ++ s = sym b.split ∙ c.split in
      let u = unique (tree v) (tree w) (mode_of m) d d o p r s (is_tree v b.value) (is_tree w c.value) (alike v w b.value c.value) b.spells c.spells e in
      (sym u.0, sym (cancel o p r s u.0 e), u.1)

  newer_begins : (m : Codec) (d : ℕ) (input : Octets) (n : Tree) (w : A) (o r : Octets) → IsTree n → IsValue w → Drops (is_settled m) n (tree w) → input ≡ o ++ r → IsEncoding (mode_of m) d o n → Begins tree IsValue m d input w o r
  newer_begins m d input n w o r i v f e g = record { value = v; split = e; spells = older_in m n (tree w) d o i (is_tree w v) f g }

  written_begins : (m : Codec) (d : ℕ) (input : Octets) (w : A) (r : Octets) → IsValue w → IsEncodable (tree w) → levels (tree w) ≤ d → input ≡ canonical_octets (tree w) ++ r → Begins tree IsValue m d input w (canonical_octets (tree w)) r
  written_begins m d input w r v f l e = record { value = v; split = e; spells = written_in m (tree w) d (is_tree w v) f l }

  pub decoded : (m : Codec) (d : ℕ) (input : Octets) (v : A) (taken rest : Octets) → Begins tree IsValue m d input v taken rest → Decoded tree IsValue m d input v rest
  decoded m d input v taken rest b = record {
    taken = taken;
    begins = b;
    only = λ w o r c. only_one m d input v w taken o rest r b c;
    own_sized = λ f. own_is_canonical (tree v) d taken f;
    own_sized_once = λ w e o j s f g. own_is_canonical (tree w) e o g ∙ sym (same_octets (tree v) (tree w) s) ∙ sym (own_is_canonical (tree v) d taken f);
    newer_sender = λ n w o r i j f e g. only_one m d input v w taken o rest r b (newer_begins m d input n w o r i j f e g);
    round_trip = λ w r j f l e. let u = only_one m d input v w taken (canonical_octets (tree w)) rest r b (written_begins m d input w r j f l e) in (sym u.0, sym u.1, u.2);
  }

  pub has_none : (m : Codec) (d : ℕ) (input : Octets) → ((w : A) (o r : Octets) → IsValue w → input ≡ o ++ r → IsEncoding (mode_of m) d o (tree w) → ⊥) → HasNone tree IsValue m d input
  has_none m d input none = record {
    none = λ w o r c. none w o r c.value c.split c.spells;
    newer_sender = λ n w o r i j f e g. let b = newer_begins m d input n w o r i j f e g in none w o r j e b.spells;
    written = λ w r j f l e. let b = written_begins m d input w r j f l e in none w (canonical_octets (tree w)) r j e b.spells;
  }

  pub read_value : (m : Codec) (d : ℕ) (input rest : Octets) (old new : State) (v : A) → old ≡ started m d input → rest ≡ new.input → Reads tree IsValue old v new → Decoded tree IsValue m d input v rest
  read_value m d input rest old new v e f r =
      subst (λ z. Decoded tree IsValue m d input v z) (sym f) (go old e r)
    where
      go : (s : State) → s ≡ started m d input → Reads tree IsValue s v new → Decoded tree IsValue m d input v new.input
      go s e r = subst (λ z. Reads tree IsValue z v new → Decoded tree IsValue m d input v new.input) (sym e) (λ q. decoded m d input v q.taken new.input (record { value = q.value; split = q.split; spells = q.encoding })) r

  pub refused_value : (m : Codec) (d : ℕ) (input : Octets) (old new : State) (x : DecodeError) → old ≡ started m d input → RefusedBy tree IsValue x old new → NotRead tree IsValue m d input x
  refused_value m d input old new x e r =
      subst (λ z. RefusedBy tree IsValue x z new → NotRead tree IsValue m d input x) (sym e)
      (λ q. record { mode = q.mode; none = λ k. has_none m d input (λ w o rest i s f. q.none k w o i (record { rest = rest; split = s; encoding = f })) }) r

  -- what the type says of its answers holds of the call's
  pub says_read : (Answered : State → Result A DecodeError → State → Type 0) (m : Codec) (d : ℕ) (input : Octets) (old new : State) (v : A) (rest : Bor Octets) → old ≡ started m d input → rest.now ≡ new.input → Reads tree IsValue old v new → Answered old (Ok v) new → Says tree IsValue Answered m d input (Ok (v, rest))
  says_read Answered m d input old new v rest e f r a =
      let left : new ≡ started m d rest.now = r.rest ∙ ap (λ (z : State). record z { input = new.input }) e ∙ ap (λ (z : Octets). started m d z) (sym f) in
      subst (λ (z : State). Answered (started m d input) (Ok v) z) left (subst (λ (z : State). Answered z (Ok v) new) e a)

  pub says_refused : (Answered : State → Result A DecodeError → State → Type 0) (m : Codec) (d : ℕ) (input : Octets) (old new : State) (x : DecodeError) → old ≡ started m d input → RefusedBy tree IsValue x old new → Answered old (Err x) new → Says tree IsValue Answered m d input (Err x)
  says_refused Answered m d input old new x e r a =
      subst (λ (z : State). Answered (started m d input) (Err x) z) (r.same ∙ e) (subst (λ (z : State). Answered z (Err x) new) e a)
