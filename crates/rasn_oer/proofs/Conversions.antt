-- From what reading and writing promise to the calls that do both.
use Rattle.std.proofs.Common.{◌≡◌, ℕ, ◌≤◌, [], ◌++◌, Result, Ok, Err, refl, sym, ap, subst, ◌∙◌, append-nil}
use Rattle.std.specs.Borrow.{Bor}
use Rattle.asn1_core.specs.declared.error.DecodeError.{DecodeError}
use Rattle.oer_read.specs.State.{State}
use Rattle.asn1_core.specs.Octets.{Octets}
use Rattle.asn1_core.specs.declared.codec.Codec.{Codec}
use Rattle.asn1_core.specs.declared.codec.Codec.TheVariants.{Oer, Coer}
use Rattle.oer_spec.proofs.Canonical.{same_octets}
use Rattle.oer_spec.proofs.Lifts.{lift}
use Rattle.oer_spec.proofs.Readable.{form_levels}
use Rattle.oer_spec.proofs.Within.{canonical_within_lenient}
use Rattle.oer_spec.specs.Encoding.{IsTree, IsEncodable, IsEncoding, canonical_octets, levels}
use Rattle.oer_spec.specs.Mode.{Lenient, mode_of}
use Rattle.oer_spec.specs.Same.{Same}
use Rattle.oer_spec.specs.Tree.{Tree}
use Rattle.oer_spec.specs.Versions.{Drops, Lacks}
use Rattle.rasn_oer.specs.Conversions.{Canonicalised, ReadAsOlder, NoneIsOlder, ReadAsNewer, NoneIsNewer}
use Rattle.rasn_oer.specs.Headline.{is_settled, Begins, Decoded, HasNone, Encoded, Says, SaysAlone}
use Rattle.rasn_oer.proofs.Entries.{written_in}

module _ {A : Type 0} (tree : A → Tree) (IsValue : A → Type 0) (is_tree : (v : A) → IsValue v → IsTree (tree v)) where
  -- what is read has no more levels than were allowed
  shallow : (d : ℕ) (input : Octets) (v : A) (rest : Octets) → Decoded tree IsValue Oer d input v rest → levels (tree v) ≤ d
  shallow d input v rest k = form_levels (tree v) Lenient d k.taken k.begins.spells

  pub canonicalised : (d : ℕ) (input octets rest : Octets) (v : A) → Decoded tree IsValue Oer d input v rest → Encoded tree IsValue v octets → Canonicalised tree IsValue d input octets rest
  canonicalised d input octets rest v k w = record {
    value = v;
    read = k;
    written = w;
    canonical = λ r. record { value = w.value; split = refl; spells = subst (λ o. IsEncoding (mode_of Coer) d o (tree v)) (sym w.octets_are) (written_in Coer (tree v) d (is_tree v w.value) w.encodable (shallow d input v rest k)) };
    again = λ x r o s j y.
        let u = j.round_trip v r w.value w.encodable (shallow d input v rest k) (ap (λ l. l ++ r) w.octets_are) in
        (y.octets_are ∙ same_octets (tree x) (tree v) u.2 ∙ sym w.octets_are, u.1);
    accepted = λ x o r b.
        let u = k.only x o r (record { value = b.value; split = b.split; spells = canonical_within_lenient (tree x) d o b.spells }) in
        (u.1, u.2);
  }

-- what an older version wrote is read as a newer one in both modes
lifted_in : (m : Codec) (t n : Tree) (d : ℕ) → IsTree t → IsTree n → Lacks t n → IsEncodable t → IsEncodable n → levels t ≤ d → IsEncoding (mode_of m) d (canonical_octets t) n
lifted_in Coer t n d i j k f g l = lift t n d i j k f g l
lifted_in Oer t n d i j k f g l = canonical_within_lenient n d (canonical_octets t) (lift t n d i j k f g l)

-- what the type says of reading octets, where these are the canonical ones of a tree
module _ {A : Type 0} (tree : A → Tree) (IsValue : A → Type 0) (Answered : State → Result A DecodeError → State → Type 0) (m : Codec) (d : ℕ) (octets : Octets) (t : Tree) (same : octets ≡ canonical_octets t) where
  pub says_converted : (v : A) (rest : Bor Octets) → Decoded tree IsValue m d octets v rest.now → Says tree IsValue Answered m d octets (Ok (v, rest)) → SaysAlone tree IsValue Answered m d (canonical_octets t) (Ok v)
  says_converted v rest k a = subst (λ (o : Octets). SaysAlone tree IsValue Answered m d o (Ok v)) same (rest.now, k, a)

  pub says_not_converted : (e : DecodeError) → Says tree IsValue Answered m d octets (Err e) → SaysAlone tree IsValue Answered m d (canonical_octets t) (Err e)
  says_not_converted e a = subst (λ (o : Octets). SaysAlone tree IsValue Answered m d o (Err e)) same a

module _ {A B : Type 0} (newer : A → Tree) (IsNewer : A → Type 0) (is_newer : (v : A) → IsNewer v → IsTree (newer v)) (older : B → Tree) (IsOlder : B → Type 0) (m : Codec) (d : ℕ) (n : A) where
  pub read_as_older : (octets rest : Octets) (v : B) → Encoded newer IsNewer n octets → Decoded older IsOlder m d octets v rest → ReadAsOlder newer IsNewer older IsOlder m d n v
  read_as_older octets rest v w k' =
      let k : Decoded older IsOlder m d (canonical_octets (newer n)) v rest = subst (λ o. Decoded older IsOlder m d o v rest) w.octets_are k' in
      record {
        value = w.value;
        encodable = w.encodable;
        rest = rest;
        read = k;
        same = λ t i f l.
            (k.newer_sender (newer n) t (canonical_octets (newer n)) [] (is_newer n w.value) i f (sym (append-nil (canonical_octets (newer n)))) (written_in m (newer n) d (is_newer n w.value) w.encodable l)).2;
      }

  pub none_is_older : (octets : Octets) → Encoded newer IsNewer n octets → HasNone older IsOlder m d octets → NoneIsOlder newer IsNewer older IsOlder m d n
  none_is_older octets w k' =
      let k : HasNone older IsOlder m d (canonical_octets (newer n)) = subst (λ o. HasNone older IsOlder m d o) w.octets_are k' in
      record {
        value = w.value;
        encodable = w.encodable;
        none = k;
        dropped = λ t i f l.
            k.newer_sender (newer n) t (canonical_octets (newer n)) [] (is_newer n w.value) i f (sym (append-nil (canonical_octets (newer n)))) (written_in m (newer n) d (is_newer n w.value) w.encodable l);
      }

module _ {A B : Type 0} (older : A → Tree) (IsOlder : A → Type 0) (is_older : (v : A) → IsOlder v → IsTree (older v)) (newer : B → Tree) (IsNewer : B → Type 0) (is_newer : (v : B) → IsNewer v → IsTree (newer v)) (m : Codec) (d : ℕ) (t : A) where
  -- the older one's octets begin with an encoding of such a newer value
  lifted : (n : B) → IsOlder t → IsNewer n → IsEncodable (older t) → IsEncodable (newer n) → Lacks (older t) (newer n) → levels (older t) ≤ d → Begins newer IsNewer m d (canonical_octets (older t)) n (canonical_octets (older t)) []
  lifted n i j f g k l = record {
    value = j;
    split = sym (append-nil (canonical_octets (older t)));
    spells = lifted_in m (older t) (newer n) d (is_older t i) (is_newer n j) k f g l;
  }

  pub read_as_newer : (octets rest : Octets) (v : B) → Encoded older IsOlder t octets → Decoded newer IsNewer m d octets v rest → ReadAsNewer older IsOlder newer IsNewer m d t v
  read_as_newer octets rest v w k' =
      let k : Decoded newer IsNewer m d (canonical_octets (older t)) v rest = subst (λ o. Decoded newer IsNewer m d o v rest) w.octets_are k' in
      record {
        value = w.value;
        encodable = w.encodable;
        rest = rest;
        read = k;
        same = λ n j g h l. (k.only n (canonical_octets (older t)) [] (lifted n w.value j w.encodable g h l)).2;
      }

  pub none_is_newer : (octets : Octets) → Encoded older IsOlder t octets → HasNone newer IsNewer m d octets → NoneIsNewer older IsOlder newer IsNewer m d t
  none_is_newer octets w k' =
      let k : HasNone newer IsNewer m d (canonical_octets (older t)) = subst (λ o. HasNone newer IsNewer m d o) w.octets_are k' in
      record {
        value = w.value;
        encodable = w.encodable;
        none = k;
        lacking = λ n j g h l. k.none n (canonical_octets (older t)) [] (lifted n w.value j w.encodable g h l);
      }
