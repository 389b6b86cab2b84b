-- From what reading and writing promise to the calls over a caller's octets.
use Rattle.std.proofs.Common.{◌≡◌, ℕ, ◌+◌, ◌-◌, ◌≤◌, length, take, ap, sym, subst, ◌∙◌, refl, arith, length-append, Result, Ok, Err}
use Rattle.std.proofs.Math.Seq.{take-append_seam}
use Rattle.asn1_core.specs.Octets.{Octets}
use Rattle.asn1_core.specs.declared.codec.Codec.{Codec}
use Rattle.asn1_core.specs.declared.error.DecodeError.{DecodeError}
use Rattle.oer_read.specs.State.{State}
use Rattle.oer_spec.specs.Encoding.{IsTree, canonical_octets}
use Rattle.oer_spec.specs.Tree.{Tree}
use Rattle.rasn_oer.proofs.Conversions.{read_as_older, none_is_older, read_as_newer, none_is_newer}
use Rattle.rasn_oer.specs.Headline.{started, Decoded, Encoded, SaysAlone}
use Rattle.rasn_oer.specs.declared.codec_error.CodecError.{CodecError}
use Rattle.rasn_oer.specs.declared.codec_error.CodecError.TheVariants.{Decode, Encode}
use Rattle.oer_calls.specs.Calls.{CanonicalOf, ConvertedTo, IsCanonicalised, IsChecked, IsCompared, IsConverted, IsPlaced, IsRefused, IsVerdict}
use Rattle.oer_calls.specs.declared.calls.Checked.{Checked}
use Rattle.oer_calls.specs.declared.calls.Outcome.{Outcome}
use Rattle.oer_calls.specs.declared.calls.Outcome.TheVariants.{Done, NoRoom, Refused, NotConverted}

module _ {A : Type 0} (tree : A → Tree) (IsValue : A → Type 0) (Answered : State → Result A DecodeError → State → Type 0) (m : Codec) (d : ℕ) (input octets : Octets) where
  pub canonical_of : (rest : Octets) (v : A) → Decoded tree IsValue m d input v rest → Answered (started m d input) (Ok v) (started m d rest) → Encoded tree IsValue v octets → CanonicalOf tree IsValue Answered m d input octets (length input - length rest)
  canonical_of rest v k a f = record { value = v; rest = rest; read = k; said = a; written = f; counted = counted }
    where
      counted : length input ≡ (length input - length rest) + length rest
      counted =
          let e : length input ≡ length k.taken + length rest = ap length k.begins.split ∙ length-append k.taken rest in
          omega arith

  pub fits : (c : ℕ) → CanonicalOf tree IsValue Answered m d input octets c → c ≤ length input
  fits c r = let e = r.counted in omega arith

  pub canonicalised : (old : Octets) (c : ℕ) (outcome : Outcome) (new : Octets) → CanonicalOf tree IsValue Answered m d input octets c → IsPlaced octets c old outcome new → IsCanonicalised tree IsValue Answered m d input old outcome new
  canonicalised old c (Done k w) new r p = (octets, subst (λ x. CanonicalOf tree IsValue Answered m d input octets x) (sym p.0) r, (refl, p.1, p.2))
  canonicalised old c (NoRoom k n) new r p = (octets, subst (λ x. CanonicalOf tree IsValue Answered m d input octets x) (sym p.0) r, (refl, p.1, p.2, p.3))
  canonicalised old c (Refused e) new r p = absurd p
  canonicalised old c (NotConverted e) new r p = absurd p

  -- the octets that were taken
  taken_of : (c : ℕ) (r : CanonicalOf tree IsValue Answered m d input octets c) → take c input ≡ r.read.taken
  taken_of c r =
      let e : length input ≡ length r.read.taken + length r.rest = ap length r.read.begins.split ∙ length-append r.read.taken r.rest in
      let f = r.counted in
      let g : c ≡ length r.read.taken = omega arith in
      subst (λ (x : ℕ). take x input ≡ r.read.taken) (sym g) (subst (λ (x : Octets). take (length r.read.taken) x ≡ r.read.taken) (sym r.read.begins.split) (take-append_seam r.read.taken r.rest))

  pub checked : (k : Checked) (c : ℕ) → CanonicalOf tree IsValue Answered m d input octets c → IsCompared octets c input k → IsChecked tree IsValue Answered m d input (Ok k)
  checked k c r p =
      let s : CanonicalOf tree IsValue Answered m d input octets k.consumed = subst (λ x. CanonicalOf tree IsValue Answered m d input octets x) (sym p.0) r in
      let q : IsVerdict k.is_canonical (take k.consumed input) octets = subst (λ (x : ℕ). IsVerdict k.is_canonical (take x input) octets) (sym p.0) p.2 in
      (octets, s, p.1, subst (λ (x : Octets). IsVerdict k.is_canonical x octets) (taken_of k.consumed s) q)

module _ {A B : Type 0} (sent : A → Tree) (IsSent : A → Type 0) (SentAnswered : State → Result A DecodeError → State → Type 0) (is_sent : (v : A) → IsSent v → IsTree (sent v)) (wanted : B → Tree) (IsWanted : B → Type 0) (WantedAnswered : State → Result B DecodeError → State → Type 0) (is_wanted : (v : B) → IsWanted v → IsTree (wanted v)) (m : Codec) (d : ℕ) (input between : Octets) (c : ℕ) (r : CanonicalOf sent IsSent SentAnswered m d input between c) where
  -- what the type says of reading the octets that were written between
  said_of : (v : B) (rest : Octets) → Decoded wanted IsWanted m d between v rest → WantedAnswered (started m d between) (Ok v) (started m d rest) → SaysAlone wanted IsWanted WantedAnswered m d (canonical_octets (sent r.value)) (Ok v)
  said_of v rest k a = subst (λ (o : Octets). SaysAlone wanted IsWanted WantedAnswered m d o (Ok v)) r.written.octets_are (rest, k, a)

  converted_to : (octets : Octets) (n : ℕ) → CanonicalOf wanted IsWanted WantedAnswered m d between octets n → ConvertedTo sent IsSent SentAnswered wanted IsWanted WantedAnswered m d input octets c
  converted_to octets n s = record {
    value = r.value;
    rest = r.rest;
    other = s.value;
    read = r.read;
    said = r.said;
    said_of_other = said_of s.value s.rest s.read s.said;
    counted = r.counted;
    as_older = read_as_older sent IsSent is_sent wanted IsWanted m d r.value between s.rest s.value r.written s.read;
    as_newer = read_as_newer sent IsSent is_sent wanted IsWanted is_wanted m d r.value between s.rest s.value r.written s.read;
    written = s.written;
  }

  pub converted : (octets : Octets) (n : ℕ) (old : Octets) (outcome : Outcome) (new : Octets) → CanonicalOf wanted IsWanted WantedAnswered m d between octets n → IsPlaced octets c old outcome new → IsConverted sent IsSent SentAnswered wanted IsWanted WantedAnswered m d input old outcome new
  converted octets n old (Done k w) new s p = (octets, subst (λ x. ConvertedTo sent IsSent SentAnswered wanted IsWanted WantedAnswered m d input octets x) (sym p.0) (converted_to octets n s), (refl, p.1, p.2))
  converted octets n old (NoRoom k w) new s p = (octets, subst (λ x. ConvertedTo sent IsSent SentAnswered wanted IsWanted WantedAnswered m d input octets x) (sym p.0) (converted_to octets n s), (refl, p.1, p.2, p.3))
  converted octets n old (Refused e) new s p = absurd p
  converted octets n old (NotConverted e) new s p = absurd p

  pub not_converted : (e : CodecError) (old : Octets) → IsRefused wanted IsWanted WantedAnswered m d between e → IsConverted sent IsSent SentAnswered wanted IsWanted WantedAnswered m d input old (NotConverted e) old
  not_converted (Decode e) old n = (
    refl,
    record {
      value = r.value;
      rest = r.rest;
      read = r.read;
      said = r.said;
      said_of_other = subst (λ (o : Octets). SaysAlone wanted IsWanted WantedAnswered m d o (Err e)) r.written.octets_are n.1;
      as_older = (n.0.mode, λ k. none_is_older sent IsSent is_sent wanted IsWanted m d r.value between r.written (n.0.none k));
      as_newer = (n.0.mode, λ k. none_is_newer sent IsSent is_sent wanted IsWanted is_wanted m d r.value between r.written (n.0.none k));
    },
  )
  not_converted (Encode x) old n = (
    refl,
    record {
      value = r.value;
      rest = r.rest;
      other = n.0;
      read = r.read;
      said = r.said;
      said_of_other = said_of n.0 n.1 n.2 n.3;
      as_older = read_as_older sent IsSent is_sent wanted IsWanted m d r.value between n.1 n.0 r.written n.2;
      as_newer = read_as_newer sent IsSent is_sent wanted IsWanted is_wanted m d r.value between n.1 n.0 r.written n.2;
      unwritten = n.4;
    },
  )
