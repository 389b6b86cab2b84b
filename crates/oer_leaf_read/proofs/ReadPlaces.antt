-- Preambles, bitmaps and skipped additions are read exactly where a front of the octets spells them.
use Rattle.std.proofs.Common.{◌≡◌, ℕ, ◌+◌, ◌-◌, ◌*◌, ◌<◌, ◌≤◌, Bool, true, false, ltb, List, [], ◌∷◌, ◌++◌, length, Result, Ok, Err, refl, sym, ap, ap₂, subst, ◌∙◌, arith, append_assoc, length-append}
use Rattle.std.specs.Prelude.{not}
use Rattle.std.proofs.lemmas.Bool.{ltb-false, le-ltb, or_parts, or_from}
use Rattle.std.proofs.lemmas.List.{take-append-drop, length-take-le}
use Rattle.asn1_core.specs.Octets.{Octets, AreOctets, bits_of, octets_for, AllFalse}
use Rattle.asn1_core.specs.declared.codec.Codec.{Codec}
use Rattle.asn1_core.specs.declared.error.DecodeErrorKind.{DecodeErrorKind}
use Rattle.asn1_core.specs.declared.error.DecodeErrorKind.TheVariants.{InvalidPreamble, InvalidExtensionHeader}
use Rattle.oer_spec.specs.Bits.{front_bits, has_set_fill, any_set}
use Rattle.oer_spec.specs.Lengths.{IsBehindLength, AnyTrue, IsBitmap}
use Rattle.oer_spec.specs.Mode.{mode_of, InStrict}
use Rattle.oer_spec.specs.Places.{IsPreamble, AreSkipped}
use Rattle.oer_spec.specs.Reading.{Gives, ◌>>=◌, ◌>>◌, octets_at, canonical, is_coer, content_at}
use Rattle.oer_spec.specs.ReadingBits.{refuse_if, unused_for, preamble_at, is_overfull, bitmap_of, bitmap_at, skipped_at}
use Rattle.oer_leaf_read.proofs.Fill.{unused_bits, all_unset, parts_of_bits, length-unused, front_is, unused_enough, unset_again}
use Rattle.oer_leaf_read.proofs.ReadLengths.{content_reads, Decodes, behind_reads}
use Rattle.oer_spec.proofs.Steps.{Reads, bind_ok, then_ok, ok_is, pair_is, octets_ok, octets_again, canonical_ok, canonical_again, strict_is, strict_has, front_octets, rear_octets}
use Rattle.oer_spec.proofs.Unique.{length-bits_of}

-- ---- tests
pub refuse_ok : (test : Bool) (kind : DecodeErrorKind) (x : Unit {0}) → refuse_if test kind ≡ Ok x → test ≡ false
refuse_ok true kind x e = absurd cc
refuse_ok false kind x e = refl

-- a count of octets at the front, as a front
pub octets_found : (n : ℕ) (input : Octets) (x : Octets × Octets) → octets_at n input ≡ Ok x → (length x.0 ≡ n) × (input ≡ x.0 ++ x.1)
octets_found n input x e =
    let parts = octets_ok n input x e in (
      ap length parts.1 ∙ length-take-le n input parts.0,
      sym (take-append-drop n input) ∙ ap₂ ◌++◌ (sym parts.1) (sym parts.2),
    )

-- ---- preambles
few_unused : (n : ℕ) → unused_for n < 8
few_unused n = omega arith

-- octets of so many bits and less than eight unused ones are the fewest
pub fewest_octets : (o : Octets) (b v : List Bool) → length v < 8 → bits_of o ≡ b ++ v → (length o ≡ octets_for (length b)) × (length v ≡ unused_for (length b))
fewest_octets o b v few e =
    let n : 8 * length o ≡ length b + length v = sym (length-bits_of o) ∙ ap length e ∙ length-append b v in
    (omega arith, omega arith)

preamble_found : (n : ℕ) (input rest : Octets) (b : List Bool) → AreOctets input → preamble_at n input ≡ Ok (b, rest) → (o : Octets) × (input ≡ o ++ rest) × (IsPreamble o b × (length b ≡ n))
unfolding preamble_at
preamble_found n input rest b fits e =
    let a = bind_ok (octets_at (octets_for n) input) (λ octets. refuse_if (has_set_fill (unused_for n) octets.0) InvalidPreamble >> Ok (front_bits (unused_for n) octets.0, octets.1)) (b, rest) e in
    let t = then_ok (refuse_if (has_set_fill (unused_for n) a.0.0) InvalidPreamble) (Ok (front_bits (unused_for n) a.0.0, a.0.1)) (b, rest) a.2 in
    let same = pair_is (front_bits (unused_for n) a.0.0) b a.0.1 rest t.2 in
    let o = octets_found (octets_for n) input a.0 a.1 in
    let whole : input ≡ a.0.0 ++ rest = o.1 ∙ ap (λ r. a.0.0 ++ r) same.1 in
    let octets : AreOctets a.0.0 = front_octets a.0.0 rest (subst AreOctets whole fits) in
    let enough : unused_for n ≤ 8 * length a.0.0 = omega (arith, o.0) in
    let few : unused_for n < 8 = few_unused n in
    let size : length (unused_bits (unused_for n) a.0.0) ≡ unused_for n = length-unused (unused_for n) a.0.0 enough in
    let split : bits_of a.0.0 ≡ b ++ unused_bits (unused_for n) a.0.0 = parts_of_bits (unused_for n) a.0.0 ∙ ap (λ z. z ++ unused_bits (unused_for n) a.0.0) same.0 in
    let count : length b ≡ n = omega (arith, length-bits_of a.0.0, ap length split, length-append b (unused_bits (unused_for n) a.0.0), size, o.0) in
    (a.0.0, whole, ((octets, unused_bits (unused_for n) a.0.0, subst (λ z. z < 8) (sym size) few, split, all_unset (unused_for n) a.0.0 few enough octets (refuse_ok (has_set_fill (unused_for n) a.0.0) InvalidPreamble t.0 t.1)), count))

preamble_again : (n : ℕ) (o rest : Octets) (b : List Bool) → IsPreamble o b × (length b ≡ n) → preamble_at n (o ++ rest) ≡ Ok (b, rest)
unfolding preamble_at
preamble_again n o rest b ((octets, v, few, split, unset), count) =
    let sizes = fewest_octets o b v few split in
    let size : length o ≡ octets_for n = sizes.0 ∙ ap octets_for count in
    let unused : unused_for n ≡ length v = sym (sizes.1 ∙ ap unused_for count) in
    rw (octets_again o rest (octets_for n) size, unused, unset_again o b v octets few split unset, front_is o b v split) refl

pub preamble_reads : (n : ℕ) → Reads (preamble_at n) (λ o b. IsPreamble o b × (length b ≡ n))
preamble_reads n = record { found = preamble_found n; again = preamble_again n }

-- ---- bitmaps
pub any_true : (b : List Bool) → any_set b ≡ true → AnyTrue b
any_true [] e = absurd cc
any_true (true ∷ b) e = tt
any_true (false ∷ b) e = any_true b e

pub true_any : (b : List Bool) → AnyTrue b → any_set b ≡ true
true_any [] h = absurd h
true_any (true ∷ b) h = refl
true_any (false ∷ b) h = true_any b h

not_false : (b : Bool) → not b ≡ false → b ≡ true
not_false true e = refl
not_false false e = absurd cc

-- bits and less than eight unused ones, after the octet that counts these
pub record IsCounted (c : Octets) (b : List Bool) (unused : List Bool) : Type 0 where
  pub octets : Octets
  pub whole : c ≡ length unused ∷ octets
  pub few : length unused < 8
  pub split : bits_of octets ≡ b ++ unused

abbrev pub IsBitmapContent : Codec → Octets → List Bool → Type 0
IsBitmapContent codec c b = (unused : List Bool) × IsCounted c b unused × InStrict (mode_of codec) (AnyTrue b × AllFalse unused)

pub overfull_not : (u n : ℕ) → is_overfull u n ≡ false → (u < 8) × (u ≤ 8 * n)
overfull_not u n e =
    let tests = or_parts (ltb 7 u) (ltb (8 * n) u) e in
    (omega (arith, ltb-false 7 u tests.0), ltb-false (8 * n) u tests.1)

pub not_overfull : (u n : ℕ) → u < 8 → u ≤ 8 * n → is_overfull u n ≡ false
not_overfull u n few enough = or_from (ltb 7 u) (ltb (8 * n) u) (le-ltb 7 u (omega arith)) (le-ltb (8 * n) u enough)

-- octets with a count of unused bits that isn't above them
pub counted_is : (u : ℕ) (o : Octets) → u < 8 → u ≤ 8 * length o → IsCounted (u ∷ o) (front_bits u o) (unused_bits u o)
counted_is u o few enough =
    let size : length (unused_bits u o) ≡ u = length-unused u o enough in
    record { octets = o; whole = ap (λ z. z ∷ o) (sym size); few = subst (λ z. z < 8) (sym size) few; split = parts_of_bits u o }

bitmap_found : (codec : Codec) (c : Octets) (b : List Bool) → AreOctets c → bitmap_of codec c ≡ Ok b → IsBitmapContent codec c b
unfolding bitmap_of
bitmap_found codec [] b fits e = absurd cc
bitmap_found codec (u ∷ o) b (f, fits) e =
    let s = then_ok (refuse_if (is_overfull u (length o)) InvalidExtensionHeader) (canonical codec (has_set_fill u o) >> (canonical codec (not (any_set (front_bits u o))) >> Ok (front_bits u o))) b e in
    let t = then_ok (canonical codec (has_set_fill u o)) (canonical codec (not (any_set (front_bits u o))) >> Ok (front_bits u o)) b s.2 in
    let w = then_ok (canonical codec (not (any_set (front_bits u o)))) (Ok (front_bits u o)) b t.2 in
    let n = overfull_not u (length o) (refuse_ok (is_overfull u (length o)) InvalidExtensionHeader s.0 s.1) in
    let strict : is_coer codec ≡ true → AnyTrue (front_bits u o) × AllFalse (unused_bits u o) = λ z. (
      any_true (front_bits u o) (not_false (any_set (front_bits u o)) (canonical_ok codec (not (any_set (front_bits u o))) w.0 w.1 z)),
      all_unset u o n.0 n.1 fits (canonical_ok codec (has_set_fill u o) t.0 t.1 z),
    ) in
    subst (IsBitmapContent codec (u ∷ o)) (ok_is (front_bits u o) b w.2) (unused_bits u o, counted_is u o n.0 n.1, strict_is codec strict)

bitmap_again : (codec : Codec) (c : Octets) (b : List Bool) → AreOctets c → IsBitmapContent codec c b → bitmap_of codec c ≡ Ok b
unfolding bitmap_of
bitmap_again codec c b fits (v, k, strict) = ap (bitmap_of codec) k.whole ∙ go k.octets (rear_octets (length v ∷ []) k.octets (subst AreOctets k.whole fits)) k.split
  where
    go : (o : Octets) → AreOctets o → bits_of o ≡ b ++ v → bitmap_of codec (length v ∷ o) ≡ Ok b
    go o octets split =
        let front : front_bits (length v) o ≡ b = front_is o b v split in
        let fill : is_coer codec ≡ true → has_set_fill (length v) o ≡ false = λ z. unset_again o b v octets k.few split (strict_has codec strict z).1 in
        let any : is_coer codec ≡ true → not (any_set b) ≡ false = λ z. ap not (true_any b (strict_has codec strict z).0) in
        rw (not_overfull (length v) (length o) k.few (unused_enough o b v split), canonical_again codec (has_set_fill (length v) o) fill, front, canonical_again codec (not (any_set b)) any) refl

bitmap_decodes : (codec : Codec) → Decodes (bitmap_of codec) (IsBitmapContent codec)
bitmap_decodes codec = record { found = bitmap_found codec; again = bitmap_again codec }

-- the content and the length before it
bitmap_whole : (codec : Codec) (o : Octets) (b : List Bool) → (c : Octets) × IsBehindLength (mode_of codec) o c × IsBitmapContent codec c b → IsBitmap (mode_of codec) o b
bitmap_whole codec o b (c, behind, (v, k, strict)) = (v, (k.octets, subst (IsBehindLength (mode_of codec) o) k.whole behind, k.few, k.split), strict)

bitmap_parts : (codec : Codec) (o : Octets) (b : List Bool) → IsBitmap (mode_of codec) o b → (c : Octets) × IsBehindLength (mode_of codec) o c × IsBitmapContent codec c b
bitmap_parts codec o b (v, (c, behind, few, split), strict) = (length v ∷ c, behind, (v, record { octets = c; whole = refl; few = few; split = split }, strict))

-- a reading of the same value by another relation
pub reads_like : {V : Type 0} {read : Octets → Result (V × Octets) DecodeErrorKind} {P Q : Octets → V → Type 0} → ((o : Octets) (v : V) → P o v → Q o v) → ((o : Octets) (v : V) → Q o v → P o v) → Reads read P → Reads read Q
reads_like to from reads = record {
  found = λ input rest v fits e. let f = reads.found input rest v fits e in (f.0, f.1, to f.0 v f.2);
  again = λ o rest v q. reads.again o rest v (from o v q);
}

pub bitmap_reads : (codec : Codec) → Reads (bitmap_at codec) (IsBitmap (mode_of codec))
unfolding bitmap_at
bitmap_reads codec = reads_like (bitmap_whole codec) (bitmap_parts codec) (behind_reads codec (bitmap_of codec) (IsBitmapContent codec) (bitmap_decodes codec))

-- ---- skipped additions
abbrev at_unit : Result Octets DecodeErrorKind → Result (Unit {0} × Octets) DecodeErrorKind
at_unit (Ok rest) = Ok (tt, rest)
at_unit (Err e) = Err e

skipped_found : (codec : Codec) (b : List Bool) (input rest : Octets) → AreOctets input → skipped_at codec b input ≡ Ok rest → (o : Octets) × (input ≡ o ++ rest) × AreSkipped (mode_of codec) b o
unfolding skipped_at
skipped_found codec [] input rest fits e = ([], ok_is input rest e, refl)
skipped_found codec (false ∷ b) input rest fits e = skipped_found codec b input rest fits e
skipped_found codec (true ∷ b) input rest fits e =
    let a = bind_ok (content_at codec input) (λ content. skipped_at codec b content.1) rest e in
    let f = (content_reads codec).found input a.0.1 a.0.0 fits a.1 in
    let later = skipped_found codec b a.0.1 rest (rear_octets f.0 a.0.1 (subst AreOctets f.1 fits)) a.2 in
    (f.0 ++ later.0, f.1 ∙ ap (λ z. f.0 ++ z) later.1 ∙ sym (append_assoc f.0 later.0 rest), (f.0, later.0, a.0.0, refl, f.2, later.2))

skipped_again : (codec : Codec) (b : List Bool) (o rest : Octets) → AreSkipped (mode_of codec) b o → skipped_at codec b (o ++ rest) ≡ Ok rest
unfolding skipped_at
skipped_again codec [] o rest s = ap (λ z. Ok (z ++ rest)) s
skipped_again codec (false ∷ b) o rest s = skipped_again codec b o rest s
skipped_again codec (true ∷ b) o rest (g, later, c, whole, behind, s) =
    let regrouped : o ++ rest ≡ g ++ (later ++ rest) = ap (λ z. z ++ rest) whole ∙ append_assoc g later rest in
    ap (λ z. content_at codec z >>= λ content. skipped_at codec b content.1) regrouped ∙ rw ((content_reads codec).again g (later ++ rest) c behind) (skipped_again codec b later rest s)

pub skipped_reads : (codec : Codec) (b : List Bool) → Reads (λ input. at_unit (skipped_at codec b input)) (λ o _. AreSkipped (mode_of codec) b o)
skipped_reads codec b = record {
  found = λ input rest v fits e. skipped_found codec b input rest fits (at_rest (skipped_at codec b input) v rest e);
  again = λ o rest v s. ap at_unit (skipped_again codec b o rest s);
}
  where
    at_rest : (r : Result Octets DecodeErrorKind) (v : Unit {0}) (rest : Octets) → at_unit r ≡ Ok (v, rest) → r ≡ Ok rest
    at_rest (Ok x) v rest e = ap (λ z. Ok z) (pair_is tt v x rest e).1
    at_rest (Err d) v rest e = absurd cc

pub gives_rest : {X : Type 0} (view : X → Octets) (r : Result X DecodeErrorKind) (read : Result Octets DecodeErrorKind) → Gives view r read → Gives (λ x. (tt, view x)) r (at_unit read)
gives_rest view (Ok x) read e = ap at_unit e
gives_rest view (Err d) read e = ap at_unit e
