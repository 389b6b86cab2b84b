-- Steps of reading, taken apart and put together.
use Rattle.std.proofs.Common.{◌≡◌, ℕ, suc, ◌-◌, ◌<◌, ◌≤◌, Bool, true, false, cond, ltb, [], ◌∷◌, ◌++◌, length, get_or, take, drop, Result, Ok, Err, refl, sym, ap, ◌∙◌, arith, inl, inr, Fits, w8}
use Rattle.std.specs.Option.{ok_or}
use Rattle.std.proofs.lemmas.Bool.{cases_lt, ltb-false, lt-ltb, le-ltb}
use Rattle.std.proofs.lemmas.List.{take_at, drop_at, length-append}
use Rattle.asn1_core.specs.Octets.{Octets, AreOctets}
use Rattle.asn1_core.specs.declared.codec.Codec.{Codec}
use Rattle.asn1_core.specs.declared.codec.Codec.TheVariants.{Oer, Coer}
use Rattle.asn1_core.specs.declared.error.DecodeErrorKind.{DecodeErrorKind}
use Rattle.asn1_core.specs.declared.error.DecodeErrorKind.TheVariants.{Incomplete}
use Rattle.oer_spec.specs.Mode.{mode_of, InStrict}
use Rattle.oer_spec.specs.Reading.{◌>>=◌, ◌>>◌, Gives, seen, ReadsFront, octets_at, canonical, is_coer, if_below}

-- A reading answers exactly what a front of the octets spells, and what is left.
pub record Reads {V : Type 0} (read : Octets → Result (V × Octets) DecodeErrorKind) (Spells : Octets → V → Type 0) : Type 0 where
  pub found : (input rest : Octets) (v : V) → AreOctets input → read input ≡ Ok (v, rest) → (o : Octets) × (input ≡ o ++ rest) × Spells o v
  pub again : (o rest : Octets) (v : V) → Spells o v → read (o ++ rest) ≡ Ok (v, rest)

-- what the type of a slice says
pub are_octets : (o : Octets) → ((k : ℕ) → Fits w8 (get_or o k 0)) → AreOctets o
are_octets [] h = tt
are_octets (x ∷ o) h = (omega (arith, h 0), are_octets o (λ k. h (suc k)))

pub front_octets : (o p : Octets) → AreOctets (o ++ p) → AreOctets o
front_octets [] p h = tt
front_octets (x ∷ o) p (h, hs) = (h, front_octets o p hs)

pub rear_octets : (o p : Octets) → AreOctets (o ++ p) → AreOctets p
rear_octets [] p h = h
rear_octets (x ∷ o) p (h, hs) = rear_octets o p hs

-- a reader that gives what such a reading does
pub front_is : {V : Type 0} {read : Octets → Result (V × Octets) DecodeErrorKind} {Spells : Octets → V → Type 0} → Reads read Spells → (input : Octets) (r : Result (V × Octets) DecodeErrorKind) → AreOctets input → read input ≡ r → ReadsFront Spells input r
front_is reads input (Ok x) f e = reads.found input x.1 x.0 f e
front_is {V} {read} {Spells} reads input (Err d) f e = λ m o rest v split s. contra v rest (sym e ∙ ap read split ∙ reads.again o rest v s)
  where
    contra : (v : V) (rest : Octets) → ◌≡◌ {A = Result (V × Octets) DecodeErrorKind} (Err d) (Ok (v, rest)) → ⊥
    contra v rest h = cc

-- the same at the end of a function that returns what another did
pub front_of : {V X : Type 0} {read : Octets → Result (V × Octets) DecodeErrorKind} {Spells : Octets → V → Type 0} → Reads read Spells → (view : X → V × Octets) (input : Octets) (r : Result X DecodeErrorKind) → ((k : ℕ) → Fits w8 (get_or input k 0))
    → Gives view r (read input) → ReadsFront Spells input (seen view r)
front_of reads view input (Ok x) f e = front_is reads input (Ok (view x)) (are_octets input f) e
front_of reads view input (Err d) f e = front_is reads input (Err d) (are_octets input f) e

-- the same where it answers a value, and where it refuses
pub front_ok : {V : Type 0} {read : Octets → Result (V × Octets) DecodeErrorKind} {Spells : Octets → V → Type 0} → Reads read Spells → (input rest : Octets) (v : V) → ((k : ℕ) → Fits w8 (get_or input k 0))
    → read input ≡ Ok (v, rest) → (o : Octets) × (input ≡ o ++ rest) × Spells o v
front_ok reads input rest v f e = reads.found input rest v (are_octets input f) e

-- the value of a step that was not refused
pub bind_ok : {A B : Type 0} (r : Result A DecodeErrorKind) (f : A → Result B DecodeErrorKind) (y : B) → (r >>= f) ≡ Ok y → (x : A) × (r ≡ Ok x) × (f x ≡ Ok y)
bind_ok (Ok x) f y e = (x, refl, e)
bind_ok (Err d) f y e = absurd cc

pub then_ok : {A B : Type 0} (r : Result A DecodeErrorKind) (s : Result B DecodeErrorKind) (y : B) → (r >> s) ≡ Ok y → (x : A) × (r ≡ Ok x) × (s ≡ Ok y)
then_ok (Ok x) s y e = (x, refl, e)
then_ok (Err d) s y e = absurd cc

abbrev done : {A : Type 0} → A → Result A DecodeErrorKind
done x = Ok x

pub ok_is : {A : Type 0} (x y : A) → done x ≡ done y → x ≡ y
ok_is x y e = cc

-- a value and what is left
abbrev made : {A : Type 0} → A → Octets → Result (A × Octets) DecodeErrorKind
made x o = Ok (x, o)

pub pair_is : {A : Type 0} (x y : A) (o p : Octets) → made x o ≡ made y p → (x ≡ y) × (o ≡ p)
pair_is {A} x y o p e = let s : ◌≡◌ {A = A × Octets} (x, o) (y, p) = ok_is (x, o) (y, p) e in (ap (λ (z : A × Octets). z.0) s, ap (λ (z : A × Octets). z.1) s)

-- a test that leads to a refusal, and did not
pub guard_ok : {A : Type 0} (b : Bool) (d : DecodeErrorKind) (x : Result A DecodeErrorKind) (y : A) → cond b (Err d) x ≡ Ok y → (b ≡ false) × (x ≡ Ok y)
guard_ok true d x y e = absurd cc
guard_ok false d x y e = (refl, e)

pub octets_ok : (n : ℕ) (input : Octets) (x : Octets × Octets) → octets_at n input ≡ Ok x → (n ≤ length input) × (x.0 ≡ take n input) × (x.1 ≡ drop n input)
octets_ok n input x e =
    let g = guard_ok (ltb (length input) n) (Incomplete (n - length input)) (Ok (take n input, drop n input)) x e in
    let s = ok_is (take n input, drop n input) x g.1 in
    (ltb-false _ _ g.0, ap (λ (p : Octets × Octets). p.0) (sym s), ap (λ (p : Octets × Octets). p.1) (sym s))

pub octets_again : (o rest : Octets) (n : ℕ) → length o ≡ n → octets_at n (o ++ rest) ≡ Ok (o, rest)
octets_again o rest n e =
    let long : ltb (length (o ++ rest)) n ≡ false = le-ltb _ _ (omega (arith, length-append o rest)) in
    rw (long, take_at o rest n e, drop_at o rest n e) refl

-- what the canonical test says where it passes
pub canonical_ok : (codec : Codec) (b : Bool) (x : Unit {0}) → canonical codec b ≡ Ok x → is_coer codec ≡ true → b ≡ false
canonical_ok Oer b x e strict = absurd cc
canonical_ok Coer true x e strict = absurd cc
canonical_ok Coer false x e strict = refl

pub canonical_again : (codec : Codec) (b : Bool) → (is_coer codec ≡ true → b ≡ false) → canonical codec b ≡ Ok tt
canonical_again Oer b h = refl
canonical_again Coer b h = rw (h refl) refl

-- what holds in canonical reading
pub strict_is : (codec : Codec) {P : Type 0} → (is_coer codec ≡ true → P) → InStrict (mode_of codec) P
strict_is Oer h = tt
strict_is Coer h = h refl

pub strict_has : (codec : Codec) {P : Type 0} → InStrict (mode_of codec) P → is_coer codec ≡ true → P
strict_has Oer h strict = absurd cc
strict_has Coer h strict = h

pub if_below_ok : (limit n m : ℕ) (d : DecodeErrorKind) → ok_or (if_below limit n) d ≡ Ok m → (n < limit) × (n ≡ m)
if_below_ok limit n m d e =
    elim (cases_lt n limit) [
      | inl lt ↦ (lt, let t = lt-ltb n limit lt in let e' = rw t at e in ok_is n m e')
      | inr le ↦ let t = le-ltb n limit le in let e' = rw t at e in absurd cc
    ]

pub if_below_again : (limit n : ℕ) (d : DecodeErrorKind) → n < limit → ok_or (if_below limit n) d ≡ Ok n
if_below_again limit n d lt = rw (lt-ltb n limit lt) refl
