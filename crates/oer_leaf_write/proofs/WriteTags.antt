-- What is written of a tag.
use Rattle.std.proofs.Common.{◌≡◌, ◌≢◌, ℕ, ◌+◌, ◌*◌, ◌/◌, ◌%◌, ◌<◌, ◌≤◌, nat_lt, [], ◌∷◌, ◌++◌, map, Result, Ok, Err, refl, sym, ap, ap₂, ◌∙◌, arith, append_assoc}
use Rattle.std.specs.Int.Digits.{digits_of}
use Rattle.std.proofs.lemmas.Bool.{le-ltb, cond-false}
use Rattle.std.proofs.lemmas.Int.Digits.{digits_of_step}
use Rattle.asn1_core.specs.Octets.{Octets}
use Rattle.asn1_core.specs.Tags.{class_number}
use Rattle.asn1_core.specs.declared.error.EncodeErrorKind.{EncodeErrorKind}
use Rattle.asn1_core.specs.declared.tag.Tag.{Tag}
use Rattle.oer_spec.specs.Lengths.{with_top_bits, tag_octets}
use Rattle.oer_spec.specs.Writing.{AppendsOrMemory, group_octets}

-- more octets behind those that stand at the end already
pub appends_more : {T : Type 0} (r : Result T EncodeErrorKind) (o p old mid new : Octets) → mid ≡ old ++ o → AppendsOrMemory r p mid new → AppendsOrMemory r (o ++ p) old new
appends_more (Ok x) o p old mid new e h = h ∙ ap (λ z. z ++ p) e ∙ append_assoc old o p
appends_more (Err d) o p old mid new e (m, (more, h)) = (m, (o ++ more, h ∙ ap (λ z. z ++ more) e ∙ append_assoc old o more))

map_one_more : (ds : Octets) (d : ℕ) → map (λ d. d + 128) (ds ++ d ∷ []) ≡ map (λ d. d + 128) ds ++ ((d + 128) ∷ [])
map_one_more [] d = refl
map_one_more (x ∷ ds) d = ap (λ z. (x + 128) ∷ z) (map_one_more ds d)

pub front_groups : (n : ℕ) (old mid new : Octets) → n ≢ 0 → mid ≡ old ++ map (λ d. d + 128) (digits_of 128 (n / 128)) → new ≡ mid ++ ((128 + n % 128) ∷ []) → new ≡ old ++ map (λ d. d + 128) (digits_of 128 n)
front_groups n old mid new some e h =
    let swap : 128 + n % 128 ≡ n % 128 + 128 = omega arith in
    let positive : 0 < n = omega (arith, some) in
    h ∙ ap₂ (λ a b. a ++ (b ∷ [])) e swap ∙ append_assoc old (map (λ d. d + 128) (digits_of 128 (n / 128))) ((n % 128 + 128) ∷ [])
    ∙ ap (λ z. old ++ z) (sym (ap (map (λ d. d + 128)) (digits_of_step 128 n (omega arith) positive) ∙ map_one_more (digits_of 128 (n / 128)) (n % 128)))

top_of_more : (ds : Octets) (d : ℕ) → with_top_bits (ds ++ d ∷ []) ≡ map (λ d. d + 128) ds ++ (d ∷ [])
top_of_more [] d = refl
top_of_more (x ∷ []) d = refl
top_of_more (x ∷ y ∷ ds) d = ap (λ z. (x + 128) ∷ z) (top_of_more (y ∷ ds) d)

pub long_tag : (t : Tag) → 63 ≤ t.value → (class_number t.class * 64 + 63) ∷ group_octets t.value ≡ tag_octets t
long_tag t large =
    let positive : 0 < t.value = omega arith in
    sym (
    cond-false (nat_lt t.value 63) ((class_number t.class * 64 + t.value) ∷ []) ((class_number t.class * 64 + 63) ∷ with_top_bits (digits_of 128 t.value)) (le-ltb t.value 63 large)
    ∙ ap (λ z. (class_number t.class * 64 + 63) ∷ with_top_bits z) (digits_of_step 128 t.value (omega arith) positive)
    ∙ ap (λ z. (class_number t.class * 64 + 63) ∷ z) (top_of_more (digits_of 128 (t.value / 128)) (t.value % 128))
    )
