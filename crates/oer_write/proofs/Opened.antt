-- Open types of values within which nothing is open.
use Rattle.std.specs.Prelude.{IfErr, OnOk, slice_set}
use Rattle.std.proofs.Common.{◌≡◌, ℕ, zero, suc, ◌+◌, ◌-◌, ◌/◌, ◌%◌, ◌<◌, List, [], ◌∷◌, ◌++◌, length, take, drop, refl, ap, ap₂, sym, ◌∙◌, subst, Ok, Err, Result, arith, append_assoc, append-nil, length-append}
use Rattle.std.proofs.lemmas.Bool.{cond-true, lt-ltb}
use Rattle.std.proofs.lemmas.List.{take_at, drop_at, take-append-drop, take-set, drop-set}
use Rattle.asn1_core.specs.Numbers.{low_octets}
use Rattle.asn1_core.specs.Octets.{Octets}
use Rattle.asn1_core.specs.declared.error.EncodeErrorKind.{EncodeErrorKind}
use Rattle.asn1_core.specs.declared.error.EncodeErrorKind.TheVariants.{OutOfMemory}
use Rattle.oer_spec.specs.Lengths.{behind_length, length_octets}
use Rattle.oer_write.specs.Held.{Kept}
use Rattle.oer_write.specs.Layout.{Piece, Adds}
use Rattle.oer_write.proofs.Holding.{kept_added}

-- octets that were appended, without a piece
pub adds_plain : (x o p : Octets) (is js : List Piece) → p ≡ o ++ x → js ≡ is → Adds x o is p js
adds_plain x o p is js e f = record {
  rear = [];
  begins = (x, e);
  more = f ∙ sym (append-nil is);
  ascends = omega (arith, ap length e, length-append o x);
  adds = ap (drop (length o)) e ∙ drop_at o x (length o) refl;
}

pub adds_whole : (s : ℕ) (o : Octets) (is js : List Piece) → js ≡ is → Adds (drop s o) (take s o) is o js
adds_whole s o is js f = adds_plain (drop s o) (take s o) o is js (sym (take-append-drop s o)) f

-- pieces, and a slot behind them
pub slotted : (n : ℕ) (is js ss : List Piece) → n ≡ length is → js ≡ is ++ ss → (take n js ≡ is) × (js ≡ take n js ++ ss)
slotted n is js ss e f =
    let t : take n js ≡ is = ap (take n) f ∙ take_at is ss n (sym e) in
    (t, f ∙ ap (λ (ps : List Piece). ps ++ ss) (sym t))

pub adds_retitled : (x y o p q : Octets) (is js ks : List Piece) → x ≡ y → o ≡ p → is ≡ js → Adds x o is q ks → Adds y p js q ks
adds_retitled x y o p q is js ks e f g a = subst (λ (z : Octets). Adds z p js q ks) e (subst (λ (z : Octets). Adds x z js q ks) f (subst (λ (z : List Piece). Adds x o z q ks) g a))

pub kept_either : {T : Type 0} (r : Result T EncodeErrorKind) (x o p q : Octets) (is js ks : List Piece) → OnOk r (Adds x o is p js) → IfErr r (λ k. (k ≡ OutOfMemory) × (p ≡ q) × (js ≡ ks)) → Kept o is q ks → Kept o is p js
kept_either {T} (Ok t) x o p q is js ks h l k = kept_added x o p is js h
kept_either {T} (Err y) x o p q is js ks h l k = record { rear = k.rear; begins = (k.begins.0, l.1 ∙ k.begins.1); more = l.2 ∙ k.more }

pub kept_longer : (s : ℕ) (o p : Octets) (is js ss : List Piece) → take s p ≡ take s o → js ≡ is ++ ss → Kept (take s o) is p js
kept_longer s o p is js ss e f = record { rear = ss; begins = (drop s p, sym (take-append-drop s p) ∙ ap (λ (z : Octets). z ++ drop s p) e); more = f }

-- the last octet of a number stands by itself
last_apart : (n number : ℕ) → 0 < n → low_octets (n - 1) (number / 256) ++ (number % 256 ∷ []) ≡ low_octets n number
last_apart zero number h = absurd (omega (arith, h))
last_apart (suc n) number h = (let e : suc n - 1 ≡ n = omega arith in ap (λ (m : ℕ). low_octets m (number / 256) ++ (number % 256 ∷ [])) e)

-- a length's last octet was kept free in front of the value; the others are put in front of it
pub lengthened : (s n number : ℕ) (o : Octets) → s < length o → 0 < n → low_octets n number ≡ length_octets (length (drop (s + 1) o)) → low_octets (n - 1) (number / 256) ++ drop s (slice_set o s (number % 256)) ≡ behind_length (drop (s + 1) o)
lengthened s n number o h k e =
    let front = low_octets (n - 1) (number / 256) in
    let rest = drop (s + 1) o in
    ap (λ (z : Octets). front ++ z) (drop-set o s (number % 256) h) ∙ sym (append_assoc front (number % 256 ∷ []) rest) ∙ ap (λ (z : Octets). z ++ rest) (last_apart n number k ∙ e)

-- a length below 128 is that octet
pub shortened : (s v : ℕ) (old x new : Octets) → s ≡ length old → new ≡ old ++ (0 ∷ x) → v ≡ length x → v < 128 → slice_set new s v ≡ old ++ behind_length x
shortened s v old x new a e b h =
    let n : length new ≡ length old + suc (length x) = ap length e ∙ length-append old (0 ∷ x) in
    let f : take s new ≡ old = ap (take s) e ∙ take_at old (0 ∷ x) s (sym a) in
    let g : drop (s + 1) new ≡ x = ap (drop (s + 1)) (e ∙ sym (append_assoc old (0 ∷ []) x)) ∙ drop_at (old ++ (0 ∷ [])) x (s + 1) (omega (arith, a, length-append old (0 ∷ []))) in
    let d : drop s (slice_set new s v) ≡ v ∷ x = drop-set new s v (omega (arith, a, n)) ∙ ap (λ (z : Octets). v ∷ z) g in
    let l : length_octets (length x) ≡ v ∷ [] = ap length_octets (sym b) ∙ cond-true _ (v ∷ []) _ (lt-ltb v 128 h) in
    sym (take-append-drop s (slice_set new s v)) ∙ ap₂ (λ (y z : Octets). y ++ z) (take-set new s v ∙ f) d ∙ ap (λ (z : Octets). old ++ (z ++ x)) (sym l)

-- what stands behind the octet
pub behind_octet : (s : ℕ) (old x new : Octets) → s ≡ length old → new ≡ old ++ (0 ∷ x) → (take s new ≡ old) × (drop (s + 1) new ≡ x) × (length new ≡ length old + suc (length x))
behind_octet s old x new a e = (
  ap (take s) e ∙ take_at old (0 ∷ x) s (sym a),
  ap (drop (s + 1)) (e ∙ sym (append_assoc old (0 ∷ []) x)) ∙ drop_at (old ++ (0 ∷ [])) x (s + 1) (omega (arith, a, length-append old (0 ∷ []))),
  ap length e ∙ length-append old (0 ∷ x),
)
