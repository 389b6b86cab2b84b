-- An output with octets that belong at places of it.
use Rattle.std.proofs.Common.{◌≡◌, ℕ, zero, suc, ◌+◌, ◌-◌, ◌<◌, ◌≤◌, List, [], ◌∷◌, ◌++◌, length, take, drop, refl, ap, sym, ◌∙◌, get_or, append_assoc, append-nil, arith, length-append, length-drop}
use Rattle.std.proofs.lemmas.List.{take-append-le, drop-append-le, drop-take, length-take-le, drop_at, take_all, drop-drop, take-append-drop}
use Rattle.std.proofs.Common.{take-add}
use Rattle.asn1_core.specs.Octets.{Octets}
use Rattle.oer_write.specs.Layout.{Piece, spread, total, top, Ascends, filled}

-- ---- places ascend

pub ascends_le : (p : ℕ) (is : List Piece) (n : ℕ) → Ascends p is n → p ≤ n
ascends_le p [] n h = h
ascends_le p (i ∷ is) n h =
    let b : i.place ≤ n = ascends_le i.place is n h.1 in
    let a : p ≤ i.place = h.0 in
    omega arith

pub ascends_more : (p : ℕ) (is : List Piece) (n m : ℕ) → Ascends p is n → n ≤ m → Ascends p is m
ascends_more p [] n m h l = let a : p ≤ n = h in omega arith
ascends_more p (i ∷ is) n m h l = (h.0, ascends_more i.place is n m h.1 l)

pub ascends_lower : (p q : ℕ) (is : List Piece) (n : ℕ) → p ≤ q → Ascends q is n → Ascends p is n
ascends_lower p q [] n h a = let b : q ≤ n = a in omega arith
ascends_lower p q (i ∷ is) n h a = let b : q ≤ i.place = a.0 in (omega arith, a.1)

pub ascends_join : (p q n : ℕ) (is js : List Piece) → Ascends p is q → Ascends q js n → Ascends p (is ++ js) n
ascends_join p q n [] js h k = ascends_lower p q js n h k
ascends_join p q n (i ∷ is) js h k = (h.0, ascends_join i.place q n is js h.1 k)

pub ascends_last : (p : ℕ) (es : List Piece) (i : Piece) (n : ℕ) → Ascends p (es ++ i ∷ []) n → Ascends p es i.place × (i.place ≤ n)
ascends_last p [] i n h = h
ascends_last p (e ∷ es) i n h = let r = ascends_last e.place es i n h.1 in ((h.0, r.0), r.1)

pub ascends_top : (p : ℕ) (is : List Piece) (n : ℕ) → Ascends p is n → Ascends p is (top p is) × (top p is ≤ n)
ascends_top p [] n h = (omega arith, h)
ascends_top p (i ∷ is) n h = let r = ascends_top i.place is n h.1 in ((h.0, r.0), r.1)

-- ---- how many octets

pub total_append : (is js : List Piece) → total (is ++ js) ≡ total is + total js
total_append [] js = omega arith
total_append (i ∷ is) js = omega (arith, total_append is js)

pub spread_length : (p : ℕ) (out : Octets) (is : List Piece) → Ascends p is (length out) → length (spread p out is) + p ≡ length out + total is
spread_length p out [] h = omega (arith, length-drop p out)
spread_length p out (i ∷ is) h =
    let l : i.place ≤ length out = ascends_le i.place is (length out) h.1 in
    let r : p ≤ i.place = h.0 in
    let s : i.place - p ≤ length (drop p out) = omega (arith, length-drop p out) in
    let t : length (take (i.place - p) (drop p out)) ≡ i.place - p = length-take-le (i.place - p) (drop p out) s in
    let e : length (spread i.place out is) + i.place ≡ length out + total is = spread_length i.place out is h.1 in
    omega (arith, length-append (take (i.place - p) (drop p out)) (i.octets ++ spread i.place out is), length-append i.octets (spread i.place out is))

-- ---- octets behind

pub drop_parts : (p q : ℕ) (out : Octets) → p ≤ q → drop p out ≡ take (q - p) (drop p out) ++ drop q out
drop_parts p q out h =
    let a : take (q - p) (drop p out) ++ drop (q - p) (drop p out) ≡ drop p out = take-append-drop (q - p) (drop p out) in
    let b : drop (q - p) (drop p out) ≡ drop (p + (q - p)) out = drop-drop (q - p) p out in
    let c : p + (q - p) ≡ q = omega arith in
    sym a ∙ ap (λ (z : Octets). take (q - p) (drop p out) ++ z) (rw c at b)

pub take_parts : (p q r : ℕ) (out : Octets) → p ≤ q → q ≤ r → take (r - p) (drop p out) ≡ take (q - p) (drop p out) ++ take (r - q) (drop q out)
take_parts p q r out h k =
    let a : take ((q - p) + (r - q)) (drop p out) ≡ take (q - p) (drop p out) ++ take (r - q) (drop (q - p) (drop p out)) = take-add (q - p) (r - q) (drop p out) in
    let b : drop (q - p) (drop p out) ≡ drop (p + (q - p)) out = drop-drop (q - p) p out in
    let c : p + (q - p) ≡ q = omega arith in
    let d : (q - p) + (r - q) ≡ r - p = omega arith in
    cc

pub spread_from : (p q : ℕ) (out : Octets) (is : List Piece) (n : ℕ) → p ≤ q → Ascends q is n → spread p out is ≡ take (q - p) (drop p out) ++ spread q out is
spread_from p q out [] n h a = drop_parts p q out h
spread_from p q out (i ∷ is) n h a =
    let t : take (i.place - p) (drop p out) ≡ take (q - p) (drop p out) ++ take (i.place - q) (drop q out) = take_parts p q i.place out h a.0 in
    rw t (simp append_assoc)

pub drop_part : (p q : ℕ) (out o : Octets) → p ≤ q → q ≤ length out → take (q - p) (drop p (out ++ o)) ≡ take (q - p) (drop p out)
drop_part p q out o h l =
    let r : p ≤ length out = omega arith in
    let s : q - p ≤ length (drop p out) = omega (arith, length-drop p out) in
    ap (λ (z : Octets). take (q - p) z) (drop-append-le p out o r) ∙ take-append-le (q - p) (drop p out) o s

-- what is added to the output and to the pieces stands behind all
pub spread_more : (p : ℕ) (out x : Octets) (is js : List Piece) (n : ℕ) → Ascends p is (length out) → Ascends (length out) js n → spread p (out ++ x) (is ++ js) ≡ spread p out is ++ spread (length out) (out ++ x) js
spread_more p out x [] js n h k =
    let l : p ≤ length out = h in
    let a : spread p (out ++ x) js ≡ take (length out - p) (drop p (out ++ x)) ++ spread (length out) (out ++ x) js = spread_from p (length out) (out ++ x) js n l k in
    let b : take (length out - p) (drop p (out ++ x)) ≡ take (length out - p) (drop p out) = drop_part p (length out) out x l (omega arith) in
    let c : take (length out - p) (drop p out) ≡ drop p out = take_all (length out - p) (drop p out) (omega (arith, length-drop p out)) in
    a ∙ ap (λ (z : Octets). z ++ spread (length out) (out ++ x) js) (b ∙ c)
spread_more p out x (i ∷ is) js n h k =
    let l : i.place ≤ length out = ascends_le i.place is (length out) h.1 in
    let a : take (i.place - p) (drop p (out ++ x)) ≡ take (i.place - p) (drop p out) = drop_part p i.place out x h.0 l in
    let b : spread i.place (out ++ x) (is ++ js) ≡ spread i.place out is ++ spread (length out) (out ++ x) js = spread_more i.place out x is js n h.1 k in
    rw (a, b) (simp append_assoc)

-- and so octets alone do
pub spread_append : (p : ℕ) (out o : Octets) (is : List Piece) → Ascends p is (length out) → spread p (out ++ o) is ≡ spread p out is ++ o
spread_append p out o is h =
    let a : spread p (out ++ o) (is ++ []) ≡ spread p out is ++ drop (length out) (out ++ o) = spread_more p out o is [] (length out) h (omega arith) in
    ap (λ (z : List Piece). spread p (out ++ o) z) (sym (append-nil is)) ∙ a ∙ ap (λ (z : Octets). spread p out is ++ z) (drop_at out o (length out) refl)

-- ---- slots

pub filled_at : (is : List Piece) (i : Piece) (js : List Piece) (n : ℕ) (o : Octets) → n ≡ length is → filled (is ++ i ∷ js) n o ≡ is ++ record { place = i.place; octets = o } ∷ js
filled_at [] i js zero o e = refl
filled_at [] i js (suc n) o e = absurd (omega (arith, e))
filled_at (x ∷ is) i js zero o e = absurd (omega (arith, e))
filled_at (x ∷ is) i js (suc n) o e = ap (λ (z : List Piece). x ∷ z) (filled_at is i js n o (omega (arith, e)))

pub filled_total : (is : List Piece) (n : ℕ) (o : Octets) (d : Piece) → n < length is → length (get_or is n d).octets ≤ total is × (total (filled is n o) ≡ (total is - length (get_or is n d).octets) + length o)
filled_total [] n o d h = absurd (omega arith)
filled_total (i ∷ is) zero o d h = (omega arith, omega arith)
filled_total (i ∷ is) (suc n) o d h = let r = filled_total is n o d (omega (arith, h)) in (omega (arith, r.0), omega (arith, r.0, r.1))

-- ---- a front alone

pub total_cut : (n : ℕ) (is : List Piece) → total is ≡ total (take n is) + total (drop n is)
total_cut n is = ap total (sym (take-append-drop n is)) ∙ total_append (take n is) (drop n is)

-- ---- a piece among others

pub spread_split : (p : ℕ) (out : Octets) (es : List Piece) (i : Piece) (bs : List Piece) → Ascends p es i.place → i.place ≤ length out → spread p out (es ++ i ∷ bs) ≡ spread p (take i.place out) es ++ (i.octets ++ spread i.place out bs)
spread_split p out [] i bs h l =
    let q : p + (i.place - p) ≡ i.place = omega (arith, h) in
    let e : drop p (take (p + (i.place - p)) out) ≡ take (i.place - p) (drop p out) = drop-take p (i.place - p) out in
    let f : drop p (take i.place out) ≡ take (i.place - p) (drop p out) = rw q at e in
    rw f refl
spread_split p out (a ∷ es) i bs h l =
    let r : a.place ≤ i.place = ascends_le a.place es i.place h.1 in
    let n : length (take i.place out) ≡ i.place = length-take-le i.place out l in
    let s : a.place ≤ length (take i.place out) = omega arith in
    let j : take (a.place - p) (drop p (take i.place out ++ drop i.place out)) ≡ take (a.place - p) (drop p (take i.place out)) = drop_part p a.place (take i.place out) (drop i.place out) h.0 s in
    let k : take i.place out ++ drop i.place out ≡ out = take-append-drop i.place out in
    let f : take (a.place - p) (drop p out) ≡ take (a.place - p) (drop p (take i.place out)) = rw k at j in
    let e : spread a.place out (es ++ i ∷ bs) ≡ spread a.place (take i.place out) es ++ (i.octets ++ spread i.place out bs) = spread_split a.place out es i bs h.1 l in
    rw (e, f) (simp append_assoc)
