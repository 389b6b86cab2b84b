-- Insertions as they are stored: up to eight octets as a number, more of them among the long ones.
use Rattle.std.specs.Prelude.{nat_lt, min, OnOk, IfErr}
use Rattle.std.proofs.Common.{Result, Ok, Err}
use Rattle.asn1_core.specs.declared.error.EncodeErrorKind.{EncodeErrorKind}
use Rattle.asn1_core.specs.declared.error.EncodeErrorKind.TheVariants.{OutOfMemory}
use Rattle.std.proofs.Common.{◌≡◌, ℕ, zero, suc, ◌+◌, ◌<◌, ◌≤◌, cond, List, [], ◌∷◌, ◌++◌, length, take, drop, map, set, refl, ap, ap₂, sym, ◌∙◌, get_or, arith, length-append, length-drop, subst}
use Rattle.std.proofs.Common.{◌⊎◌, inl, inr, ltb}
use Rattle.std.proofs.lemmas.Bool.{cases_Bool, cond-true, cond-false, lt-ltb, le-ltb, ltb-true, ltb-false}
use Rattle.std.proofs.lemmas.List.{take-append-le, drop-append-le, length-take-le, drop_more, drop_at, drop_all, take_all, take-append-drop, drop-map, length-map, map-append}
use Rattle.asn1_core.specs.Numbers.{low_octets}
use Rattle.asn1_core.specs.Octets.{Octets}
use Rattle.asn1_core.proofs.Fixed.{low_length}
use Rattle.oer_write.specs.Layout.{Piece, free_at, total, filled}
use Rattle.oer_write.specs.Inserted.{octets_in, piece, counts, IsThere, AreThere}
use Rattle.oer_write.specs.declared.slots.Insertion.{Insertion}

-- ---- one

pub octets_long : (long : Octets) (i : Insertion) → 8 < i.count → octets_in long i ≡ take i.count (drop i.number long)
octets_long long i h = cond-true (nat_lt 8 i.count) _ _ (lt-ltb 8 i.count h)

pub octets_few : (long : Octets) (i : Insertion) → i.count ≤ 8 → octets_in long i ≡ low_octets i.count i.number
octets_few long i h = cond-false (nat_lt 8 i.count) _ _ (le-ltb 8 i.count h)

few_or_many : (n : ℕ) → (8 < n) ⊎ (n ≤ 8)
few_or_many n = elim (cases_Bool (ltb 8 n)) [ inl e ↦ inl (ltb-true 8 n e) | inr e ↦ inr (ltb-false 8 n e) ]

pub length_in : (long : Octets) (i : Insertion) → IsThere (length long) i → length (octets_in long i) ≡ i.count
length_in long i h = elim (few_or_many i.count) [
  | inl m ↦ (let k : i.number + i.count ≤ length long = h m in ap length (octets_long long i m) ∙ length-take-le i.count (drop i.number long) (omega (arith, k, length-drop i.number long)))
  | inr f ↦ ap length (octets_few long i f) ∙ low_length i.count i.number
]

same_in : (long more : Octets) (i : Insertion) → IsThere (length long) i → octets_in (long ++ more) i ≡ octets_in long i
same_in long more i h = elim (few_or_many i.count) [
  | inl m ↦ (
      let k : i.number + i.count ≤ length long = h m in
      let d : drop i.number (long ++ more) ≡ drop i.number long ++ more = drop-append-le i.number long more (omega (arith, k)) in
      let t : take i.count (drop i.number long ++ more) ≡ take i.count (drop i.number long) = take-append-le i.count (drop i.number long) more (omega (arith, k, length-drop i.number long)) in
      octets_long (long ++ more) i m ∙ ap (take i.count) d ∙ t ∙ sym (octets_long long i m))
  | inr f ↦ octets_few (long ++ more) i f ∙ sym (octets_few long i f)
]

pub free_count : (long : Octets) (i : Insertion) (n : ℕ) → IsThere (length long) i → piece long i ≡ free_at n → i.count ≡ 0
free_count long i n h e = sym (length_in long i h) ∙ ap (λ (p : Piece). length p.octets) e

-- ---- all of them

pub there_more : (n m : ℕ) (is : List Insertion) → n ≤ m → AreThere n is → AreThere m is
there_more n m [] h a = tt
there_more n m (i ∷ is) h a = (λ k. let l : i.number + i.count ≤ n = a.0 k in omega arith, there_more n m is h a.1)

pub there_push : (n : ℕ) (is : List Insertion) (x : Insertion) → AreThere n is → IsThere n x → AreThere n (is ++ x ∷ [])
there_push n [] x a h = (h, tt)
there_push n (i ∷ is) x a h = (a.0, there_push n is x a.1 h)

pub there_take : (n k : ℕ) (is : List Insertion) → AreThere n is → AreThere n (take k is)
there_take n zero [] a = tt
there_take n (suc k) [] a = tt
there_take n zero (i ∷ is) a = tt
there_take n (suc k) (i ∷ is) a = (a.0, there_take n k is a.1)

pub there_drop : (n k : ℕ) (is : List Insertion) → AreThere n is → AreThere n (drop k is)
there_drop n zero [] a = tt
there_drop n (suc k) [] a = tt
there_drop n zero (i ∷ is) a = a
there_drop n (suc k) (i ∷ is) a = there_drop n k is a.1

pub there_at : (n k : ℕ) (is : List Insertion) (d : Insertion) → k < length is → AreThere n is → IsThere n (get_or is k d)
there_at n k [] d h a = absurd (omega arith)
there_at n zero (i ∷ is) d h a = a.0
there_at n (suc k) (i ∷ is) d h a = there_at n k is d (omega (arith, h)) a.1

pub there_set : (n k : ℕ) (is : List Insertion) (x : Insertion) → AreThere n is → IsThere n x → AreThere n (set is k x)
there_set n zero [] x a h = tt
there_set n (suc k) [] x a h = tt
there_set n zero (i ∷ is) x a h = (h, a.1)
there_set n (suc k) (i ∷ is) x a h = (a.0, there_set n k is x a.1 h)

pub pieces_more : (long more : Octets) (is : List Insertion) → AreThere (length long) is → map (piece (long ++ more)) is ≡ map (piece long) is
pieces_more long more [] a = refl
pieces_more long more (i ∷ is) a = ap₂ (λ (o : Octets) (ps : List Piece). let w : Piece = record { place = i.place; octets = o } in w ∷ ps) (same_in long more i a.0) (pieces_more long more is a.1)

-- ---- how many octets

pub total_counts : (long : Octets) (is : List Insertion) → AreThere (length long) is → total (map (piece long) is) ≡ counts is
total_counts long [] a = refl
total_counts long (i ∷ is) a = omega (arith, length_in long i a.0, total_counts long is a.1)

pub counts_append : (is js : List Insertion) → counts (is ++ js) ≡ counts is + counts js
counts_append [] js = omega arith
counts_append (i ∷ is) js = omega (arith, counts_append is js)

pub counts_cut : (n : ℕ) (is : List Insertion) → counts is ≡ counts (take n is) + counts (drop n is)
counts_cut n is = ap counts (sym (take-append-drop n is)) ∙ counts_append (take n is) (drop n is)

pub counts_next : (is : List Insertion) (n : ℕ) (x : Insertion) → n + 1 ≤ length is → x ≡ get_or is n x → counts (drop n is) ≡ x.count + counts (drop (n + 1) is)
counts_next is n x h e = ap counts (drop_more is n x (omega (arith, h))) ∙ ap (λ (y : Insertion). y.count + counts (drop (n + 1) is)) (sym e)

pub counts_at : (is : List Insertion) (n : ℕ) (d : Insertion) → n + 1 ≤ length is → counts (drop n is) ≡ (get_or is n d).count + counts (drop (n + 1) is)
counts_at is n d h = ap counts (drop_more is n d (omega (arith, h)))

pub counts_set : (is : List Insertion) (n : ℕ) (x d : Insertion) → n < length is → counts (set is n x) + (get_or is n d).count ≡ counts is + x.count
counts_set [] n x d h = absurd (omega arith)
counts_set (i ∷ is) zero x d h = omega arith
counts_set (i ∷ is) (suc n) x d h = omega (arith, counts_set is n x d (omega (arith, h)))

pub behind_counts : (long : Octets) (n : ℕ) (is : List Insertion) → AreThere (length long) is → total (drop n (map (piece long) is)) ≡ counts (drop n is)
behind_counts long n is a = ap total (drop-map (piece long) n is) ∙ total_counts long (drop n is) (there_drop (length long) n is a)

-- ---- a slot

slot_in : (long : Octets) (is : List Insertion) (front rear : List Piece) (m n : ℕ) → map (piece long) is ≡ front ++ free_at m ∷ rear → n ≡ length front → n < length is
slot_in long is front rear m n e f = omega (arith, ap length e, length-map is (piece long), length-append front (free_at m ∷ rear), f)

first_of : Piece → List Piece → Piece
first_of d [] = d
first_of d (x ∷ xs) = x

-- a slot that is free has no octets
pub slot_count : (long : Octets) (is : List Insertion) (n : ℕ) (d : Insertion) (front rear : List Piece) (m : ℕ) → AreThere (length long) is → map (piece long) is ≡ front ++ free_at m ∷ rear → n ≡ length front → (get_or is n d).count ≡ 0
unfolding first_of
slot_count long [] n d front rear m a e f = absurd (omega (arith, ap length e, length-append front (free_at m ∷ rear)))
slot_count long (i ∷ is) zero d [] rear m a e f = free_count long i m a.0 (ap (first_of (piece long i)) e)
slot_count long (i ∷ is) (suc n) d [] rear m a e f = absurd (omega (arith, f))
slot_count long (i ∷ is) zero d (p ∷ front) rear m a e f = absurd (omega (arith, f))
slot_count long (i ∷ is) (suc n) d (p ∷ front) rear m a e f = slot_count long is n d front rear m a.1 (ap (drop 1) e) (omega (arith, f))

pub filled_set : (long : Octets) (xs : List Insertion) (n : ℕ) (x d : Insertion) (o : Octets) → n < length xs → x.place ≡ (get_or xs n d).place → octets_in long x ≡ o → map (piece long) (set xs n x) ≡ filled (map (piece long) xs) n o
filled_set long [] n x d o h e f = absurd (omega arith)
filled_set long (y ∷ xs) zero x d o h e f = ap₂ (λ (m : ℕ) (q : Octets). let w : Piece = record { place = m; octets = q } in w ∷ map (piece long) xs) e f
filled_set long (y ∷ xs) (suc n) x d o h e f = ap (λ (z : List Piece). piece long y ∷ z) (filled_set long xs n x d o (omega (arith, h)) e f)

-- a slot at another place
pub placed : (long : Octets) (xs : List Insertion) (n : ℕ) (x d : Insertion) (front rear : List Piece) (m k : ℕ) → map (piece long) xs ≡ front ++ free_at m ∷ rear → n ≡ length front → octets_in long x ≡ octets_in long (get_or xs n d) → x.place ≡ k → map (piece long) (set xs n x) ≡ front ++ free_at k ∷ rear
unfolding first_of
placed long [] zero x d [] rear m k e f o p = absurd (omega (arith, ap length e))
placed long [] (suc n) x d [] rear m k e f o p = absurd (omega (arith, f))
placed long [] n x d (i ∷ front) rear m k e f o p = absurd (omega (arith, ap length e, length-append front (free_at m ∷ rear)))
placed long (y ∷ xs) zero x d [] rear m k e f o p =
    let c0 : piece long y ≡ free_at m = ap (first_of (piece long y)) e in
    let c1 : map (piece long) xs ≡ rear = ap (drop 1) e in
    let z : octets_in long x ≡ [] = o ∙ ap (λ (q : Piece). q.octets) c0 in
    ap₂ (λ (a : ℕ) (b : Octets). let w : Piece = record { place = a; octets = b } in w ∷ map (piece long) xs) p z ∙ ap (λ (ps : List Piece). free_at k ∷ ps) c1
placed long (y ∷ xs) (suc n) x d [] rear m k e f o p = absurd (omega (arith, f))
placed long (y ∷ xs) zero x d (i ∷ front) rear m k e f o p = absurd (omega (arith, f))
placed long (y ∷ xs) (suc n) x d (i ∷ front) rear m k e f o p =
    ap₂ (λ (a : Piece) (ps : List Piece). a ∷ ps) (ap (first_of i) e) (placed long xs n x d front rear m k (ap (drop 1) e) (omega (arith, f)) o p)

-- ---- what is done to the list

pub opened_pieces : (long : Octets) (is js : List Insertion) (n : ℕ) (ps : List Piece) → js ≡ is ++ record { place = n; count = 0; number = 0 } ∷ [] → map (piece long) is ≡ ps → map (piece long) js ≡ ps ++ free_at n ∷ []
opened_pieces long is js n ps e v = ap (map (piece long)) e ∙ map-append (piece long) is (record { place = n; count = 0; number = 0 } ∷ []) ∙ ap (λ (z : List Piece). z ++ free_at n ∷ []) v

pub opened_counts : (is js : List Insertion) (n m : ℕ) → js ≡ is ++ record { place = n; count = 0; number = 0 } ∷ [] → m ≡ counts is → m ≡ counts js
opened_counts is js n m e s = omega (arith, s, ap counts e, counts_append is (record { place = n; count = 0; number = 0 } ∷ []))

pub opened_there : (k : ℕ) (is js : List Insertion) (n : ℕ) → js ≡ is ++ record { place = n; count = 0; number = 0 } ∷ [] → AreThere k is → AreThere k js
opened_there k is js n e a = subst (AreThere k) (sym e) (there_push k is (record { place = n; count = 0; number = 0 }) a (λ h. absurd (omega (arith, h))))

module _ (long : Octets) (is : List Insertion) (ps front rear : List Piece) (m slot : ℕ) (there : AreThere (length long) is) (seen : map (piece long) is ≡ ps) (free : ps ≡ front ++ free_at m ∷ rear) (at : slot ≡ length front) where
  pub slot_within : slot < length is
  slot_within = slot_in long is front rear m slot (seen ∙ free) at

  pub filled_pieces : (x d : Insertion) (o : Octets) → x.place ≡ (get_or is slot d).place → octets_in long x ≡ o → map (piece long) (set is slot x) ≡ filled ps slot o
  filled_pieces x d o e f = filled_set long is slot x d o slot_within e f ∙ ap (λ (z : List Piece). filled z slot o) seen

  pub filled_counts : (x : Insertion) → counts (set is slot x) ≡ counts is + x.count
  filled_counts x = let z = slot_count long is slot x front rear m there (seen ∙ free) at in omega (arith, counts_set is slot x x slot_within, z)

  pub filled_there : (x : Insertion) → IsThere (length long) x → AreThere (length long) (set is slot x)
  filled_there x h = there_set (length long) slot is x there h

  pub placed_pieces : (x d : Insertion) (k : ℕ) → x.count ≡ (get_or is slot d).count → x.number ≡ (get_or is slot d).number → x.place ≡ k → map (piece long) (set is slot x) ≡ front ++ free_at k ∷ rear
  placed_pieces x d k e f p = placed long is slot x d front rear m k (seen ∙ free) at (ap₂ (λ (n w : ℕ). cond (nat_lt 8 n) (take n (drop w long)) (low_octets n w)) e f) p

-- more octets among the long ones, for a slot
pub long_there : (long octets : Octets) (x : Insertion) → x.number ≡ length long → x.count ≡ length octets → IsThere (length (long ++ octets)) x
long_there long octets x e f = λ h. omega (arith, e, f, length-append long octets)

pub long_octets : (long octets : Octets) (x : Insertion) → 8 < length octets → x.number ≡ length long → x.count ≡ length octets → octets_in (long ++ octets) x ≡ octets
long_octets long octets x h e f =
    octets_long (long ++ octets) x (omega (arith, f, h)) ∙ ap₂ (λ (n w : ℕ). take n (drop w (long ++ octets))) f e ∙ ap (take (length octets)) (drop_at long octets (length long) refl) ∙ take_all (length octets) octets (omega arith)

pub long_more : (long octets : Octets) (is : List Insertion) → AreThere (length long) is → AreThere (length (long ++ octets)) is
long_more long octets is a = there_more (length long) (length (long ++ octets)) is (omega (arith, length-append long octets)) a

-- where there was no room at first
pub pushed_counted : (r : Result (Unit {0}) EncodeErrorKind) (k : ℕ) (is js : List Insertion) (n m : ℕ) → OnOk r (js ≡ is ++ record { place = n; count = 0; number = 0 } ∷ []) → IfErr r (λ x. (x ≡ OutOfMemory) × (js ≡ is)) → m ≡ counts is → AreThere k is → (m ≡ counts js) × AreThere k js
pushed_counted (Ok u) k is js n m h f s a = (opened_counts is js n m h s, opened_there k is js n h a)
pushed_counted (Err x) k is js n m h f s a = (s ∙ ap counts (sym f.1), subst (AreThere k) (sym f.1) a)

-- behind the first
pub drop_min : (n m : ℕ) (xs : List Insertion) → m ≡ min n (length xs) → drop m xs ≡ drop n xs
drop_min n m xs e = elim (cases_Bool (ltb (length xs) n)) [
  | inl b ↦ (let h : length xs < n = ltb-true (length xs) n b in drop_all m xs (omega (arith, e, h)) ∙ sym (drop_all n xs (omega (arith, h))))
  | inr b ↦ (let h : n ≤ length xs = ltb-false (length xs) n b in ap (λ (k : ℕ). drop k xs) (omega (arith, e, h)))
]
