-- What was written behind additions changes places with them.
use Rattle.std.proofs.Common.{◌≡◌, ℕ, ◌+◌, ◌-◌, ◌<◌, ◌≤◌, List, [], ◌∷◌, ◌++◌, length, take, drop, refl, ap, ap₂, sym, ◌∙◌, subst, arith, append_assoc, append-nil, length-append, length-drop}
use Rattle.std.proofs.lemmas.List.{take-append-le, drop-append-le, take-append-drop, length-take-le, take_at, drop_at, drop-drop, take_all, drop_all, take-take}
use Rattle.asn1_core.specs.Octets.{Octets}
use Rattle.oer_write.specs.Layout.{Piece, free_at, spread, total, Ascends}
use Rattle.oer_write.specs.declared.region.Region.{Region}
use Rattle.oer_write.specs.Seen.{around, within, IsLaid}
use Rattle.oer_write.proofs.Layouts.{ascends_join, ascends_more, spread_append, spread_length, spread_more, total_append}
use Rattle.oer_write.proofs.Regions.{later_of, places}

-- the additions, the bitmap's slot but for, and what follows
module _ (r : Region) (o : Octets) (is : List Piece) (l : IsLaid r (length o) is) (g : r.first < r.last) where
  pub added : List Piece
  added = (l.begun g).0

  pub later : List Piece
  later = drop r.last is

  pub added_octets : Octets
  added_octets = spread r.start (take r.end o) added

  pub later_octets : Octets
  later_octets = spread r.end o later

  end_long : length (take r.end o) ≡ r.end
  end_long = length-take-le r.end o (places r (length o) is l).1.1

  slot_is : drop r.opens (take r.last is) ≡ free_at r.start ∷ added
  unfolding added
  slot_is = (l.begun g).1

  asc_added : Ascends r.start added r.end
  unfolding added
  asc_added = (let a : Ascends r.start (free_at r.start ∷ (l.begun g).0) r.end = rw (l.begun g).1 at l.added in a.1)

  -- behind the slot
  pub rest_is : drop (r.opens + 1) is ≡ added ++ later
  unfolding added later
  rest_is =
      let opens : r.opens < r.last = (let h = length-take-le r.last is l.last in let e = ap length (l.begun g).1 in omega (arith, h, e, length-drop r.opens (take r.last is))) in
      let a : drop r.opens is ≡ drop r.opens (take r.last is) ++ drop r.last is = ap (drop r.opens) (sym (take-append-drop r.last is)) ∙ drop-append-le r.opens (take r.last is) (drop r.last is) (omega (arith, opens, length-take-le r.last is l.last)) in
      let b : drop 1 (drop r.opens is) ≡ drop (r.opens + 1) is = drop-drop 1 r.opens is in
      sym b ∙ ap (drop 1) (a ∙ ap (λ (z : List Piece). z ++ drop r.last is) (l.begun g).1)

  pub asc_rest : Ascends r.start (drop (r.opens + 1) is) (length o)
  unfolding added later
  asc_rest = (let a = ascends_join r.start r.end (length o) added later asc_added (later_of r (length o) is l) in subst (λ (ps : List Piece). Ascends r.start ps (length o)) (sym rest_is) a)

  opens_long : r.opens < r.last
  opens_long = (let h = length-take-le r.last is l.last in let e = ap length (l.begun g).1 in omega (arith, h, e, length-drop r.opens (take r.last is)))

  pub rest_size : total (drop (r.opens + 1) is) ≡ total added + total later
  rest_size = ap total rest_is ∙ total_append added later

  pub behind_less : total (drop r.last is) ≤ total (drop (r.opens + 1) is)
  unfolding later
  behind_less = omega (arith, rest_size)

  opens_short : length (take r.opens is) ≡ r.opens
  opens_short = length-take-le r.opens is (let a = l.opens in let b = l.last in omega (arith, a, b))

  pub kept_slot : take (r.opens + 1) is ≡ take r.opens is ++ free_at r.start ∷ []
  unfolding added
  kept_slot =
      let a : drop r.opens is ≡ drop r.opens (take r.last is) ++ drop r.last is = ap (drop r.opens) (sym (take-append-drop r.last is)) ∙ drop-append-le r.opens (take r.last is) (drop r.last is) (omega (arith, opens_long, length-take-le r.last is l.last)) in
      let b : is ≡ (take r.opens is ++ free_at r.start ∷ []) ++ (added ++ drop r.last is) = sym (take-append-drop r.opens is) ∙ ap (λ (z : List Piece). take r.opens is ++ z) (a ∙ ap (λ (z : List Piece). z ++ drop r.last is) (l.begun g).1) ∙ sym (append_assoc (take r.opens is) (free_at r.start ∷ []) (added ++ drop r.last is)) in
      ap (take (r.opens + 1)) b ∙ take_at (take r.opens is ++ free_at r.start ∷ []) (added ++ drop r.last is) (r.opens + 1) (omega (arith, length-append (take r.opens is) (free_at r.start ∷ []), opens_short))

  pub opens_are : r.opens ≡ length (take r.opens is)
  opens_are = sym opens_short

  module _ (o1 : Octets) (count : ℕ) (e1 : o1 ≡ take r.start o ++ spread r.start o (drop (r.opens + 1) is)) (c : count ≡ (r.end - r.start) + (total (drop (r.opens + 1) is) - total (drop r.last is))) where
    front_long : length (take r.start o) ≡ r.start
    front_long = (let q = places r (length o) is l in length-take-le r.start o (omega (arith, q.1.0, q.1.1)))

    later_asc : Ascends r.end later (length o)
    unfolding later
    later_asc = later_of r (length o) is l

    whole1 : o1 ≡ take r.start o ++ (added_octets ++ later_octets)
    unfolding added_octets later_octets
    whole1 =
        let a : spread r.start (take r.end o ++ drop r.end o) (added ++ later) ≡ spread r.start (take r.end o) added ++ spread (length (take r.end o)) (take r.end o ++ drop r.end o) later =
        spread_more r.start (take r.end o) (drop r.end o) added later (length o) (subst (λ (x : ℕ). Ascends r.start added x) (sym end_long) asc_added) (subst (λ (x : ℕ). Ascends x later (length o)) (sym end_long) later_asc) in
        let b : spread r.start o (added ++ later) ≡ spread r.start (take r.end o) added ++ spread r.end o later = ap (λ (z : Octets). spread r.start z (added ++ later)) (sym (take-append-drop r.end o)) ∙ a ∙ ap₂ (λ (x : ℕ) (z : Octets). spread r.start (take r.end o) added ++ spread x z later) end_long (take-append-drop r.end o) in
        e1 ∙ ap (λ (ps : List Piece). take r.start o ++ spread r.start o ps) rest_is ∙ ap (λ (z : Octets). take r.start o ++ z) b

    added_long : length added_octets ≡ count
    unfolding added_octets later
    added_long =
        let a = spread_length r.start (take r.end o) added (subst (λ (x : ℕ). Ascends r.start added x) (sym end_long) asc_added) in
        let q = places r (length o) is l in
        omega (arith, a, end_long, c, rest_size, q.1.0)

    pub long1 : r.start + count ≤ length o1
    long1 = omega (arith, ap length whole1, length-append (take r.start o) (added_octets ++ later_octets), length-append added_octets later_octets, front_long, added_long)

    pub long_two : (o2 : Octets) → o2 ≡ take r.start o1 ++ (drop count (drop r.start o1) ++ take count (drop r.start o1)) → (r.start ≤ length o2) × (count ≤ length o2 - r.start)
    long_two o2 e2 =
        let a : take r.start o1 ≡ take r.start o = ap (take r.start) whole1 ∙ take_at (take r.start o) (added_octets ++ later_octets) r.start front_long in
        let b : drop r.start o1 ≡ added_octets ++ later_octets = ap (drop r.start) whole1 ∙ drop_at (take r.start o) (added_octets ++ later_octets) r.start front_long in
        let d : drop count (drop r.start o1) ≡ later_octets = ap (drop count) b ∙ drop_at added_octets later_octets count added_long in
        let t : take count (drop r.start o1) ≡ added_octets = ap (take count) b ∙ take_at added_octets later_octets count added_long in
        let w : o2 ≡ take r.start o ++ (later_octets ++ added_octets) = e2 ∙ ap₂ (λ (x y : Octets). x ++ y) a (ap₂ (λ (x y : Octets). x ++ y) d t) in
        (omega (arith, ap length w, length-append (take r.start o) (later_octets ++ added_octets), front_long), omega (arith, ap length w, length-append (take r.start o) (later_octets ++ added_octets), length-append later_octets added_octets, front_long, added_long))

    module _ (o2 : Octets) (ks : List Piece) (n m : ℕ) (e2 : o2 ≡ take r.start o1 ++ (drop count (drop r.start o1) ++ take count (drop r.start o1))) (h : n ≡ r.start + (length o2 - r.start - count)) (k : m ≡ length o2) (f : ks ≡ take r.opens is ++ free_at n ∷ []) where
      abbrev pub next : Region
      next = record { base = r.base; first = r.first; start = n; opens = r.opens; end = m; last = r.opens + 1 }

      whole2 : o2 ≡ take r.start o ++ (later_octets ++ added_octets)
      whole2 =
          let a : take r.start o1 ≡ take r.start o = ap (take r.start) whole1 ∙ take_at (take r.start o) (added_octets ++ later_octets) r.start front_long in
          let b : drop r.start o1 ≡ added_octets ++ later_octets = ap (drop r.start) whole1 ∙ drop_at (take r.start o) (added_octets ++ later_octets) r.start front_long in
          let d : drop count (drop r.start o1) ≡ later_octets = ap (drop count) b ∙ drop_at added_octets later_octets count added_long in
          let t : take count (drop r.start o1) ≡ added_octets = ap (take count) b ∙ take_at added_octets later_octets count added_long in
          e2 ∙ ap₂ (λ (x y : Octets). x ++ y) a (ap₂ (λ (x y : Octets). x ++ y) d t)

      place : n ≡ length (take r.start o ++ later_octets)
      place = omega (arith, h, ap length whole2, length-append (take r.start o) (later_octets ++ added_octets), length-append later_octets added_octets, length-append (take r.start o) later_octets, front_long, added_long)

      front2 : take n o2 ≡ take r.start o ++ later_octets
      front2 = ap (take n) (whole2 ∙ sym (append_assoc (take r.start o) later_octets added_octets)) ∙ take_at (take r.start o ++ later_octets) added_octets n (sym place)

      rear2 : drop n o2 ≡ added_octets
      rear2 = ap (drop n) (whole2 ∙ sym (append_assoc (take r.start o) later_octets added_octets)) ∙ drop_at (take r.start o ++ later_octets) added_octets n (sym place)

      opens_kept : length (take r.opens is) ≡ r.opens
      opens_kept = length-take-le r.opens is (let a = l.opens in let b = l.last in omega (arith, a, b))

      roots_kept : take r.opens ks ≡ take r.opens is
      roots_kept = ap (take r.opens) f ∙ take_at (take r.opens is) (free_at n ∷ []) r.opens opens_kept

      long_ks : length ks ≡ r.opens + 1
      long_ks = omega (arith, ap length f, length-append (take r.opens is) (free_at n ∷ []), opens_kept)

      slot2 : drop r.opens (take (r.opens + 1) ks) ≡ free_at n ∷ []
      slot2 = ap (drop r.opens) (take_all (r.opens + 1) ks (omega (arith, long_ks)) ∙ f) ∙ drop_at (take r.opens is) (free_at n ∷ []) r.opens opens_kept

      base2 : take r.base o2 ≡ take r.base o
      base2 =
          let q = places r (length o) is l in
          ap (take r.base) whole2 ∙ take-append-le r.base (take r.start o) (later_octets ++ added_octets) (omega (arith, front_long, q.0)) ∙ take-take r.base r.start o q.0

      pub moved_around : around next o2 ks ≡ around r o is
      unfolding around later_octets later
      moved_around =
          let u : drop (r.opens + 1) ks ≡ [] = drop_all (r.opens + 1) ks (omega (arith, long_ks)) in
          let v : drop m o2 ≡ [] = drop_all m o2 (omega (arith, k)) in
          let s : spread r.base (take r.start o ++ later_octets) (drop r.first (take r.opens is)) ≡ spread r.base (take r.start o) (drop r.first (take r.opens is)) ++ later_octets = spread_append r.base (take r.start o) later_octets (drop r.first (take r.opens is)) (subst (λ (x : ℕ). Ascends r.base (drop r.first (take r.opens is)) x) (sym front_long) l.roots) in
          let left : around next o2 ks ≡ take r.base o2 ++ (spread r.base (take n o2) (drop r.first (take r.opens ks)) ++ spread m o2 (drop (r.opens + 1) ks)) = refl in
          let a : around next o2 ks ≡ take r.base o ++ ((spread r.base (take r.start o) (drop r.first (take r.opens is)) ++ later_octets) ++ []) = left ∙ ap₂ (λ (x y : Octets). x ++ y) base2 (ap₂ (λ (x y : Octets). x ++ y) (ap₂ (λ (x : Octets) (ps : List Piece). spread r.base x (drop r.first ps)) front2 roots_kept ∙ s) (ap (λ (ps : List Piece). spread m o2 ps) u ∙ v)) in
          a ∙ ap (λ (x : Octets). take r.base o ++ x) (append-nil (spread r.base (take r.start o) (drop r.first (take r.opens is)) ++ later_octets))

      pub moved_within : within next o2 ks ≡ within r o is
      unfolding within added_octets
      moved_within =
          let z : n - n ≡ 0 = omega arith in
          let y : r.start - r.start ≡ 0 = omega arith in
          let w : take m o2 ≡ o2 = take_all m o2 (omega (arith, k)) in
          let left : within next o2 ks ≡ spread n (take m o2) (drop r.opens (take (r.opens + 1) ks)) = refl in
          let right : within r o is ≡ spread r.start (take r.end o) (drop r.opens (take r.last is)) = refl in
          let a : within next o2 ks ≡ drop n o2 = left ∙ ap₂ (λ (x : Octets) (ps : List Piece). spread n x ps) w slot2 ∙ rw z refl in
          let b : within r o is ≡ spread r.start (take r.end o) added = right ∙ ap (λ (ps : List Piece). spread r.start (take r.end o) ps) slot_is ∙ rw y refl in
          a ∙ rear2 ∙ sym b

      pub moved_laid : IsLaid next (length o2) ks
      moved_laid =
          let u : drop (r.opens + 1) ks ≡ [] = drop_all (r.opens + 1) ks (omega (arith, long_ks)) in
          let p : r.start ≤ n = omega (arith, h) in
          let q : n ≤ m = omega (arith, k, place, ap length whole2, length-append (take r.start o) (later_octets ++ added_octets), length-append later_octets added_octets, length-append (take r.start o) later_octets) in
          record {
            first = l.first;
            opens = omega arith;
            last = omega (arith, long_ks);
            roots = rw roots_kept (ascends_more r.base (drop r.first (take r.opens is)) r.start n l.roots p);
            added = rw slot2 (omega arith, q);
            later = rw u (omega arith);
            inside = rw u (omega (arith, k));
            none = λ (x : r.opens + 1 ≡ r.first). absurd (let a = l.first in omega (arith, x, a));
            begun = λ _. ([], slot2);
          }

      pub moved_last : (m ≡ length o2) × (r.opens + 1 ≡ length ks)
      moved_last = (k, omega (arith, long_ks))

      pub moved_front : take r.first ks ≡ take r.first is
      moved_front = ap (take r.first) f ∙ take-append-le r.first (take r.opens is) (free_at n ∷ []) (omega (arith, opens_kept, l.first)) ∙ take-take r.first r.opens is l.first
