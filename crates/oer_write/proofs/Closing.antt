-- How a scope's additions are closed.
use Rattle.std.proofs.Common.{◌≡◌, ℕ, ◌-◌, ◌<◌, ◌≤◌, Bool, true, false, cond, not, ◌&&◌, List, [], ◌∷◌, ◌++◌, length, take, drop, refl, ap, ap₂, sym, ◌∙◌, arith, append_assoc, append-nil}
use Rattle.std.proofs.lemmas.List.{take-append-le, drop-append-le, take-append-drop, length-take-le, take_all, drop_all, take-take}
use Rattle.asn1_core.specs.Octets.{Octets}
use Rattle.oer_spec.specs.Lengths.{counted_bits}
use Rattle.oer_spec.specs.Writing.{BeginsWith}
use Rattle.oer_write.specs.Layout.{Piece, free_at, spread, filled, Ascends}
use Rattle.oer_write.specs.Closed.{ClosedOff, FrontLeft}
use Rattle.oer_write.specs.Scopes.{IsNew, any_true, extension_of}
use Rattle.oer_write.specs.declared.region.Region.{Region}
use Rattle.oer_write.specs.declared.scopes.Scope.{Scope}
use Rattle.oer_write.specs.Seen.{around, within, opens_in, IsLaid}
use Rattle.oer_write.specs.Written.{Written, WriteFrame, fresh}
use Rattle.oer_write.proofs.Layouts.{ascends_le, ascends_join, spread_split, filled_at}
use Rattle.oer_write.proofs.Regions.{opened_around, same_region, later_of, places, append_split}

-- an encoder that was opened has a new scope
pub opened_new : (is_set extensible : Bool) (o : Octets) (outer : List WriteFrame) (e : Written) → e ≡ record { octets = o; frame = fresh is_set extensible (length o); outer = outer } → IsNew is_set extensible e
opened_new is_set extensible o outer e h = ap (λ (w : Written). w.frame) h ∙ ap (λ (w : Written). fresh is_set extensible (length w.octets)) (sym h)

false_right : (a b : Bool) → b ≡ true → (a && not b) ≡ false
false_right true b e = ap not e
false_right false b e = refl

-- the additions of a set lie apart
pub apart : (o : Octets) (is : List Piece) (s : Scope) → s.is_set ≡ true → opens_in o is s ≡ s.opens.items
apart o is s e = ap (λ (b : Bool). cond b (within s.region o is) s.opens.items) (false_right s.is_open s.is_set e)

-- ---- the front stays

front_taken : (r s : Region) (o p : Octets) (is js : List Piece) → IsLaid r (length o) is → IsLaid s (length p) js → s.base ≡ r.base → around s p js ≡ around r o is → take r.base p ≡ take r.base o
unfolding around
front_taken r s o p is js l m b e =
    let q = places r (length o) is l in
    let t = places s (length p) js m in
    let x : length (take r.base o) ≡ r.base = length-take-le r.base o (omega (arith, q.0, q.1.0, q.1.1)) in
    let y : length (take s.base p) ≡ s.base = length-take-le s.base p (omega (arith, t.0, t.1.0, t.1.1)) in
    ap (λ (n : ℕ). take n p) (sym b) ∙ (append_split (take s.base p) _ (take r.base o) _ e (omega (arith, x, y, b))).0

pub front_left : (r s : Region) (o p q : Octets) (is js ks : List Piece) → IsLaid r (length o) is → IsLaid s (length p) js → s.base ≡ r.base → around s p js ≡ around r o is → take r.first js ≡ take r.first is → BeginsWith p q → ks ≡ js → FrontLeft r o is q ks
front_left r s o p q is js ks l m b e f g h = record {
  begins = (drop r.base p ++ g.0, g.1 ∙ ap (λ (z : Octets). z ++ g.0) (sym (take-append-drop r.base p) ∙ ap (λ (z : Octets). z ++ drop r.base p) (front_taken r s o p is js l m b e)) ∙ append_assoc (take r.base o) (drop r.base p) g.0);
  front = ap (take r.first) h ∙ f;
}

-- what was closed has its front
pub closed_front : (r : Region) (bits : List Bool) (o p q : Octets) (is js : List Piece) → IsLaid r (length o) is → ClosedOff r bits o is p js → BeginsWith p q → FrontLeft r o is q js
unfolding around
closed_front r bits o p q is js l c g =
    let t = places r (length o) is l in
    let x : length (take r.base o) ≡ r.base = length-take-le r.base o (omega (arith, t.0, t.1.0, t.1.1)) in
    let w : r.base ≤ length p = ascends_le r.base (drop r.first js) (length p) c.ascends in
    let y : length (take r.base p) ≡ r.base = length-take-le r.base p w in
    let s = append_split (take r.base p) (spread r.base p (drop r.first js)) (take r.base o) _ (c.octets ∙ append_assoc (take r.base o) _ _) (omega (arith, x, y)) in
    record {
      begins = (drop r.base p ++ g.0, g.1 ∙ ap (λ (z : Octets). z ++ g.0) (sym (take-append-drop r.base p) ∙ ap (λ (z : Octets). z ++ drop r.base p) s.0) ∙ append_assoc (take r.base o) (drop r.base p) g.0);
      front = c.front;
    }

-- what is closed of what is seen alike is closed
pub closed_alike : (r s : Region) (bits : List Bool) (o p q : Octets) (is js ks : List Piece) → s.base ≡ r.base → s.first ≡ r.first → around s p js ≡ around r o is → within s p js ≡ within r o is → take r.first js ≡ take r.first is → ClosedOff s bits p js q ks → ClosedOff r bits o is q ks
closed_alike r s bits o p q is js ks b f e w t c = record {
  front = ap (λ (n : ℕ). take n ks) (sym f) ∙ c.front ∙ ap (λ (n : ℕ). take n js) f ∙ t;
  ascends = rw (b, f) at c.ascends;
  octets = sym (ap₂ (λ (x y : ℕ). take x q ++ spread x q (drop y ks)) b f) ∙ c.octets ∙ ap₂ (λ (x y : Octets). x ++ extension_of bits y) e w;
}

-- ---- no addition was begun, and none is present
pub closed_none : (r : Region) (bits : List Bool) (o : Octets) (is : List Piece) → IsLaid r (length o) is → r.last ≡ r.first → any_true bits ≡ false → ClosedOff r bits o is o is
closed_none r bits o is l e f =
    let s = same_region r (length o) is l e in
    let a : around r o is ≡ take r.base o ++ spread r.base o (drop r.first is) = ap (λ (x : Region). around x o is) s ∙ opened_around r.base r.first o is in
    let n : r.end ≡ r.base = l.none e in
    record {
      front = refl;
      ascends = (let k = later_of r (length o) is l in rw (n, e) at k);
      octets = sym a ∙ sym (append-nil (around r o is)) ∙ ap (λ (b : Bool). around r o is ++ cond b (counted_bits bits ++ within r o is) []) (sym f);
    }

-- ---- additions were begun: nothing stands behind them
module _ (r : Region) (bits : List Bool) (o : Octets) (is : List Piece) (l : IsLaid r (length o) is) (e : r.end ≡ length o) (f : r.last ≡ length is) where
  roots : List Piece
  roots = drop r.first (take r.opens is)

  whole : take r.last is ≡ is
  whole = take_all r.last is (omega (arith, f))

  end_all : take r.end o ≡ o
  end_all = take_all r.end o (omega (arith, e))

  around_is : around r o is ≡ take r.base o ++ spread r.base (take r.start o) roots
  unfolding around roots
  around_is =
      let a : drop r.last is ≡ [] = drop_all r.last is (omega (arith, f)) in
      let b : drop r.end o ≡ [] = drop_all r.end o (omega (arith, e)) in
      let d : around r o is ≡ take r.base o ++ (spread r.base (take r.start o) roots ++ spread r.end o (drop r.last is)) = refl in
      d ∙ rw (a, b, append-nil) refl

  -- none is present
  pub closed_cut : (p : Octets) (js : List Piece) → any_true bits ≡ false → p ≡ take r.start o → js ≡ take r.opens is → ClosedOff r bits o is p js
  unfolding roots
  closed_cut p js none h k =
      let q = places r (length o) is l in
      let n : length (take r.start o) ≡ r.start = length-take-le r.start o (omega (arith, q.1.0, q.1.1)) in
      let a : take r.base p ≡ take r.base o = ap (take r.base) h ∙ take-take r.base r.start o q.0 in
      record {
        front = ap (take r.first) k ∙ take-take r.first r.opens is l.first;
        ascends = rw (h, k, n) l.roots;
        octets = ap (λ (x : Octets). x ++ spread r.base p (drop r.first js)) a ∙ ap₂ (λ (x : Octets) (ps : List Piece). take r.base o ++ spread r.base x (drop r.first ps)) h k ∙ sym around_is
            ∙ sym (append-nil (around r o is)) ∙ ap (λ (b : Bool). around r o is ++ cond b (counted_bits bits ++ within r o is) []) (sym none);
      }

  -- the bitmap's slot is free
  pub bitmap_free : r.first < r.last → (front rear : List Piece) × (n : ℕ) × (is ≡ front ++ free_at n ∷ rear) × (r.opens ≡ length front)
  bitmap_free g =
      let b = l.begun g in
      let behind : drop r.opens is ≡ free_at r.start ∷ b.0 = ap (drop r.opens) (sym whole) ∙ b.1 in
      let m : length (take r.opens is) ≡ r.opens = length-take-le r.opens is (let x = l.opens in let y = l.last in omega (arith, x, y)) in
      (take r.opens is, b.0, r.start, sym (take-append-drop r.opens is) ∙ ap (λ (z : List Piece). take r.opens is ++ z) behind, sym m)

  -- the bitmap fills its slot
  pub closed_filled : (js : List Piece) → r.first < r.last → any_true bits ≡ true → js ≡ filled is r.opens (counted_bits bits) → ClosedOff r bits o is o js
  unfolding within roots
  closed_filled js g some h =
      let q = places r (length o) is l in
      let b = l.begun g in
      let behind : drop r.opens is ≡ free_at r.start ∷ b.0 = ap (drop r.opens) (sym whole) ∙ b.1 in
      let m : length (take r.opens is) ≡ r.opens = length-take-le r.opens is (let x = l.opens in let y = l.last in omega (arith, x, y)) in
      let parts : is ≡ take r.opens is ++ free_at r.start ∷ b.0 = sym (take-append-drop r.opens is) ∙ ap (λ (z : List Piece). take r.opens is ++ z) behind in
      let p : Piece = record { place = r.start; octets = counted_bits bits } in
      let made : js ≡ take r.opens is ++ p ∷ b.0 = h ∙ ap (λ (z : List Piece). filled z r.opens (counted_bits bits)) parts ∙ filled_at (take r.opens is) (free_at r.start) b.0 r.opens (counted_bits bits) (sym m) in
      let front : take r.first js ≡ take r.first is = ap (take r.first) made ∙ take-append-le r.first (take r.opens is) (p ∷ b.0) (omega (arith, m, l.first)) ∙ take-take r.first r.opens is l.first in
      let rear : drop r.first js ≡ roots ++ p ∷ b.0 = ap (drop r.first) made ∙ drop-append-le r.first (take r.opens is) (p ∷ b.0) (omega (arith, m, l.first)) in
      let added : Ascends r.start (free_at r.start ∷ b.0) r.end = rw b.1 at l.added in
      let asc : Ascends r.base (roots ++ p ∷ b.0) (length o) = ascends_join r.base r.start (length o) roots (p ∷ b.0) l.roots (omega arith, rw e at added.1) in
      let split : spread r.base o (roots ++ p ∷ b.0) ≡ spread r.base (take r.start o) roots ++ (counted_bits bits ++ spread r.start o b.0) = spread_split r.base o roots p b.0 l.roots (omega (arith, q.1.0, q.1.1)) in
      let z : r.start - r.start ≡ 0 = omega arith in
      let w : within r o is ≡ spread r.start o b.0 = (let d : within r o is ≡ spread r.start (take r.end o) (drop r.opens (take r.last is)) = refl in d ∙ ap₂ (λ (x : Octets) (ps : List Piece). spread r.start x ps) end_all b.1 ∙ rw z refl) in
      record {
        front = front;
        ascends = rw rear asc;
        octets = ap (λ (ps : List Piece). take r.base o ++ spread r.base o ps) rear ∙ ap (λ (x : Octets). take r.base o ++ x) split ∙ sym (append_assoc (take r.base o) (spread r.base (take r.start o) roots) _)
            ∙ ap (λ (x : Octets). x ++ (counted_bits bits ++ spread r.start o b.0)) (sym around_is) ∙ ap (λ (x : Octets). around r o is ++ (counted_bits bits ++ x)) (sym w)
            ∙ ap (λ (c : Bool). around r o is ++ cond c (counted_bits bits ++ within r o is) []) (sym some);
      }

-- a front of what has the same front
pub front_again : (r s : Region) (o p q : Octets) (is js ks : List Piece) → IsLaid r (length o) is → IsLaid s (length p) js → s.base ≡ r.base → s.first ≡ r.first → around s p js ≡ around r o is → take r.first js ≡ take r.first is → FrontLeft s p js q ks → FrontLeft r o is q ks
front_again r s o p q is js ks l m b f e g h = record {
  begins = (h.begins.0, h.begins.1 ∙ ap (λ (z : Octets). z ++ h.begins.0) (ap (λ (n : ℕ). take n p) b ∙ front_taken r s o p is js l m b e));
  front = ap (λ (n : ℕ). take n ks) (sym f) ∙ h.front ∙ ap (λ (n : ℕ). take n js) f ∙ g;
}
