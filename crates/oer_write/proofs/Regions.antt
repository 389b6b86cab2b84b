-- A scope's octets and additions in the output, with its insertions in their places.
use Rattle.std.proofs.Common.{◌≡◌, ℕ, ◌+◌, ◌-◌, ◌<◌, ◌≤◌, Bool, true, false, cond, not, ◌&&◌, ◌||◌, List, [], ◌∷◌, ◌++◌, length, take, drop, refl, ap, ap₂, sym, ◌∙◌, subst, arith, append_assoc, append-nil, length-append}
use Rattle.std.proofs.lemmas.List.{take-take, take-append-le, drop-append-le, take-append-drop, length-take-le, take_at, drop_at, drop-take, take_all, drop_all}
use Rattle.asn1_core.specs.Octets.{Octets}
use Rattle.oer_spec.specs.Writing.{BeginsWith}
use Rattle.oer_write.specs.declared.region.Region.{Region}
use Rattle.oer_write.specs.declared.scopes.Scope.{Scope}
use Rattle.oer_write.specs.Held.{marks, shut_at}
use Rattle.oer_write.specs.Layout.{Piece, free_at, slots, filled, spread, total, top, merged, Ascends, Adds}
use Rattle.oer_write.specs.Seen.{around, shown, view_of, within, IsLaid, IsSound, opens_in, region_at}
use Rattle.oer_write.specs.Written.{append, fresh, no_scope}
use Rattle.oer_write.proofs.Layouts.{filled_at, ascends_le, ascends_join, ascends_top, ascends_more, spread_more, spread_length, total_append}

-- ---- no additions yet

pub none_around : (b n : ℕ) (o : Octets) (is : List Piece) → length is ≤ n → around (region_at b n) o is ≡ o
unfolding around
none_around b n o is h =
    let t : take n is ≡ is = take_all n is h in
    let d : drop n is ≡ [] = drop_all n is h in
    let e : drop n (take n is) ≡ [] = ap (drop n) t ∙ d in
    let f : drop b (take b o) ≡ [] = (let z : b ≡ b + 0 = omega arith in ap (λ (m : ℕ). drop b (take m o)) z ∙ drop-take b 0 o) in
    rw (e, d, f) (take-append-drop b o)

-- with insertions in their places
pub opened_around : (b n : ℕ) (o : Octets) (is : List Piece) → around (region_at b n) o is ≡ take b o ++ spread b o (drop n is)
unfolding around
opened_around b n o is =
    let z : b ≡ b + 0 = omega arith in
    let y : n ≡ n + 0 = omega arith in
    let e : drop n (take n is) ≡ [] = ap (λ (m : ℕ). drop n (take m is)) y ∙ drop-take n 0 is in
    let f : drop b (take b o) ≡ [] = ap (λ (m : ℕ). drop b (take m o)) z ∙ drop-take b 0 o in
    rw (e, f) refl

pub none_within : (b n : ℕ) (o : Octets) (is : List Piece) → within (region_at b n) o is ≡ []
unfolding within
none_within b n o is =
    let z : b ≡ b + 0 = omega arith in
    let y : n ≡ n + 0 = omega arith in
    let e : drop n (take n is) ≡ [] = ap (λ (m : ℕ). drop n (take m is)) y ∙ drop-take n 0 is in
    let f : drop b (take b o) ≡ [] = ap (λ (m : ℕ). drop b (take m o)) z ∙ drop-take b 0 o in
    rw (e, f) refl

pub none_laid : (b n w : ℕ) (is : List Piece) → b ≤ w → n ≡ length is → IsLaid (region_at b n) w is
none_laid b n w is h e =
    let y : n ≡ n + 0 = omega arith in
    let t : drop n (take n is) ≡ [] = ap (λ (m : ℕ). drop n (take m is)) y ∙ drop-take n 0 is in
    let d : drop n is ≡ [] = drop_all n is (omega (arith, e)) in
    record {
      first = omega arith;
      opens = omega arith;
      last = omega (arith, e);
      roots = rw t (omega arith);
      added = rw t (omega arith);
      later = rw d (omega arith);
      inside = rw d h;
      none = λ _. refl;
      begun = λ k. absurd (omega (arith, k));
    }

pub none_sound : (s : Scope) (l i : Bool) (w b n : ℕ) (is : List Piece) → s.region ≡ region_at b n → b ≤ w → n ≡ length is → (i ≡ false → is ≡ []) → (i ≡ true → (s.is_open || l) ≡ true) → ((s.is_open || l) ≡ false → b ≡ 0) → (s.is_open ≡ true → i ≡ true) → Ascends 0 is b → IsSound s l i w is
none_sound s l i w b n is r h e a k z y m = record {
  laid = subst (λ (x : Region). IsLaid x w is) (sym r) (none_laid b n w is h e);
  before = (let f : take n is ≡ is = take_all n is (omega (arith, e)) in subst (λ (x : Region). Ascends 0 (take x.first is) x.base) (sym r) (subst (λ (ps : List Piece). Ascends 0 ps b) (sym f) m));
  shut = λ _. ap (λ (x : Region). x.last) r ∙ sym (ap (λ (x : Region). x.first) r);
  alone = a;
  set = λ _. ap (λ (x : Region). x.last) r ∙ sym (ap (λ (x : Region). x.first) r);
  inner = k;
  origin = λ x. ap (λ (y : Region). y.base) r ∙ z x;
  opened = y;
}

-- ---- places in the output

pub later_of : (r : Region) (w : ℕ) (is : List Piece) → IsLaid r w is → Ascends r.end (drop r.last is) w
later_of r w is l = ascends_more r.end (drop r.last is) (top r.end (drop r.last is)) w l.later l.inside

pub places : (r : Region) (w : ℕ) (is : List Piece) → IsLaid r w is → (r.base ≤ r.start) × ((r.start ≤ r.end) × (r.end ≤ w))
places r w is l = (ascends_le r.base _ r.start l.roots, (ascends_le r.start _ r.end l.added, ascends_le r.end _ w (later_of r w is l)))

-- ---- what is added to the output is added to what is seen

pub grown_around : (r : Region) (o x p : Octets) (is js : List Piece) → IsLaid r (length o) is → Adds x o is p js → around r p js ≡ around r o is ++ x
unfolding around
grown_around r o x p is js l a =
    let q = places r (length o) is l in
    let y : List ℕ = a.begins.0 in
    let front : take r.base p ≡ take r.base o = ap (take r.base) a.begins.1 ∙ take-append-le r.base o y (omega (arith, q.0, q.1.0, q.1.1)) in
    let till : take r.start p ≡ take r.start o = ap (take r.start) a.begins.1 ∙ take-append-le r.start o y (omega (arith, q.1.0, q.1.1)) in
    let few : take r.opens js ≡ take r.opens is = ap (take r.opens) a.more ∙ take-append-le r.opens is a.rear (let m = l.opens in let n = l.last in omega (arith, m, n)) in
    let more : drop r.last js ≡ drop r.last is ++ a.rear = ap (drop r.last) a.more ∙ drop-append-le r.last is a.rear l.last in
    let rear : spread r.end p (drop r.last is ++ a.rear) ≡ spread r.end o (drop r.last is) ++ x =
    ap (λ (z : Octets). spread r.end z (drop r.last is ++ a.rear)) a.begins.1 ∙ spread_more r.end o y (drop r.last is) a.rear (length p) (later_of r (length o) is l) a.ascends
    ∙ ap (λ (z : Octets). spread r.end o (drop r.last is) ++ spread (length o) z a.rear) (sym a.begins.1) ∙ ap (λ (z : Octets). spread r.end o (drop r.last is) ++ z) a.adds in
    rw (front, till, few, more, rear) (simp append_assoc)

pub grown_within : (r : Region) (o x p : Octets) (is js : List Piece) → IsLaid r (length o) is → Adds x o is p js → within r p js ≡ within r o is
unfolding within
grown_within r o x p is js l a =
    let q = places r (length o) is l in
    let y : List ℕ = a.begins.0 in
    let till : take r.end p ≡ take r.end o = ap (take r.end) a.begins.1 ∙ take-append-le r.end o y q.1.1 in
    let few : take r.last js ≡ take r.last is = ap (take r.last) a.more ∙ take-append-le r.last is a.rear l.last in
    rw (till, few) refl

pub grown_front : (n : ℕ) (o x p : Octets) (is js : List Piece) → n ≤ length is → Adds x o is p js → take n js ≡ take n is
grown_front n o x p is js h a = ap (take n) a.more ∙ take-append-le n is a.rear h

grown_long : (o x p : Octets) (is js : List Piece) → Adds x o is p js → length o ≤ length p
grown_long o x p is js a = omega (arith, ap length a.begins.1, length-append o a.begins.0)

later_grown : (r : Region) (o x p : Octets) (is js : List Piece) → IsLaid r (length o) is → Adds x o is p js → Ascends r.end (drop r.last js) (length p)
later_grown r o x p is js l a =
    let more : drop r.last js ≡ drop r.last is ++ a.rear = ap (drop r.last) a.more ∙ drop-append-le r.last is a.rear l.last in
    rw more (ascends_join r.end (length o) (length p) (drop r.last is) a.rear (later_of r (length o) is l) a.ascends)

pub grown_laid : (r : Region) (o x p : Octets) (is js : List Piece) → IsLaid r (length o) is → Adds x o is p js → IsLaid r (length p) js
grown_laid r o x p is js l a =
    let few : take r.opens js ≡ take r.opens is = grown_front r.opens o x p is js (let m = l.opens in let n = l.last in omega (arith, m, n)) a in
    let fewer : take r.last js ≡ take r.last is = grown_front r.last o x p is js l.last a in
    record {
      first = l.first;
      opens = l.opens;
      last = (let n = l.last in omega (arith, n, ap length a.more, length-append is a.rear));
      roots = rw few l.roots;
      added = rw fewer l.added;
      later = (ascends_top r.end (drop r.last js) (length p) (later_grown r o x p is js l a)).0;
      inside = (ascends_top r.end (drop r.last js) (length p) (later_grown r o x p is js l a)).1;
      none = l.none;
      begun = λ k. let b = l.begun k in (b.0, ap (drop r.opens) fewer ∙ b.1);
    }

pub first_within : (r : Region) (w : ℕ) (is : List Piece) → IsLaid r w is → r.first ≤ length is
first_within r w is l = let a = l.first in let b = l.opens in let c = l.last in omega (arith, a, b, c)

pub grown_sound : (s : Scope) (l i : Bool) (o x p : Octets) (is js : List Piece) → IsSound s l i (length o) is → Adds x o is p js → (i ≡ false → js ≡ []) → IsSound s l i (length p) js
grown_sound s l i o x p is js h a k = record { laid = grown_laid s.region o x p is js h.laid a; before = subst (λ (ps : List Piece). Ascends 0 ps s.region.base) (sym (grown_front s.region.first o x p is js (first_within s.region (length o) is h.laid) a)) h.before; shut = h.shut; alone = k; set = h.set; inner = h.inner; origin = h.origin; opened = h.opened }

-- ---- what stands in front, with its pieces

pub around_long : (r : Region) (o : Octets) (is : List Piece) → IsLaid r (length o) is → r.base ≤ length (around r o is)
unfolding around
around_long r o is l =
    let q = places r (length o) is l in
    let n : length (take r.base o) ≡ r.base = length-take-le r.base o (omega (arith, q.0, q.1.0, q.1.1)) in
    let rest : Octets = spread r.base (take r.start o) (drop r.first (take r.opens is)) ++ spread r.end o (drop r.last is) in
    omega (arith, n, length-append (take r.base o) rest)

pub shown_more : (b : ℕ) (ps : List Piece) (o x : Octets) → b ≤ length o → shown b ps (o ++ x) ≡ shown b ps o ++ x
unfolding shown
shown_more b ps o x h = ap₂ (λ (y z : Octets). merged y ps ++ z) (take-append-le b o x h) (drop-append-le b o x h) ∙ sym (append_assoc (merged (take b o) ps) (drop b o) x)

pub shown_all : (b : ℕ) (ps : List Piece) (o : Octets) → b ≡ length o → shown b ps o ≡ merged o ps
unfolding shown
shown_all b ps o h = ap₂ (λ (y z : Octets). merged y ps ++ z) (take_all b o (omega (arith, h))) (drop_all b o (omega (arith, h))) ∙ append-nil (merged o ps)

pub shown_none : (b : ℕ) (o : Octets) → shown b [] o ≡ o
unfolding shown
shown_none b o = take-append-drop b o

-- an encoder's output and pieces ascend
pub laid_ascends : (r : Region) (w : ℕ) (is : List Piece) → IsLaid r w is → Ascends 0 (take r.first is) r.base → Ascends 0 is w
laid_ascends r w is l f =
    let first : r.first ≤ r.opens = l.first in
    let opens : r.opens ≤ r.last = l.opens in
    let a : Ascends 0 (take r.first (take r.opens is)) r.base = rw (take-take r.first r.opens is first) f in
    let b : Ascends 0 (take r.opens is) r.start = rw (take-append-drop r.first (take r.opens is)) at (ascends_join 0 r.base r.start (take r.first (take r.opens is)) (drop r.first (take r.opens is)) a l.roots) in
    let c : Ascends 0 (take r.opens (take r.last is)) r.start = rw (take-take r.opens r.last is opens) b in
    let d : Ascends 0 (take r.last is) r.end = rw (take-append-drop r.opens (take r.last is)) at (ascends_join 0 r.start r.end (take r.opens (take r.last is)) (drop r.opens (take r.last is)) c l.added) in
    rw (take-append-drop r.last is) at (ascends_join 0 r.end w (take r.last is) (drop r.last is) d (later_of r w is l))

pub sound_ascends : (s : Scope) (l i : Bool) (o : Octets) (is : List Piece) → IsSound s l i (length o) is → Ascends 0 is (length o)
sound_ascends s l i o is h = laid_ascends s.region (length o) is h.laid h.before

-- an encoder over what was added to
pub grown_seen : (s : Scope) (l i : Bool) (o x p : Octets) (is js : List Piece) → IsSound s l i (length o) is → Adds x o is p js → view_of s l i p js ≡ append x (view_of s l i o is)
grown_seen s l i o x p is js h a =
    let g : around s.region p js ≡ around s.region o is ++ x = grown_around s.region o x p is js h.laid a in
    let w : within s.region p js ≡ within s.region o is = grown_within s.region o x p is js h.laid a in
    let f : take s.region.first js ≡ take s.region.first is = grown_front s.region.first o x p is js (first_within s.region (length o) is h.laid) a in
    let m = shown_more s.region.base (take s.region.first is) (around s.region o is) x (around_long s.region o is h.laid) in
    rw (g, w, f, m) refl

-- ---- octets alone

alone_adds : (o x : Octets) (is : List Piece) → Adds x o is (o ++ x) is
alone_adds o x is = record { rear = []; begins = (x, refl); more = sym (append-nil is); ascends = omega (arith, length-append o x); adds = drop_at o x (length o) refl }

pub more_around : (r : Region) (o x : Octets) (is : List Piece) → IsLaid r (length o) is → around r (o ++ x) is ≡ around r o is ++ x
more_around r o x is l = grown_around r o x (o ++ x) is is l (alone_adds o x is)

pub more_shown : (r : Region) (o x : Octets) (is : List Piece) → IsLaid r (length o) is → shown r.base (take r.first is) (around r (o ++ x) is) ≡ shown r.base (take r.first is) (around r o is) ++ x
more_shown r o x is l = ap (shown r.base (take r.first is)) (more_around r o x is l) ∙ shown_more r.base (take r.first is) (around r o is) x (around_long r o is l)

pub more_within : (r : Region) (o x : Octets) (is : List Piece) → IsLaid r (length o) is → within r (o ++ x) is ≡ within r o is
more_within r o x is l = grown_within r o x (o ++ x) is is l (alone_adds o x is)

pub sound_more : (s : Scope) (l i : Bool) (o p : Octets) (is : List Piece) → IsSound s l i (length o) is → BeginsWith o p → IsSound s l i (length p) is
sound_more s l i o p is h b = subst (λ (z : Octets). IsSound s l i (length z) is) (sym b.1) (grown_sound s l i o b.0 (o ++ b.0) is is h (alone_adds o b.0 is) h.alone)

-- ---- two parts of octets

pub append_split : (a b c d : Octets) → a ++ b ≡ c ++ d → length a ≡ length c → (a ≡ c) × (b ≡ d)
append_split a b c d e l =
    (sym (take_at a b (length a) refl) ∙ ap (take (length a)) e ∙ take_at c d (length a) (sym l), sym (drop_at a b (length a) refl) ∙ ap (drop (length a)) e ∙ drop_at c d (length a) (sym l))

-- ---- a region without additions is where the scope begins

pub same_region : (r : Region) (w : ℕ) (is : List Piece) → IsLaid r w is → r.last ≡ r.first → r ≡ region_at r.base r.first
same_region r w is l e =
    let q = places r w is l in
    let a : r.end ≡ r.base = l.none e in
    let b : r.start ≡ r.base = omega (arith, q.0, q.1.0, a) in
    let c : r.opens ≡ r.first = (let m = l.first in let n = l.opens in omega (arith, m, n, e)) in
    ap (λ (x : ℕ). let z : Region = record { base = r.base; first = r.first; start = x; opens = r.opens; end = r.end; last = r.last } in z) b
    ∙ ap (λ (x : ℕ). let z : Region = record { base = r.base; first = r.first; start = r.base; opens = x; end = r.end; last = r.last } in z) c
    ∙ ap (λ (x : ℕ). let z : Region = record { base = r.base; first = r.first; start = r.base; opens = r.first; end = x; last = r.last } in z) a
    ∙ ap (λ (x : ℕ). let z : Region = record { base = r.base; first = r.first; start = r.base; opens = r.first; end = r.base; last = x } in z) e

-- a first addition begins behind all
module _ (r : Region) (o : Octets) (is js : List Piece) (n k m : ℕ) (l : IsLaid r (length o) is) (e : r.last ≡ r.first) (f : n ≡ length o) (g : k ≡ length is) (h : js ≡ is ++ free_at n ∷ []) (i : m ≡ length js) where
  abbrev pub next : Region
  next = record { base = r.base; first = r.first; start = n; opens = k; end = n; last = m }

  kept : take k js ≡ is
  kept = ap (take k) h ∙ take_at is (free_at n ∷ []) k (sym g)

  slot : drop k js ≡ free_at n ∷ []
  slot = ap (drop k) h ∙ drop_at is (free_at n ∷ []) k (sym g)

  none_behind : drop m js ≡ []
  none_behind = drop_all m js (omega (arith, i))

  everything : take m js ≡ js
  everything = take_all m js (omega (arith, i))

  pub begun_around : around next o js ≡ around r o is
  unfolding around
  begun_around =
      let a : take n o ≡ o = take_all n o (omega (arith, f)) in
      let b : drop n o ≡ [] = drop_all n o (omega (arith, f)) in
      let c : around r o is ≡ take r.base o ++ spread r.base o (drop r.first is) = ap (λ (x : Region). around x o is) (same_region r (length o) is l e) ∙ opened_around r.base r.first o is in
      let d : around next o js ≡ take r.base o ++ (spread r.base (take n o) (drop r.first (take k js)) ++ spread n o (drop m js)) = refl in
      d ∙ rw (a, kept, none_behind, b, append-nil) refl ∙ sym c

  pub begun_within : within next o js ≡ within r o is
  unfolding within
  begun_within =
      let b : drop n (take n o) ≡ [] = (let z : n ≡ n + 0 = omega arith in ap (λ (x : ℕ). drop n (take x o)) z ∙ drop-take n 0 o) in
      let c : within r o is ≡ [] = ap (λ (x : Region). within x o is) (same_region r (length o) is l e) ∙ none_within r.base r.first o is in
      let d : within next o js ≡ spread n (take n o) (drop k (take m js)) = refl in
      let z : n - n ≡ 0 = omega arith in
      d ∙ rw (everything, slot, b, z) refl ∙ sym c

  pub begun_laid : IsLaid next (length o) js
  begun_laid =
      let q = places r (length o) is l in
      let first : r.first ≤ length is = (let a = l.first in let b = l.opens in let c = l.last in omega (arith, a, b, c)) in
      let long : length js ≡ length is + 1 = omega (arith, ap length h, length-append is (free_at n ∷ [])) in
      let roots : Ascends r.base (drop r.first is) n = (let a = later_of (region_at r.base r.first) (length o) is (subst (λ (x : Region). IsLaid x (length o) is) (same_region r (length o) is l e) l) in ascends_more r.base (drop r.first is) (length o) n a (omega (arith, f))) in
      record {
        first = omega (arith, first, g);
        opens = omega (arith, long, g, i);
        last = omega (arith, i);
        roots = rw kept roots;
        added = rw (everything, slot) (omega arith, omega arith);
        later = rw none_behind (omega arith);
        inside = rw none_behind (omega (arith, f));
        none = λ (x : m ≡ r.first). absurd (omega (arith, x, first, long, i));
        begun = λ _. ([], ap (drop k) everything ∙ slot);
      }

-- ---- an encoder that is lent

pub merged_length : (o : Octets) (is : List Piece) → Ascends 0 is (length o) → length (merged o is) ≡ length o + total is
merged_length o is h = let l = spread_length 0 o is h in omega (arith, l)

pub lent_seen : (s : Scope) (i : Bool) (o : Octets) (is : List Piece) (b n : ℕ) → s.region ≡ region_at b n → b ≡ length o → n ≡ length is → s.is_open ≡ false → s.is_set ≡ false → s.extensible ≡ false → s.presence ≡ [] → s.components ≡ [] → s.bitmap ≡ [] → s.opens.items ≡ [] → Ascends 0 is (length o)
    → view_of s true i o is ≡ record { octets = merged o is; frame = shut_at (length (merged o is)); outer = marks true i is }
lent_seen s i o is b n r e f g h j k m p q asc =
    let t : take s.region.first is ≡ is = take_all s.region.first is (omega (arith, f, ap (λ (x : Region). x.first) r)) in
    let a : shown s.region.base is (around s.region o is) ≡ merged o is = ap (λ (x : Region). shown x.base is (around x o is)) r ∙ ap (shown b is) (none_around b n o is (omega (arith, f))) ∙ shown_all b is o e in
    let z : s.region.base + total is ≡ length (merged o is) = (let y = ap (λ (x : Region). x.base) r in let w = merged_length o is asc in omega (arith, y, e, w)) in
    rw (t, a, z, g, h, j, k, m, p, q) refl

-- an encoder over a buffer
pub bare_seen : (s : Scope) (o : Octets) (is : List Piece) → s.region ≡ region_at 0 0 → is ≡ [] → s.is_open ≡ false → s.is_set ≡ false → s.extensible ≡ false → s.presence ≡ [] → s.components ≡ [] → s.bitmap ≡ [] → s.opens.items ≡ []
    → view_of s false false o is ≡ record { octets = o; frame = no_scope; outer = [] }
bare_seen s o is r e g h j k m p q =
    let t : take s.region.first is ≡ [] = ap (take s.region.first) e ∙ take_all s.region.first [] (omega arith) in
    let a : shown s.region.base [] (around s.region o is) ≡ o = shown_none s.region.base (around s.region o is) ∙ ap (λ (x : Region). around x o is) r ∙ none_around 0 0 o is (omega (arith, ap length e)) in
    let z : s.region.base ≡ 0 = ap (λ (x : Region). x.base) r in
    rw (t, a, z, g, h, j, k, m, p, q) refl

either : (c : Bool) (x y : Octets) → x ≡ [] → y ≡ [] → cond c x y ≡ []
either true x y e f = e
either false x y e f = f

pub opened_seen : (s : Scope) (is_set extensible : Bool) (o : Octets) (is : List Piece) (b n : ℕ) → s.region ≡ region_at b n → b ≡ length o → n ≡ length is → s.is_open ≡ true → s.is_set ≡ is_set → s.extensible ≡ extensible → s.presence ≡ [] → s.components ≡ [] → s.bitmap ≡ [] → s.opens.items ≡ [] → Ascends 0 is (length o)
    → view_of s false true o is ≡ record { octets = merged o is; frame = fresh is_set extensible (length (merged o is)); outer = marks false true is }
unfolding within
opened_seen s is_set extensible o is b n r e f g h j k m p q asc =
    let w : within s.region o is ≡ [] = ap (λ (x : Region). within x o is) r ∙ none_within b n o is in
    let t : take s.region.first is ≡ is = take_all s.region.first is (omega (arith, f, ap (λ (x : Region). x.first) r)) in
    let a : shown s.region.base is (around s.region o is) ≡ merged o is = ap (λ (x : Region). shown x.base is (around x o is)) r ∙ ap (shown b is) (none_around b n o is (omega (arith, f))) ∙ shown_all b is o e in
    let z : s.region.base + total is ≡ length (merged o is) = (let y = ap (λ (x : Region). x.base) r in let v = merged_length o is asc in omega (arith, y, e, v)) in
    let v : opens_in o is s ≡ [] = either (s.is_open && not s.is_set) (within s.region o is) s.opens.items w q in
    rw (t, a, z, v, g, h, j, k, m, p) refl

-- ---- a scope that is closed fills its slot

no_size : (inside : Bool) (m start : ℕ) → m + total (slots inside start) ≡ m
no_size true m start = omega arith
no_size false m start = omega arith

pub filled_adds : (inside : Bool) (start n : ℕ) (o : Octets) (is : List Piece) (content octets : Octets) → inside ≡ true → n ≤ length is → start ≤ length o → Adds content (take start o) (take n is ++ slots inside start) o is → Adds (octets ++ content) (take start o) (take n is) o (filled is n octets)
filled_adds inside start n o is content octets b h k a =
    let f : length (take start o) ≡ start = length-take-le start o k in
    let g : length (take n is) ≡ n = length-take-le n is h in
    let s : slots inside start ≡ free_at start ∷ [] = ap (λ (c : Bool). slots c start) b in
    let p : Piece = record { place = start; octets = octets } in
    let m : is ≡ take n is ++ free_at start ∷ a.rear = a.more ∙ ap (λ (z : List Piece). (take n is ++ z) ++ a.rear) s ∙ append_assoc (take n is) (free_at start ∷ []) a.rear in
    let asc : Ascends start a.rear (length o) = rw f at a.ascends in
    let add : spread start o a.rear ≡ content = rw f at a.adds in
    let z : start - start ≡ 0 = omega arith in
    record {
      rear = p ∷ a.rear;
      begins = a.begins;
      more = ap (λ (q : List Piece). filled q n octets) m ∙ filled_at (take n is) (free_at start) a.rear n octets (sym g);
      ascends = rw f (omega arith, asc);
      adds = rw (f, z, add) refl;
    }

pub adds_length : (inside : Bool) (start n : ℕ) (o : Octets) (is : List Piece) (content : Octets) → start ≤ length o → Adds content (take start o) (take n is ++ slots inside start) o is → (total (take n is) ≤ total is) × (length content ≡ (length o - start) + (total is - total (take n is)))
adds_length inside start n o is content k a =
    let f : length (take start o) ≡ start = length-take-le start o k in
    let asc : Ascends start a.rear (length o) = rw f at a.ascends in
    let add : spread start o a.rear ≡ content = rw f at a.adds in
    let l = spread_length start o a.rear asc in
    let t : total is ≡ total (take n is) + total a.rear = ap total a.more ∙ total_append (take n is ++ slots inside start) a.rear ∙ ap (λ (m : ℕ). m + total a.rear) (total_append (take n is) (slots inside start) ∙ no_size inside (total (take n is)) start) in
    (omega (arith, t), omega (arith, l, t, k, ap length add))

-- ---- one more addition, behind all

module _ (r : Region) (o x p : Octets) (is js : List Piece) (n m : ℕ) (l : IsLaid r (length o) is) (e : r.end ≡ length o) (f : r.last ≡ length is) (g : r.first < r.last) (a : Adds x o is p js) (h : n ≡ length p) (k : m ≡ length js) where
  abbrev pub wider : Region
  wider = record { base = r.base; first = r.first; start = r.start; opens = r.opens; end = n; last = m }

  all_is : take r.last is ≡ is
  all_is = take_all r.last is (omega (arith, f))

  all_js : take m js ≡ js
  all_js = take_all m js (omega (arith, k))

  long_js : length js ≡ length is + length a.rear
  long_js = omega (arith, ap length a.more, length-append is a.rear)

  long_p : length o ≤ length p
  long_p = omega (arith, ap length a.begins.1, length-append o a.begins.0)

  opens_within : r.opens ≤ length is
  opens_within = let b = l.opens in omega (arith, b, f)

  pub wider_around : around wider p js ≡ around r o is
  unfolding around
  wider_around =
      let q = places r (length o) is l in
      let c : take r.base p ≡ take r.base o = ap (take r.base) a.begins.1 ∙ take-append-le r.base o a.begins.0 (omega (arith, q.0, q.1.0, q.1.1)) in
      let d : take r.start p ≡ take r.start o = ap (take r.start) a.begins.1 ∙ take-append-le r.start o a.begins.0 (omega (arith, q.1.0, q.1.1)) in
      let t : take r.opens js ≡ take r.opens is = ap (take r.opens) a.more ∙ take-append-le r.opens is a.rear opens_within in
      let u : drop m js ≡ [] = drop_all m js (omega (arith, k)) in
      let v : drop n p ≡ [] = drop_all n p (omega (arith, h)) in
      let w : drop r.last is ≡ [] = drop_all r.last is (omega (arith, f)) in
      let z : drop r.end o ≡ [] = drop_all r.end o (omega (arith, e)) in
      let left : around wider p js ≡ take r.base p ++ (spread r.base (take r.start p) (drop r.first (take r.opens js)) ++ spread n p (drop m js)) = refl in
      let right : around r o is ≡ take r.base o ++ (spread r.base (take r.start o) (drop r.first (take r.opens is)) ++ spread r.end o (drop r.last is)) = refl in
      let y : around wider p js ≡ take r.base o ++ (spread r.base (take r.start o) (drop r.first (take r.opens is)) ++ []) = left ∙ rw (c, d, t, u, v) refl in
      let x' : around r o is ≡ take r.base o ++ (spread r.base (take r.start o) (drop r.first (take r.opens is)) ++ []) = right ∙ rw (w, z) refl in
      y ∙ sym x'

  pub wider_within : within wider p js ≡ within r o is ++ x
  unfolding within
  wider_within =
      let q = places r (length o) is l in
      let rear : drop r.opens js ≡ drop r.opens is ++ a.rear = ap (drop r.opens) a.more ∙ drop-append-le r.opens is a.rear opens_within in
      let asc : Ascends r.start (drop r.opens is) (length o) = rw (all_is, e) at l.added in
      let left : within wider p js ≡ spread r.start (take n p) (drop r.opens (take m js)) = refl in
      let right : within r o is ≡ spread r.start (take r.end o) (drop r.opens (take r.last is)) = refl in
      let c : take n p ≡ p = take_all n p (omega (arith, h)) in
      let d : take r.end o ≡ o = take_all r.end o (omega (arith, e)) in
      let more : spread r.start (o ++ a.begins.0) (drop r.opens is ++ a.rear) ≡ spread r.start o (drop r.opens is) ++ spread (length o) (o ++ a.begins.0) a.rear = spread_more r.start o a.begins.0 (drop r.opens is) a.rear (length p) asc a.ascends in
      left ∙ ap₂ (λ (y : Octets) (ps : List Piece). spread r.start y (drop r.opens ps)) c all_js ∙ ap (λ (ps : List Piece). spread r.start p ps) rear
      ∙ ap (λ (y : Octets). spread r.start y (drop r.opens is ++ a.rear)) a.begins.1 ∙ more ∙ ap (λ (y : Octets). spread r.start o (drop r.opens is) ++ spread (length o) y a.rear) (sym a.begins.1)
      ∙ ap (λ (y : Octets). spread r.start o (drop r.opens is) ++ y) a.adds ∙ ap (λ (y : Octets). y ++ x) (sym (right ∙ ap₂ (λ (y : Octets) (ps : List Piece). spread r.start y (drop r.opens ps)) d all_is))

  pub wider_laid : IsLaid wider (length p) js
  wider_laid =
      let t : take r.opens js ≡ take r.opens is = ap (take r.opens) a.more ∙ take-append-le r.opens is a.rear opens_within in
      let rear : drop r.opens js ≡ drop r.opens is ++ a.rear = ap (drop r.opens) a.more ∙ drop-append-le r.opens is a.rear opens_within in
      let asc : Ascends r.start (drop r.opens is) (length o) = rw (all_is, e) at l.added in
      let u : drop m js ≡ [] = drop_all m js (omega (arith, k)) in
      let b = l.begun g in
      let everything : drop r.opens is ≡ free_at r.start ∷ b.0 = ap (drop r.opens) (sym all_is) ∙ b.1 in
      record {
        first = l.first;
        opens = omega (arith, opens_within, long_js, k);
        last = omega (arith, k);
        roots = rw t l.roots;
        added = rw (all_js, rear, h) (ascends_join r.start (length o) (length p) (drop r.opens is) a.rear asc a.ascends);
        later = rw u (omega arith);
        inside = rw u (omega (arith, h));
        none = λ (z : m ≡ r.first). absurd (omega (arith, z, g, f, long_js, k));
        begun = λ _. (b.0 ++ a.rear, ap (drop r.opens) all_js ∙ rear ∙ ap (λ (z : List Piece). z ++ a.rear) everything);
      }

-- a scope's slot is free
pub slot_free : (inside : Bool) (start n : ℕ) (is rear : List Piece) → inside ≡ true → n ≤ length is → is ≡ (take n is ++ slots inside start) ++ rear → (front behind : List Piece) × (m : ℕ) × (is ≡ front ++ free_at m ∷ behind) × (n ≡ length front)
slot_free inside start n is rear b h m =
    let s : slots inside start ≡ free_at start ∷ [] = ap (λ (c : Bool). slots c start) b in
    (take n is, rear, start, m ∙ ap (λ (z : List Piece). (take n is ++ z) ++ rear) s ∙ append_assoc (take n is) (free_at start ∷ []) rear, sym (length-take-le n is h))

-- what was added to pieces that were taken out
pub adds_from : (x o p : Octets) (is js ks : List Piece) → is ≡ ks → Adds x o is p js → Adds x o ks p js
adds_from x o p is js ks e a = subst (λ (ps : List Piece). Adds x o ps p js) e a
