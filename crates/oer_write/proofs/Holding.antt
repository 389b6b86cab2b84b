-- What an encoder gives back.
use Rattle.std.proofs.Common.{◌≡◌, ℕ, ◌+◌, ◌-◌, ◌≤◌, Bool, true, false, cond, not, ◌&&◌, ◌||◌, List, [], ◌∷◌, ◌++◌, map, length, take, drop, refl, ap, ap₂, sym, ◌∙◌, arith, append_assoc, length-append, length-drop}
use Rattle.std.proofs.lemmas.List.{take-take, take-append-drop, length-take-le, take_at, drop_at, drop_all, take_all, drop-drop}
use Rattle.asn1_core.specs.Octets.{Octets}
use Rattle.oer_write.specs.Held.{length_within, marks, pieces_in, frame_at, lent_frame, Holds, IsInFront, Leaves, Kept}
use Rattle.oer_write.specs.Layout.{Piece, spread, total, merged, Ascends, Adds}
use Rattle.oer_write.specs.Closed.{ClosedOff, FrontLeft}
use Rattle.oer_write.specs.Scopes.{extension_of}
use Rattle.oer_write.specs.Seen.{around, shown, view_of, within, IsLaid, IsSound, frame_of, opens_in}
use Rattle.oer_write.specs.Written.{Written, WriteFrame, Keeps, append}
use Rattle.oer_write.specs.declared.scopes.Scope.{Scope}
use Rattle.oer_write.specs.declared.region.Region.{Region}
use Rattle.oer_write.proofs.Layouts.{ascends_le, total_cut, spread_length}
use Rattle.oer_write.proofs.Regions.{around_long, none_around, none_within, append_split, opened_around, same_region, later_of, places, shown_more, shown_none, merged_length}

pub pieces_mapped : (is : List Piece) → pieces_in (map frame_at is) ≡ is
pieces_mapped [] = refl
pieces_mapped (i ∷ is) = ap (λ (z : List Piece). i ∷ z) (pieces_mapped is)

pub pieces_marked : (l i : Bool) (is : List Piece) → pieces_in (marks l i is) ≡ is
pieces_marked true i is = pieces_mapped is
pieces_marked false i is = pieces_mapped is

drop_on : (p k : ℕ) (o : Octets) → p ≤ k → drop (k - p) (drop p o) ≡ drop k o
drop_on p k o h = (let e : p + (k - p) ≡ k = omega (arith, h) in drop-drop (k - p) p o ∙ ap (λ (n : ℕ). drop n o) e)

-- an output is determined by it with its pieces in their places
pub spread_same : (p : ℕ) (o q : Octets) (is : List Piece) → length o ≡ length q → Ascends p is (length o) → spread p o is ≡ spread p q is → drop p o ≡ drop p q
spread_same p o q [] n a e = e
spread_same p o q (i ∷ is) n a e =
    let k = i.place - p in
    let h : i.place ≤ length o = ascends_le i.place is (length o) a.1 in
    let below : p ≤ i.place = a.0 in
    let lo : length (take k (drop p o)) ≡ k = length-take-le k (drop p o) (omega (arith, below, h, length-drop p o)) in
    let lq : length (take k (drop p q)) ≡ k = length-take-le k (drop p q) (omega (arith, below, h, n, length-drop p q)) in
    let s = append_split (take k (drop p o)) (i.octets ++ spread i.place o is) (take k (drop p q)) (i.octets ++ spread i.place q is) e (lo ∙ sym lq) in
    let t = append_split i.octets (spread i.place o is) i.octets (spread i.place q is) s.1 refl in
    let u : drop i.place o ≡ drop i.place q = spread_same i.place o q is n a.1 t.1 in
    sym (take-append-drop k (drop p o)) ∙ ap₂ (λ (x y : Octets). x ++ y) s.0 (drop_on p i.place o below ∙ u ∙ sym (drop_on p i.place q below)) ∙ take-append-drop k (drop p q)

pub whole_same : (o q : Octets) (is : List Piece) → length o ≡ length q → Ascends 0 is (length o) → merged o is ≡ merged q is → o ≡ q
whole_same o q is n a e = spread_same 0 o q is n a e

-- what was added, by what an encoder that was lent holds
pub gained : (e e' : Written) (x o : Octets) (old : Octets) (is js : List Piece) (l i : Bool) → e.octets ≡ merged old is → e.frame.start ≡ length (merged old is) → e.outer ≡ marks l i is → Ascends 0 is (length old) → Keeps e e' → Holds (append x e') o js → (content : Octets) → e'.octets ≡ e.octets ++ content → Adds (content ++ x) old is o js
gained e e' x o old is js l i a b m asc k h content w =
    let outer : pieces_in e'.outer ≡ is = ap pieces_in (k.outer ∙ m) ∙ pieces_marked l i is in
    let base : h.base ≡ length old = (let s = h.start in let t = k.start in let n = merged_length old is asc in let u = ap total outer in omega (arith, s, t, b, n, u)) in
    let n : length (take h.base o) ≡ length old = length-take-le h.base o h.inside ∙ base in
    let all : merged (take h.base o) is ++ spread h.base o h.rear ≡ merged old is ++ (content ++ x) = ap (λ (ps : List Piece). merged (take h.base o) ps ++ spread h.base o h.rear) (sym outer) ∙ sym h.octets ∙ ap (λ (z : Octets). z ++ x) (w ∙ ap (λ (z : Octets). z ++ content) a) ∙ append_assoc (merged old is) content x in
    let before : Ascends 0 is (length (take h.base o)) = rw (sym n) at asc in
    let c : length (merged (take h.base o) is) ≡ length (merged old is) = merged_length (take h.base o) is before ∙ ap (λ (y : ℕ). y + total is) n ∙ sym (merged_length old is asc) in
    let s = append_split (merged (take h.base o) is) (spread h.base o h.rear) (merged old is) (content ++ x) all c in
    let front : take h.base o ≡ old = whole_same (take h.base o) old is n before s.0 in
    record {
      rear = h.rear;
      begins = (drop h.base o, sym (take-append-drop h.base o) ∙ ap (λ (z : Octets). z ++ drop h.base o) front);
      more = h.front ∙ ap (λ (ps : List Piece). ps ++ h.rear) outer;
      ascends = rw base at h.ascends;
      adds = ap (λ (p : ℕ). spread p o h.rear) (sym base) ∙ s.1;
    }

-- and what stays of what refused
pub kept_of : (e e' : Written) (o : Octets) (old : Octets) (is js : List Piece) (l i : Bool) → e.octets ≡ merged old is → e.frame.start ≡ length (merged old is) → e.outer ≡ marks l i is → Ascends 0 is (length old) → Keeps e e' → Leaves e' o js → Kept old is o js
kept_of e e' o old is js l i a b m asc k h =
    let outer : pieces_in e'.outer ≡ is = ap pieces_in (k.outer ∙ m) ∙ pieces_marked l i is in
    let base : h.base ≡ length old = (let s = h.start in let t = k.start in let n = merged_length old is asc in let u = ap total outer in omega (arith, s, t, b, n, u)) in
    let n : length (take h.base o) ≡ length old = length-take-le h.base o h.inside ∙ base in
    let shown_front : take e'.frame.start e'.octets ≡ merged old is = ap₂ take (k.start ∙ b) (k.octets.1 ∙ ap (λ (z : Octets). z ++ k.octets.0) a) ∙ take_at (merged old is) k.octets.0 (length (merged old is)) refl in
    let before : Ascends 0 is (length (take h.base o)) = rw (sym n) at asc in
    let front : take h.base o ≡ old = whole_same (take h.base o) old is n before (ap (merged (take h.base o)) (sym outer) ∙ sym h.octets ∙ shown_front) in
    record {
      rear = h.rear;
      begins = (drop h.base o, sym (take-append-drop h.base o) ∙ ap (λ (z : Octets). z ++ drop h.base o) front);
      more = h.front ∙ ap (λ (ps : List Piece). ps ++ h.rear) outer;
    }

-- what holds was added to, and so kept
pub kept_added : (x o : Octets) (p : Octets) (is js : List Piece) → Adds x o is p js → Kept o is p js
kept_added x o p is js a = record { rear = a.rear; begins = a.begins; more = a.more }

-- ---- by the fields

base_within : (s : Scope) (l i : Bool) (o : Octets) (is : List Piece) → IsSound s l i (length o) is → s.region.base ≤ length o
base_within s l i o is h = let q = places s.region (length o) is h.laid in omega (arith, q.0, q.1.0, q.1.1)

pub around_front : (s : Scope) (l i : Bool) (o : Octets) (is : List Piece) → IsSound s l i (length o) is → take s.region.base (around s.region o is) ≡ take s.region.base o
unfolding around
around_front s l i o is h = take_at (take s.region.base o) _ s.region.base (length-take-le s.region.base o (base_within s l i o is h))

pub shut_around : (s : Scope) (l i : Bool) (o : Octets) (is : List Piece) → IsSound s l i (length o) is → s.is_open ≡ false → around s.region o is ≡ take s.region.base o ++ spread s.region.base o (drop s.region.first is)
shut_around s l i o is h e = ap (λ (r : Region). around r o is) (same_region s.region (length o) is h.laid (h.shut e)) ∙ opened_around s.region.base s.region.first o is

shut_ascends : (s : Scope) (l i : Bool) (o : Octets) (is : List Piece) → IsSound s l i (length o) is → s.is_open ≡ false → Ascends s.region.base (drop s.region.first is) (length o)
shut_ascends s l i o is h e =
    let k = later_of s.region (length o) is h.laid in
    let a : s.region.end ≡ s.region.base = h.laid.none (h.shut e) in
    rw (a, h.shut e) at k

front_pieces : (l i : Bool) (n : ℕ) (is : List Piece) → is ≡ pieces_in (marks l i (take n is)) ++ drop n is
front_pieces l i n is = sym (take-append-drop n is) ∙ ap (λ (ps : List Piece). ps ++ drop n is) (sym (pieces_marked l i (take n is)))

marked_before : (s : Scope) (l i : Bool) (w : ℕ) (is : List Piece) → IsSound s l i w is → Ascends 0 (pieces_in (marks l i (take s.region.first is))) s.region.base
marked_before s l i w is h = rw (pieces_marked l i (take s.region.first is)) h.before

marked_start : (s : Scope) (l i : Bool) (o : Octets) (is : List Piece) → (frame_of o is s).start ≡ s.region.base + total (pieces_in (marks l i (take s.region.first is)))
marked_start s l i o is = ap (λ (ps : List Piece). s.region.base + total ps) (sym (pieces_marked l i (take s.region.first is)))

-- octets in front, and behind, with the pieces in front in their places
shown_split : (b : ℕ) (o rest : Octets) (ps : List Piece) → b ≤ length o → shown b ps (take b o ++ rest) ≡ merged (take b o) ps ++ rest
unfolding shown
shown_split b o rest ps h =
    let n : length (take b o) ≡ b = length-take-le b o h in
    ap₂ (λ (x y : Octets). merged x ps ++ y) (take_at (take b o) rest b n) (drop_at (take b o) rest b n)

pub shut_holds : (s : Scope) (l i : Bool) (o : Octets) (is : List Piece) → IsSound s l i (length o) is → s.is_open ≡ false → Holds (view_of s l i o is) o is
shut_holds s l i o is h e =
    let rest = spread s.region.base o (drop s.region.first is) in
    record {
      rear = drop s.region.first is;
      base = s.region.base;
      front = front_pieces l i s.region.first is;
      start = marked_start s l i o is;
      inside = base_within s l i o is h;
      before = marked_before s l i (length o) is h;
      ascends = shut_ascends s l i o is h e;
      octets = ap (shown s.region.base (take s.region.first is)) (shut_around s l i o is h e) ∙ shown_split s.region.base o rest (take s.region.first is) (base_within s l i o is h) ∙ ap (λ (ps : List Piece). merged (take s.region.base o) ps ++ rest) (sym (pieces_marked l i (take s.region.first is)));
    }

around_length : (r : Region) (o : Octets) (is : List Piece) → IsLaid r (length o) is → length (around r o is) + length (within r o is) + total (take r.first is) ≡ length o + total is
unfolding around within
around_length r o is l =
    let q = places r (length o) is l in
    let first : r.first ≤ r.opens = l.first in
    let opens : r.opens ≤ r.last = l.opens in
    let n0 : length (take r.start o) ≡ r.start = length-take-le r.start o (omega (arith, q.1.0, q.1.1)) in
    let n1 : length (take r.end o) ≡ r.end = length-take-le r.end o (omega (arith, q.1.1)) in
    let nb : length (take r.base o) ≡ r.base = length-take-le r.base o (omega (arith, q.0, q.1.0, q.1.1)) in
    let roots : List Piece = drop r.first (take r.opens is) in
    let added : List Piece = drop r.opens (take r.last is) in
    let later : List Piece = drop r.last is in
    let a : length (spread r.base (take r.start o) roots) + r.base ≡ length (take r.start o) + total roots = spread_length r.base (take r.start o) roots (rw n0 l.roots) in
    let b : length (spread r.start (take r.end o) added) + r.start ≡ length (take r.end o) + total added = spread_length r.start (take r.end o) added (rw n1 l.added) in
    let c : length (spread r.end o later) + r.end ≡ length o + total later = spread_length r.end o later (later_of r (length o) is l) in
    let t0 : total (take r.opens is) ≡ total (take r.first (take r.opens is)) + total roots = total_cut r.first (take r.opens is) in
    let t1 : total (take r.last is) ≡ total (take r.opens (take r.last is)) + total added = total_cut r.opens (take r.last is) in
    let t2 : total is ≡ total (take r.last is) + total later = total_cut r.last is in
    let k0 : total (take r.first (take r.opens is)) ≡ total (take r.first is) = ap total (take-take r.first r.opens is first) in
    let k1 : total (take r.opens (take r.last is)) ≡ total (take r.opens is) = ap total (take-take r.opens r.last is opens) in
    let p = length-append (take r.base o) (spread r.base (take r.start o) roots ++ spread r.end o later) in
    let m = length-append (spread r.base (take r.start o) roots) (spread r.end o later) in
    omega (arith, a, b, c, t0, t1, t2, k0, k1, n0, n1, nb, p, m)

within_none : (r : Region) (o : Octets) (is : List Piece) → IsLaid r (length o) is → r.last ≡ r.first → within r o is ≡ []
within_none r o is l e = ap (λ (x : Region). within x o is) (same_region r (length o) is l e) ∙ none_within r.base r.first o is

length_in_frame : (s : Scope) (l i : Bool) (o : Octets) (is : List Piece) → IsSound s l i (length o) is → cond (s.is_open && not s.is_set) (length (opens_in o is s)) 0 ≡ length (within s.region o is)
length_in_frame s l i o is h = go s.is_open s.is_set refl refl
  where
    go : (a b : Bool) → s.is_open ≡ a → s.is_set ≡ b → cond (s.is_open && not s.is_set) (length (opens_in o is s)) 0 ≡ length (within s.region o is)
    go true false e f = rw (e, f) refl
    go true true e f = rw (e, f) (sym (ap length (within_none s.region o is h.laid (h.set f))))
    go false b e f = rw e (sym (ap length (within_none s.region o is h.laid (h.shut e))))

shown_length : (s : Scope) (l i : Bool) (o : Octets) (is : List Piece) → IsSound s l i (length o) is → length (shown s.region.base (take s.region.first is) (around s.region o is)) ≡ length (around s.region o is) + total (take s.region.first is)
unfolding shown
shown_length s l i o is h =
    let b = s.region.base in
    let a = around s.region o is in
    let n : length (take b a) ≡ b = length-take-le b a (around_long s.region o is h.laid) in
    let w = merged_length (take b a) (take s.region.first is) (rw (sym n) at h.before) in
    omega (arith, w, n, length-append (merged (take b a) (take s.region.first is)) (drop b a), length-drop b a, around_long s.region o is h.laid)

pub all_written : (s : Scope) (l i : Bool) (o : Octets) (is : List Piece) → IsSound s l i (length o) is → length o + total is ≡ length (shown s.region.base (take s.region.first is) (around s.region o is)) + length_within (frame_of o is s)
all_written s l i o is h =
    let a = around_length s.region o is h.laid in
    let b = length_in_frame s l i o is h in
    let c = shown_length s l i o is h in
    omega (arith, a, b, c)

first_set : List WriteFrame → Bool
first_set [] = true
first_set (f ∷ fs) = f.is_set

first_open : List WriteFrame → Bool
first_open [] = false
first_open (f ∷ fs) = f.is_open

pub marks_alone : (l i : Bool) (is : List Piece) → marks l i is ≡ lent_frame false ∷ [] → i ≡ false
unfolding first_set first_open
marks_alone true i is e = ap first_set e
marks_alone false i [] e = (let z : false ≡ true = ap first_open e in absurd cc)
marks_alone false i (p ∷ is) e = (let z : false ≡ true = ap first_open e in absurd cc)

pub alone_none : (s : Scope) (l i : Bool) (w n : ℕ) (is : List Piece) → IsSound s l i w is → marks l i (take n is) ≡ lent_frame false ∷ [] → is ≡ []
alone_none s l i w n is h e = h.alone (marks_alone l i (take n is) e)

marks_none : (l i : Bool) (is : List Piece) → marks l i is ≡ [] → l ≡ false
unfolding first_open
marks_none true i is e = (let z : true ≡ false = ap first_open e in absurd cc)
marks_none false i is e = refl

pub outermost_none : (s : Scope) (l i : Bool) (w n : ℕ) (is : List Piece) → IsSound s l i w is → s.is_open ≡ false → marks l i (take n is) ≡ [] → (is ≡ []) × (s.region.base ≡ 0)
outermost_none s l i w n is h e m =
    let no : (s.is_open || l) ≡ false = ap₂ (λ (a b : Bool). a || b) e (marks_none l i (take n is) m) in
    (h.alone (inside_not i (s.is_open || l) h.inner no), h.origin no)
  where
    inside_not : (i b : Bool) → (i ≡ true → b ≡ true) → b ≡ false → i ≡ false
    inside_not true b f e = (let z : true ≡ false = sym (f refl) ∙ e in absurd cc)
    inside_not false b f e = refl

-- once its additions are closed
pub closed_holds : (s : Scope) (l i : Bool) (o p : Octets) (is js : List Piece) → (s.is_open && not s.is_set) ≡ true → IsSound s l i (length o) is → ClosedOff s.region s.bitmap o is p js
    → Holds (append (extension_of s.bitmap (opens_in o is s)) (view_of s l i o is)) p js
closed_holds s l i o p is js e h c =
    let b = s.region.base in
    let ps = take s.region.first is in
    let x : Octets = extension_of s.bitmap (within s.region o is) in
    let rest = spread b p (drop s.region.first js) in
    let inside : b ≤ length p = ascends_le b (drop s.region.first js) (length p) c.ascends in
    record {
      rear = drop s.region.first js;
      base = b;
      front = front_pieces l i s.region.first js ∙ ap (λ (qs : List Piece). pieces_in (marks l i qs) ++ drop s.region.first js) c.front;
      start = marked_start s l i o is;
      inside = inside;
      before = marked_before s l i (length o) is h;
      ascends = c.ascends;
      octets = ap (λ (y : Bool). shown b ps (around s.region o is) ++ extension_of s.bitmap (cond y (within s.region o is) s.opens.items)) e
          ∙ sym (shown_more b ps (around s.region o is) x (around_long s.region o is h.laid)) ∙ ap (shown b ps) (sym c.octets) ∙ shown_split b p rest ps inside ∙ ap (λ (qs : List Piece). merged (take b p) qs ++ rest) (sym (pieces_marked l i ps));
    }

-- what is shown up to the scope's begin
pub shown_front : (s : Scope) (l i : Bool) (o : Octets) (is : List Piece) → IsSound s l i (length o) is → take (frame_of o is s).start (view_of s l i o is).octets ≡ merged (take s.region.base o) (pieces_in (marks l i (take s.region.first is)))
unfolding shown
shown_front s l i o is h =
    let b = s.region.base in
    let ps = take s.region.first is in
    let a = around s.region o is in
    let n : length (take b a) ≡ b = length-take-le b a (around_long s.region o is h.laid) in
    let w = merged_length (take b a) ps (rw (sym n) at h.before) in
    take_at (merged (take b a) ps) (drop b a) (b + total ps) (omega (arith, w, n)) ∙ ap (λ (z : Octets). merged z ps) (around_front s l i o is h) ∙ ap (merged (take b o)) (sym (pieces_marked l i ps))

pub sound_front : (s : Scope) (l i : Bool) (o : Octets) (is : List Piece) → IsSound s l i (length o) is → IsInFront (view_of s l i o is) (take s.region.base o)
sound_front s l i o is h =
    let n : length (take s.region.base o) ≡ s.region.base = length-take-le s.region.base o (base_within s l i o is h) in
    record {
      start = marked_start s l i o is ∙ ap (λ (m : ℕ). m + total (pieces_in (marks l i (take s.region.first is)))) (sym n);
      before = rw n (marked_before s l i (length o) is h);
      octets = shown_front s l i o is h;
    }

pub closed_leaves : (s : Scope) (l i : Bool) (o p : Octets) (is js : List Piece) → IsSound s l i (length o) is → FrontLeft s.region o is p js → Leaves (view_of s l i o is) p js
closed_leaves s l i o p is js h c =
    let b = s.region.base in
    let n : length (take b o) ≡ b = length-take-le b o (base_within s l i o is h) in
    let long : b ≤ length p = omega (arith, n, ap length c.begins.1, length-append (take b o) c.begins.0) in
    let same : take b p ≡ take b o = ap (take b) c.begins.1 ∙ take_at (take b o) c.begins.0 b n in
    record {
      rear = drop s.region.first js;
      base = b;
      front = front_pieces l i s.region.first js ∙ ap (λ (ps : List Piece). pieces_in (marks l i ps) ++ drop s.region.first js) c.front;
      start = marked_start s l i o is;
      inside = long;
      before = marked_before s l i (length o) is h;
      octets = shown_front s l i o is h ∙ ap (λ (z : Octets). merged z (pieces_in (marks l i (take s.region.first is)))) (sym same);
    }

-- ---- where nothing is open

bare : (s : Scope) (o : Octets) (is : List Piece) → is ≡ [] → shown s.region.base (take s.region.first is) (around s.region o is) ≡ around s.region o is
bare s o is e =
    let f : take s.region.first is ≡ [] = ap (take s.region.first) e ∙ take_all s.region.first [] (omega arith) in
    ap (λ (ps : List Piece). shown s.region.base ps (around s.region o is)) f ∙ shown_none s.region.base (around s.region o is)

pub outermost_around : (s : Scope) (l i : Bool) (o : Octets) (is : List Piece) → IsSound s l i (length o) is → s.is_open ≡ false → marks l i (take s.region.first is) ≡ [] → shown s.region.base (take s.region.first is) (around s.region o is) ≡ o
outermost_around s l i o is h e m =
    let n = outermost_none s l i (length o) s.region.first is h e m in
    let r = same_region s.region (length o) is h.laid (h.shut e) in
    bare s o is n.0 ∙ ap (λ (x : Region). around x o is) r ∙ none_around s.region.base s.region.first o is (omega (arith, ap length n.0))

pub outermost_seen : (s : Scope) (l i : Bool) (o p : Octets) (is : List Piece) → IsSound s l i (length o) is → s.is_open ≡ false → marks l i (take s.region.first is) ≡ [] → p ≡ []
    → ◌≡◌ {A = Written} (view_of s l i p is) (record { octets = []; frame = frame_of o is s; outer = marks l i (take s.region.first is) })
outermost_seen s l i o p is h e m z =
    let n = outermost_none s l i (length o) s.region.first is h e m in
    let r = same_region s.region (length o) is h.laid (h.shut e) in
    let a : shown s.region.base (take s.region.first is) (around s.region p is) ≡ p = bare s p is n.0 ∙ ap (λ (x : Region). around x p is) r ∙ none_around s.region.base s.region.first p is (omega (arith, ap length n.0)) in
    let opens : opens_in p is s ≡ opens_in o is s = ap (λ (b : Bool). cond (b && not s.is_set) (within s.region p is) s.opens.items) e ∙ sym (ap (λ (b : Bool). cond (b && not s.is_set) (within s.region o is) s.opens.items) e) in
    ap₂ (λ (x y : Octets). let w : Written = record { octets = x; frame = record (frame_of o is s) { opens = y }; outer = marks l i (take s.region.first is) } in w) (a ∙ z) opens

pub outermost_sound : (s : Scope) (l i : Bool) (o p : Octets) (is : List Piece) → IsSound s l i (length o) is → s.is_open ≡ false → marks l i (take s.region.first is) ≡ [] → p ≡ [] → IsSound s l i (length p) is
outermost_sound s l i o p is h e m z =
    let n = outermost_none s l i (length o) s.region.first is h e m in
    record {
      laid = record {
        first = h.laid.first;
        opens = h.laid.opens;
        last = h.laid.last;
        roots = h.laid.roots;
        added = h.laid.added;
        later = h.laid.later;
        inside = (let d : drop s.region.last is ≡ [] = ap (drop s.region.last) n.0 ∙ drop_all s.region.last [] (omega arith) in let a : s.region.end ≡ s.region.base = h.laid.none (h.shut e) in rw d (omega (arith, a, n.1)));
        none = h.laid.none;
        begun = h.laid.begun;
      };
      before = h.before;
      shut = h.shut;
      alone = h.alone;
      set = h.set;
      inner = h.inner;
      origin = h.origin;
      opened = h.opened;
    }

-- additions that lie elsewhere

true_left : (a b : Bool) → (a && b) ≡ true → a ≡ true
true_left true b e = refl
true_left false b e = (let z : false ≡ true = e in absurd cc)

not_set : (a b : Bool) → (a && not b) ≡ true → b ≡ true → ⊥
not_set true true e f = (let z : false ≡ true = e in absurd cc)
not_set false true e f = (let z : false ≡ true = e in absurd cc)
not_set a false e f = (let z : false ≡ true = f in absurd cc)

pub wider_sound : (s t : Scope) (l i : Bool) (w v : ℕ) (is js : List Piece) → t ≡ record { is_open = s.is_open; is_set = s.is_set; extensible = s.extensible; presence = s.presence; components = s.components; bitmap = s.bitmap; region = t.region; opens = s.opens } → (s.is_open && not s.is_set) ≡ true → IsSound s l i w is → IsLaid t.region v js → t.region.base ≡ s.region.base → t.region.first ≡ s.region.first → take s.region.first js ≡ take s.region.first is → IsSound t l i v js
wider_sound s t l i w v is js e k h m b f g =
    let is_open : s.is_open ≡ true = true_left s.is_open (not s.is_set) k in
    let same : t.is_open ≡ s.is_open = ap (λ (x : Scope). x.is_open) e in
    let ins : i ≡ true = h.opened is_open in
    record {
      laid = m;
      before = (let a : take t.region.first js ≡ take s.region.first is = ap (λ (n : ℕ). take n js) f ∙ g in rw (a, b) h.before);
      shut = λ z. (let y : true ≡ false = sym is_open ∙ sym same ∙ z in absurd cc);
      alone = λ z. (let y : true ≡ false = sym ins ∙ z in absurd cc);
      set = λ z. absurd (not_set s.is_open s.is_set k (ap (λ (x : Scope). x.is_set) (sym e) ∙ z));
      opened = λ _. ins;
      inner = λ z. ap (λ (x : Bool). x || l) same ∙ h.inner z;
      origin = λ z. b ∙ h.origin (ap (λ (x : Bool). x || l) (sym same) ∙ z);
    }
