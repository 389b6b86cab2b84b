-- What is written in an encoder that was lent, within an output and its pieces.
use Rattle.std.specs.Prelude.{⊤, IfErr, OnErr, OnOk}
use Rattle.std.proofs.Common.{◌≡◌, ℕ, ◌+◌, ◌-◌, ◌≤◌, Bool, true, false, List, [], ◌∷◌, ◌++◌, length, take, drop, refl, ap, ap₂, sym, ◌∙◌, subst, Ok, Err, Result, arith, append_assoc, append-nil, length-append}
use Rattle.std.proofs.lemmas.List.{take_at, drop_at}
use Rattle.asn1_core.specs.Octets.{Octets}
use Rattle.asn1_core.specs.declared.error.EncodeErrorKind.{EncodeErrorKind}
use Rattle.asn1_core.specs.declared.error.EncodeErrorKind.TheVariants.{OutOfMemory}
use Rattle.oer_write.specs.Held.{marks, pieces_in, shut_at, Holds, IsInFront, Leaves, Kept}
use Rattle.oer_write.specs.Layout.{Piece, slots, spread, total, merged, Ascends, Adds}
use Rattle.asn1_core.specs.declared.error.EncodeError.{EncodeError}
use Rattle.oer_spec.specs.Encoding.{canonical_octets}
use Rattle.oer_spec.specs.Tree.{Tree}
use Rattle.oer_spec.specs.Writing.{AppendsOrMemory, BeginsWith}
use Rattle.oer_write.specs.Written.{Written, Keeps, Encodes, Refused, append, fresh}
use Rattle.oer_write.proofs.Holding.{gained, kept_of, pieces_marked, whole_same}
use Rattle.oer_write.proofs.Regions.{merged_length}
use Rattle.oer_write.proofs.Layouts.{ascends_join, ascends_lower, spread_from}

-- ---- kept

pub kept_same : (o p : Octets) (is js : List Piece) → p ≡ o → js ≡ is → Kept o is p js
kept_same o p is js e f = record { rear = []; begins = ([], e ∙ sym (append-nil o)); more = f ∙ sym (append-nil is) }

pub kept_less : (o p : Octets) (is more js : List Piece) → Kept o (is ++ more) p js → Kept o is p js
kept_less o p is more js k = record { rear = more ++ k.rear; begins = k.begins; more = k.more ∙ append_assoc is more k.rear }

pub kept_alike : (o p q : Octets) (is js ks : List Piece) → Kept o is p js → q ≡ p → ks ≡ js → Kept o is q ks
kept_alike o p q is js ks k e f = record { rear = k.rear; begins = (k.begins.0, e ∙ k.begins.1); more = f ∙ k.more }

pub kept_cut : (o p q : Octets) (is js ks : List Piece) (m n : ℕ) → Kept o is p js → m ≡ length o → n ≡ length is → q ≡ take m p → ks ≡ take n js → (q ≡ o) × (ks ≡ is)
kept_cut o p q is js ks m n k a b e f = (e ∙ ap (take m) k.begins.1 ∙ take_at o k.begins.0 m (sym a), f ∙ ap (take n) k.more ∙ take_at is k.rear n (sym b))

-- ---- a scope of its own

module _ (extensible is_set : Bool) (e : Written) (mid old : Octets) (ps is : List Piece) (made : e ≡ record { octets = merged mid ps; frame = fresh is_set extensible (length (merged mid ps)); outer = marks false true ps }) (u : mid ≡ old) (q : ps ≡ is) (asc : Ascends 0 ps (length mid)) where
  opened_whole : merged mid ps ≡ merged old is
  opened_whole = ap₂ merged u q

  opened_octets : e.octets ≡ merged old is
  opened_octets = ap (λ (w : Written). w.octets) made ∙ opened_whole

  opened_start : e.frame.start ≡ length (merged old is)
  opened_start = ap (λ (w : Written). w.frame.start) made ∙ ap length opened_whole

  opened_outer : e.outer ≡ marks false true is
  opened_outer = ap (λ (w : Written). w.outer) made ∙ ap (marks false true) q

  opened_ascends : Ascends 0 is (length old)
  opened_ascends = subst (λ (z : List Piece). Ascends 0 z (length old)) q (subst (λ (z : Octets). Ascends 0 ps (length z)) u asc)

  pub opened_adds : (e' : Written) (x o : Octets) (js : List Piece) → Keeps e e' → Holds (append x e') o js → (content : Octets) → e'.octets ≡ e.octets ++ content → Adds (content ++ x) old is o js
  opened_adds e' x o js k h content w = gained e e' x o old is js false true opened_octets opened_start opened_outer opened_ascends k h content w

  pub opened_kept : {T : Type 0} (r : Result T EncodeErrorKind) (e' : Written) (x o : Octets) (js : List Piece) → Keeps e e' → OnOk r (Holds (append x e') o js) → IfErr r (λ k. (k ≡ OutOfMemory) × Leaves e' o js) → Kept old is o js
  opened_kept {T} (Ok t) e' x o js k h l = let a = opened_adds e' x o js k h k.octets.0 k.octets.1 in record { rear = a.rear; begins = a.begins; more = a.more }
  opened_kept {T} (Err y) e' x o js k h l = kept_of e e' o old is js false true opened_octets opened_start opened_outer opened_ascends k l.1

-- ---- an encoder that is lent

module _ (inside : Bool) (e : Written) (old : Octets) (ps is : List Piece) (made : e ≡ record { octets = merged old ps; frame = shut_at (length (merged old ps)); outer = marks true inside ps }) (q : ps ≡ is) (asc : Ascends 0 ps (length old)) where
  lent_outer : e.outer ≡ marks true inside is
  lent_outer = ap (λ (w : Written). w.outer) made ∙ ap (marks true inside) q

  pub lent_adds : (e' : Written) (o : Octets) (js : List Piece) → Keeps e e' → Holds e' o js → (content : Octets) → e'.octets ≡ e.octets ++ content → Adds content old is o js
  lent_adds e' o js k h content w =
      let whole_is : merged old ps ≡ merged old is = ap (merged old) q in
      let a = gained e e' [] o old is js true inside (ap (λ (v : Written). v.octets) made ∙ whole_is) (ap (λ (v : Written). v.frame.start) made ∙ ap length whole_is) lent_outer (subst (λ (z : List Piece). Ascends 0 z (length old)) q asc) k (record { rear = h.rear; base = h.base; front = h.front; start = h.start; inside = h.inside; before = h.before; ascends = h.ascends; octets = append-nil e'.octets ∙ h.octets }) content w in
      subst (λ (z : Octets). Adds z old is o js) (append-nil content) a

  pub lent_kept : (e' : Written) (o : Octets) (js : List Piece) → Keeps e e' → Holds e' o js → Kept old is o js
  lent_kept e' o js k h = let a = lent_adds e' o js k h k.octets.0 k.octets.1 in record { rear = a.rear; begins = a.begins; more = a.more }

-- ---- as a scope is opened

pub taken_ascends : (inside : Bool) (o mid : Octets) (is ps : List Piece) → Ascends 0 is (length o) → mid ≡ o → ps ≡ is ++ slots inside (length o) → Ascends 0 ps (length mid)
taken_ascends inside o mid is ps h e f = rw (e, f) (ascends_join 0 (length o) (length o) is (slots inside (length o)) h (slot_ascends inside (length o)))
  where
    slot_ascends : (i : Bool) (n : ℕ) → Ascends n (slots i n) n
    slot_ascends true n = (omega arith, omega arith)
    slot_ascends false n = omega arith

-- ---- as a scope is closed

pub taken_adds : (inside : Bool) (start slot : ℕ) (old o : Octets) (is js : List Piece) (content : Octets) → start ≡ length old → slot ≡ length is → Adds content old (is ++ slots inside (length old)) o js
    → (take start o ≡ old) × (take slot js ≡ is) × Adds content (take start o) (take slot js ++ slots inside start) o js
taken_adds inside start slot old o is js content s n a =
    let t : take start o ≡ old = ap (take start) a.begins.1 ∙ take_at old a.begins.0 start (sym s) in
    let u : take slot js ≡ is = ap (take slot) (a.more ∙ append_assoc is (slots inside (length old)) a.rear) ∙ take_at is (slots inside (length old) ++ a.rear) slot (sym n) in
    (t, u, subst (λ (z : Octets). Adds content z (take slot js ++ slots inside start) o js) (sym t) (subst (λ (z : List Piece). Adds content old z o js) (ap₂ (λ (y : List Piece) (m : ℕ). y ++ slots inside m) (sym u) (sym s)) a))

pub taken_long : (inside : Bool) (start slot : ℕ) (old o : Octets) (is js : List Piece) (content : Octets) → start ≡ length old → slot ≡ length is → Adds content old (is ++ slots inside (length old)) o js → (start ≤ length o) × (slot ≤ length js)
taken_long inside start slot old o is js content s n a =
    (omega (arith, s, ap length a.begins.1, length-append old a.begins.0), omega (arith, n, ap length a.more, length-append (is ++ slots inside (length old)) a.rear, length-append is (slots inside (length old))))

-- ---- what a type's own writing keeps

pub tree_keeps : (t : Tree) (e e' : Written) → Encodes t e e' → Keeps e e'
tree_keeps t e e' h = record {
  octets = (canonical_octets t, ap (λ (w : Written). w.octets) h.written);
  is_open = ap (λ (w : Written). w.frame.is_open) h.written;
  is_set = ap (λ (w : Written). w.frame.is_set) h.written;
  extensible = ap (λ (w : Written). w.frame.extensible) h.written;
  start = ap (λ (w : Written). w.frame.start) h.written;
  outer = ap (λ (w : Written). w.outer) h.written;
}

pub tree_wrote : (t : Tree) (e e' : Written) (r : Result ⊤ EncodeError) → OnOk r (Encodes t e e') → IfErr r (λ x. Refused t x e e') → Keeps e e'
tree_wrote t e e' (Ok u) h k = tree_keeps t e e' h
tree_wrote t e e' (Err x) h k = k.keeps

-- ---- octets in front of what was added

pub adds_behind : (old mid front x p : Octets) (is js : List Piece) → mid ≡ old ++ front → Adds x mid is p js → Adds (front ++ x) old is p js
adds_behind old mid front x p is js e a =
    let everything : p ≡ old ++ (front ++ a.begins.0) = a.begins.1 ∙ ap (λ (z : Octets). z ++ a.begins.0) e ∙ append_assoc old front a.begins.0 in
    let n : length mid ≡ length old + length front = omega (arith, ap length e, length-append old front) in
    let s : spread (length old) p a.rear ≡ take (length mid - length old) (drop (length old) p) ++ spread (length mid) p a.rear = spread_from (length old) (length mid) p a.rear (length p) (omega (arith, n)) a.ascends in
    let t : take (length mid - length old) (drop (length old) p) ≡ front = ap (take (length mid - length old)) (ap (drop (length old)) everything ∙ drop_at old (front ++ a.begins.0) (length old) refl) ∙ take_at front a.begins.0 (length mid - length old) (omega (arith, n)) in
    record {
      rear = a.rear;
      begins = (front ++ a.begins.0, everything);
      more = a.more;
      ascends = ascends_lower (length old) (length mid) a.rear (length p) (omega (arith, n)) a.ascends;
      adds = s ∙ ap₂ (λ (y z : Octets). y ++ z) t a.adds;
    }

pub kept_behind : (old mid front p : Octets) (is js : List Piece) → mid ≡ old ++ front → Kept mid is p js → Kept old is p js
kept_behind old mid front p is js e k = record { rear = k.rear; begins = (front ++ k.begins.0, k.begins.1 ∙ ap (λ (z : Octets). z ++ k.begins.0) e ∙ append_assoc old front k.begins.0); more = k.more }

pub adds_alike : (x o p q : Octets) (is js ks : List Piece) → p ≡ o → js ≡ is → Adds x p js q ks → Adds x o is q ks
adds_alike x o p q is js ks e f a = subst (λ (z : Octets). Adds x z is q ks) e (subst (λ (z : List Piece). Adds x p z q ks) f a)

pub kept_front : (o p q : Octets) (is js ks : List Piece) → p ≡ o → js ≡ is → Kept p js q ks → Kept o is q ks
kept_front o p q is js ks e f a = subst (λ (z : Octets). Kept z is q ks) e (subst (λ (z : List Piece). Kept p z q ks) f a)

-- ---- sets

pub set_front : (is_set extensible : Bool) (e e' : Written) (front old : Octets) (ps : List Piece) → e ≡ record { octets = merged old ps; frame = fresh is_set extensible (length (merged old ps)); outer = marks false true ps } → Keeps e e' → Ascends 0 ps (length old) → IsInFront e' front → front ≡ old
set_front is_set extensible e e' front old ps made k asc h =
    let outer : pieces_in e'.outer ≡ ps = ap pieces_in (k.outer ∙ ap (λ (w : Written). w.outer) made) ∙ pieces_marked false true ps in
    let start : e'.frame.start ≡ length (merged old ps) = k.start ∙ ap (λ (w : Written). w.frame.start) made in
    let everything : e'.octets ≡ merged old ps ++ k.octets.0 = k.octets.1 ∙ ap (λ (w : Written). w.octets ++ k.octets.0) made in
    let n : length front ≡ length old = (let s = h.start in let u = ap total outer in let m = merged_length old ps asc in omega (arith, s, start, u, m)) in
    whole_same front old ps n (rw n asc) (ap (merged front) (sym outer) ∙ sym h.octets ∙ ap₂ take start everything ∙ take_at (merged old ps) k.octets.0 (length (merged old ps)) refl)

pub set_pieces : (is_set extensible : Bool) (e e' : Written) (old : Octets) (ps : List Piece) → e ≡ record { octets = merged old ps; frame = fresh is_set extensible (length (merged old ps)); outer = marks false true ps } → Keeps e e' → pieces_in e'.outer ≡ ps
set_pieces is_set extensible e e' old ps made k = ap pieces_in (k.outer ∙ ap (λ (w : Written). w.outer) made) ∙ pieces_marked false true ps

pub set_begins : (r : Result ⊤ EncodeErrorKind) (x old front new : Octets) → front ≡ old → AppendsOrMemory r x front new → BeginsWith old new
set_begins (Ok u) x old front new e h = (x, h ∙ ap (λ (z : Octets). z ++ x) e)
set_begins (Err k) x old front new e h = (h.1.0, h.1.1 ∙ ap (λ (z : Octets). z ++ h.1.0) e)

pub begins_or : {T E P : Type 0} (r : Result T E) (old new : Octets) → (P → BeginsWith old new) → OnOk r P → OnErr r (new ≡ old) → BeginsWith old new
begins_or {T} {E} {P} (Ok t) old new f h e = f h
begins_or {T} {E} {P} (Err y) old new f h e = ([], e ∙ sym (append-nil old))

-- ---- where no pieces are left

nil_of : (is : List Piece) → length is ≡ 0 → is ≡ []
nil_of [] e = refl
nil_of (i ∷ is) e = absurd (omega (arith, e))

pub adds_alone : (x o p : Octets) (is js : List Piece) → js ≡ [] → Adds x o is p js → p ≡ o ++ x
adds_alone x o p is js e a =
    let n : a.rear ≡ [] = nil_of a.rear (omega (arith, ap length e, ap length a.more, length-append is a.rear)) in
    let d : drop (length o) p ≡ x = ap (λ (ps : List Piece). spread (length o) p ps) (sym n) ∙ a.adds in
    let y : a.begins.0 ≡ x = sym (ap (drop (length o)) a.begins.1 ∙ drop_at o a.begins.0 (length o) refl) ∙ d in
    a.begins.1 ∙ ap (λ (z : Octets). o ++ z) y

pub keeps_append : (x : Octets) (e e' : Written) → e' ≡ append x e → Keeps e e'
keeps_append x e e' h = record {
  octets = (x, ap (λ (w : Written). w.octets) h);
  is_open = ap (λ (w : Written). w.frame.is_open) h;
  is_set = ap (λ (w : Written). w.frame.is_set) h;
  extensible = ap (λ (w : Written). w.frame.extensible) h;
  start = ap (λ (w : Written). w.frame.start) h;
  outer = ap (λ (w : Written). w.outer) h;
}

pub adds_alone_ok : {T E : Type 0} (r : Result T E) (x o p : Octets) (is js : List Piece) → OnOk r (js ≡ []) → OnOk r (Adds x o is p js) → OnOk r (p ≡ o ++ x)
adds_alone_ok {T} {E} (Ok u) x o p is js e a = adds_alone x o p is js e a
adds_alone_ok {T} {E} (Err y) x o p is js e a = tt
