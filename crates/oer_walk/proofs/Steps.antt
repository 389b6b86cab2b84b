-- Walks taken apart and put together.
use Rattle.std.proofs.lemmas.Bool.{lt-ltb}
use Rattle.std.proofs.Common.{◌≡◌, ℕ, zero, suc, ◌+◌, ◌-◌, ◌<◌, true, false, List, [], ◌∷◌, ◌++◌, length, set, Result, Ok, Err, refl, sym, ap, subst, ◌∙◌, arith, length-append}
use Rattle.asn1_core.specs.Octets.{Octets}
use Rattle.asn1_core.specs.declared.error.DecodeErrorKind.{DecodeErrorKind}
use Rattle.asn1_core.specs.declared.error.DecodeErrorKind.TheVariants.{ExceedsMaxParseDepth}
use Rattle.oer_walk.specs.Tables.{form_of}
use Rattle.oer_walk.specs.Walks.{Walk, Extent, done, stopped, reads, onto, goes_on, behind, node_of, noded, left_of, from, content_at, overlay, IsWalk, Resumes, is_leaf, leaf_at, scope_by, value_at, within_by, part_by, part_at}
use Rattle.oer_walk.specs.declared.nodes.Node.{Node}
use Rattle.oer_walk.specs.declared.places.Place.{Place}
use Rattle.oer_walk.specs.declared.places.Scope.{Scope}
use Rattle.oer_walk.specs.declared.places.Stop.{Stop}

-- ---- nodes
pub overlay_append : (room : List Node) (n m : ℕ) (xs ys : List Node) → m ≡ n + length xs → overlay room n (xs ++ ys) ≡ overlay (overlay room n xs) m ys
overlay_append room n m [] ys e = let s : n ≡ m = omega (arith, e) in ap (λ (k : ℕ). overlay room k ys) s
overlay_append room n m (x ∷ xs) ys e = overlay_append (set room n x) (n + 1) m xs ys (omega (arith, e))

set_apart : (l : List Node) (i j : ℕ) (x y : Node) → i < j → set (set l j y) i x ≡ set (set l i x) j y
set_apart [] i j x y lt = refl
set_apart (z ∷ l) i zero x y lt = absurd (omega arith)
set_apart (z ∷ l) zero (suc j) x y lt = refl
set_apart (z ∷ l) (suc i) (suc j) x y lt = ap (λ (t : List Node). z ∷ t) (set_apart l i j x y (omega arith))

pub overlay_put : (room : List Node) (n m : ℕ) (x : Node) (xs : List Node) → n < m → set (overlay room m xs) n x ≡ overlay (set room n x) m xs
overlay_put room n m x [] lt = refl
overlay_put room n m x (y ∷ ys) lt = overlay_put (set room m y) n (m + 1) x ys (omega arith) ∙ ap (λ (r : List Node). overlay r (m + 1) ys) (set_apart room n m x y lt)

-- ---- functions that answer as walks do
pub walk_done : {X A : Type 0} (view : X → A) (x : X) (y : A) (n : ℕ) (a : List Node) → y ≡ view x → IsWalk view (Ok x) n n a a (done y)
walk_done view x y n a e = record { answer = ap (λ z. Ok z) e; count = omega arith; nodes = refl }

pub walk_stopped : {X A : Type 0} (view : X → A) (s : Stop) (at : ℕ) (kind : DecodeErrorKind) (n : ℕ) (a : List Node) → s ≡ record { place = at; kind = kind } → IsWalk view (Err s) n n a a (stopped at kind)
walk_stopped view s at kind n a e = record { answer = ap (λ (z : Stop). Err z) (sym e); count = omega arith; nodes = refl }

pub walk_read : {X A B : Type 0} (view : X → B) (r : Result X Stop) (n m : ℕ) (a b : List Node) (at : ℕ) (read : Result A DecodeErrorKind) (x : A) (f : A → Walk B) → read ≡ Ok x → IsWalk view r n m a b (f x) → IsWalk view r n m a b (reads at read f)
walk_read {X} {A} view r n m a b at read x f e w = subst (λ (z : Result A DecodeErrorKind). IsWalk view r n m a b (reads at z f)) (sym e) w

pub walk_refused : {X A B : Type 0} (view : X → B) (s : Stop) (n : ℕ) (a : List Node) (at : ℕ) (read : Result A DecodeErrorKind) (kind : DecodeErrorKind) (f : A → Walk B) → read ≡ Err kind → s ≡ record { place = at; kind = kind } → IsWalk view (Err s) n n a a (reads at read f)
walk_refused {X} {A} view s n a at read kind f e is = subst (λ (z : Result A DecodeErrorKind). IsWalk view (Err s) n n a a (reads at z f)) (sym e) (walk_stopped view s at kind n a is)

pub behind_ok : {A B : Type 0} (w : Walk A) (x : A) (n m : ℕ) (f : ℕ → A → Walk B) → w.answer ≡ Ok x → m ≡ n + length w.nodes → behind n w f ≡ onto w.nodes (f m x)
behind_ok {A} w x n m f e c = ap (λ (z : Result A Stop). goes_on w.nodes z n f) e ∙ ap (λ (k : ℕ). onto w.nodes (f k x)) (sym c)

pub behind_err : {A B : Type 0} (w : Walk A) (s : Stop) (n : ℕ) (f : ℕ → A → Walk B) → w.answer ≡ Err s → behind n w f ≡ record { nodes = w.nodes; answer = Err s }
behind_err {A} w s n f e = ap (λ (z : Result A Stop). goes_on w.nodes z n f) e

-- a function that goes on behind one
pub walk_behind : {X Y A B : Type 0} (view : X → A) (view' : Y → B) (x : X) (r : Result Y Stop) (n m k : ℕ) (a b c : List Node) (w : Walk A) (f : ℕ → A → Walk B) → IsWalk view (Ok x) n m a b w → IsWalk view' r m k b c (f m (view x)) → IsWalk view' r n k a c (behind n w f)
walk_behind view view' x r n m k a b c w f g h =
    subst (IsWalk view' r n k a c) (sym (behind_ok w (view x) n m f g.answer g.count)) (record {
      answer = h.answer;
      count = let l = length-append w.nodes (f m (view x)).nodes in let i = g.count in let j = h.count in omega (arith, l, i, j);
      nodes = h.nodes ∙ ap (λ (z : List Node). overlay z m (f m (view x)).nodes) g.nodes ∙ sym (overlay_append a n m w.nodes (f m (view x)).nodes g.count);
    })

-- and one that doesn't
pub walk_cut : {X Y A B : Type 0} (view : X → A) (view' : Y → B) (s : Stop) (n m : ℕ) (a b : List Node) (w : Walk A) (f : ℕ → A → Walk B) → IsWalk view (Err s) n m a b w → IsWalk view' (Err s) n m a b (behind n w f)
walk_cut view view' s n m a b w f g = subst (IsWalk view' (Err s) n m a b) (sym (behind_err w s n f g.answer)) (record { answer = refl; count = g.count; nodes = g.nodes })

-- where a value's content begins
pub walk_from : {X Y : Type 0} (view : X → Octets) (view' : Y → ℕ × Octets) (x : X) (y : Y) (n m at : ℕ) (a b : List Node) (w : Walk Octets) → view' y ≡ (at, view x) → IsWalk view (Ok x) n m a b w → IsWalk view' (Ok y) n m a b (from at w)
walk_from view view' x y n m at a b w e g = record { answer = ap (content_at at) g.answer ∙ ap (λ (z : ℕ × Octets). Ok z) (sym e); count = g.count; nodes = g.nodes }

pub walk_from_cut : {X Y : Type 0} (view : X → Octets) (view' : Y → ℕ × Octets) (s : Stop) (n m at : ℕ) (a b : List Node) (w : Walk Octets) → IsWalk view (Err s) n m a b w → IsWalk view' (Err s) n m a b (from at w)
walk_from_cut view view' s n m at a b w g = record { answer = ap (content_at at) g.answer; count = g.count; nodes = g.nodes }

-- a part's own node, in front of those inside it
pub walk_noded : {X Y : Type 0} (view : X → Extent) (view' : Y → Octets) (x : X) (y : Y) (ws : List ℕ) (p : Place) (n m at : ℕ) (a b c : List Node) (w : Walk Extent) (node : Node) → view' y ≡ (view x).2 → node ≡ node_of ws p at (Ok (view x)) → c ≡ set b n node → IsWalk view (Ok x) (n + 1) m a b w → IsWalk view' (Ok y) n m a c (noded ws p at w)
walk_noded view view' x y ws p n m at a b c w node e f put g =
    let s : node_of ws p at w.answer ≡ node = ap (node_of ws p at) g.answer ∙ sym f in
    record {
      answer = ap left_of g.answer ∙ ap (λ (z : Octets). Ok z) (sym e);
      count = let i = g.count in omega (arith, i);
      nodes = put ∙ ap (λ (z : List Node). set z n node) g.nodes ∙ overlay_put a n (n + 1) node w.nodes (omega arith) ∙ ap (λ (z : Node). overlay (set a n z) (n + 1) w.nodes) (sym s);
    }

pub walk_noded_cut : {X Y : Type 0} (view : X → Extent) (view' : Y → Octets) (s : Stop) (ws : List ℕ) (p : Place) (n m at : ℕ) (a b c : List Node) (w : Walk Extent) (node : Node) → node ≡ node_of ws p at (Err s) → c ≡ set b n node → IsWalk view (Err s) (n + 1) m a b w → IsWalk view' (Err s) n m a c (noded ws p at w)
walk_noded_cut view view' s ws p n m at a b c w node f put g =
    let is : node_of ws p at w.answer ≡ node = ap (node_of ws p at) g.answer ∙ sym f in
    record {
      answer = ap left_of g.answer;
      count = let i = g.count in omega (arith, i);
      nodes = put ∙ ap (λ (z : List Node). set z n node) g.nodes ∙ overlay_put a n (n + 1) node w.nodes (omega arith) ∙ ap (λ (z : Node). overlay (set a n z) (n + 1) w.nodes) (sym is);
    }

-- ---- loops
pub resumes_start : {A : Type 0} (n : ℕ) (a : List Node) (w v : Walk A) → w ≡ v → Resumes n a w n a v
resumes_start {A} n a w v e = subst (Resumes n a w n a) e (record { answer = refl; count = refl; nodes = refl })

pub resumes_step : {X A B : Type 0} (view : X → A) (x : X) (i n m : ℕ) (a b c : List Node) (whole left : Walk B) (w : Walk A) (f : ℕ → A → Walk B) → Resumes i a whole n b left → left ≡ behind n w f → IsWalk view (Ok x) n m b c w → Resumes i a whole m c (f m (view x))
resumes_step view x i n m a b c whole left w f r e g =
    let s = e ∙ behind_ok w (view x) n m f g.answer g.count in
    record {
      answer = r.answer ∙ ap (λ (z : Walk _). z.answer) s;
      count = let j = r.count in let k = ap (λ (z : Walk _). length z.nodes) s in let l = length-append w.nodes (f m (view x)).nodes in let o = g.count in omega (arith, j, k, l, o);
      nodes = r.nodes ∙ ap (λ (z : Walk _). overlay b n z.nodes) s ∙ overlay_append b n m w.nodes (f m (view x)).nodes g.count ∙ ap (λ (z : List Node). overlay z m (f m (view x)).nodes) (sym g.nodes);
    }

pub resumes_end : {X A : Type 0} (view : X → A) (r : Result X Stop) (i n m : ℕ) (a b c : List Node) (whole left : Walk A) → Resumes i a whole n b left → IsWalk view r n m b c left → IsWalk view r i m a c whole
resumes_end view (Ok x) i n m a b c whole left s g = record { answer = s.answer ∙ g.answer; count = let j = s.count in let k = g.count in omega (arith, j, k); nodes = g.nodes ∙ sym s.nodes }
resumes_end view (Err x) i n m a b c whole left s g = record { answer = s.answer ∙ g.answer; count = let j = s.count in let k = g.count in omega (arith, j, k); nodes = g.nodes ∙ sym s.nodes }

-- ---- values
pub value_leaf : (ws : List ℕ) (d : ℕ) (s : Scope) (n : ℕ) (input : Octets) → is_leaf (form_of ws s.type_number) ≡ true → value_at ws d s n input ≡ reads s.start (leaf_at (form_of ws s.type_number) input) (λ x. done (s.end - length x.0, x.1))
unfolding value_at
value_leaf ws zero s n input e = rw e refl
value_leaf ws (suc d) s n input e = rw e refl

pub value_too_deep : (ws : List ℕ) (d : ℕ) (s : Scope) (n : ℕ) (input : Octets) → is_leaf (form_of ws s.type_number) ≡ false → d ≡ 0 → value_at ws d s n input ≡ stopped s.start ExceedsMaxParseDepth
unfolding value_at
value_too_deep ws zero s n input e z = rw e refl
value_too_deep ws (suc d) s n input e z = absurd (omega arith)

pub value_scope : (ws : List ℕ) (d k : ℕ) (s : Scope) (n : ℕ) (input : Octets) → is_leaf (form_of ws s.type_number) ≡ false → d ≡ k + 1 → value_at ws d s n input ≡ scope_by (part_at ws k) ws (form_of ws s.type_number) s n input
unfolding value_at
value_scope ws zero k s n input e z = absurd (omega arith)
value_scope ws (suc d) k s n input e z = let i : d ≡ k = omega arith in rw e (ap (λ (j : ℕ). scope_by (part_at ws j) ws (form_of ws s.type_number) s n input) i)

-- ---- functions that walk values and parts
module _ (ws : List ℕ) (d : ℕ) where
  pub leaf_walked : {X : Type 0} (view : X → ℕ × Octets) (x : X) (s : Scope) (n : ℕ) (a : List Node) (input : Octets) (z : Octets × Octets) → is_leaf (form_of ws s.type_number) ≡ true → leaf_at (form_of ws s.type_number) input ≡ Ok z → view x ≡ (s.end - length z.0, z.1) → IsWalk view (Ok x) n n a a (value_at ws d s n input)
  leaf_walked view x s n a input z leaf e is =
      subst (IsWalk view (Ok x) n n a a) (sym (value_leaf ws d s n input leaf))
      (walk_read view (Ok x) n n a a s.start (leaf_at (form_of ws s.type_number) input) z (λ x. done (s.end - length x.0, x.1)) e (walk_done view x (s.end - length z.0, z.1) n a (sym is)))

  pub leaf_refused : {X : Type 0} (view : X → ℕ × Octets) (stop : Stop) (s : Scope) (n : ℕ) (a : List Node) (input : Octets) (kind : DecodeErrorKind) → is_leaf (form_of ws s.type_number) ≡ true → leaf_at (form_of ws s.type_number) input ≡ Err kind → stop ≡ record { place = s.start; kind = kind } → IsWalk view (Err stop) n n a a (value_at ws d s n input)
  leaf_refused view stop s n a input kind leaf e is =
      subst (IsWalk view (Err stop) n n a a) (sym (value_leaf ws d s n input leaf))
      (walk_refused view stop n a s.start (leaf_at (form_of ws s.type_number) input) kind (λ x. done (s.end - length x.0, x.1)) e is)

  pub too_deep : {X : Type 0} (view : X → ℕ × Octets) (stop : Stop) (s : Scope) (n : ℕ) (a : List Node) (input : Octets) → is_leaf (form_of ws s.type_number) ≡ false → d ≡ 0 → stop ≡ record { place = s.start; kind = ExceedsMaxParseDepth } → IsWalk view (Err stop) n n a a (value_at ws d s n input)
  too_deep view stop s n a input leaf z is = subst (IsWalk view (Err stop) n n a a) (sym (value_too_deep ws d s n input leaf z)) (walk_stopped view stop s.start ExceedsMaxParseDepth n a is)

  pub scope_walked : {X : Type 0} (view : X → ℕ × Octets) (r : Result X Stop) (k : ℕ) (s : Scope) (n m : ℕ) (a b : List Node) (input : Octets) → is_leaf (form_of ws s.type_number) ≡ false → d ≡ k + 1 → IsWalk view r n m a b (scope_by (part_at ws k) ws (form_of ws s.type_number) s n input) → IsWalk view r n m a b (value_at ws d s n input)
  scope_walked view r k s n m a b input leaf e g = subst (IsWalk view r n m a b) (sym (value_scope ws d k s n input leaf e)) g

  part_few : (p : Place) (n : ℕ) (input : Octets) → n < p.most → part_at ws d p n input ≡ noded ws p (p.end - length input) (within_by (value_at ws d) ws p n input)
  unfolding part_by
  part_few p n input lt = rw (lt-ltb n p.most lt) refl

  pub part_walked : {X Y : Type 0} (view : X → Extent) (view' : Y → Octets) (r : Result X Stop) (x : X) (y : Y) (p : Place) (n m o : ℕ) (a b c : List Node) (input : Octets) (node : Node) → n < p.most → o ≡ n → r ≡ Ok x → view' y ≡ (view x).2 → node ≡ node_of ws p (p.end - length input) (Ok (view x)) → c ≡ set b n node → IsWalk view r (n + 1) m a b (within_by (value_at ws d) ws p o input) → IsWalk view' (Ok y) n m a c (part_at ws d p n input)
  part_walked {X} view view' r x y p n m o a b c input node lt same ok is e f g =
      subst (IsWalk view' (Ok y) n m a c) (sym (part_few p n input lt))
      (walk_noded view view' x y ws p n m (p.end - length input) a b c (within_by (value_at ws d) ws p n input) node is e f
      (subst (λ (z : ℕ). IsWalk view (Ok x) (n + 1) m a b (within_by (value_at ws d) ws p z input)) same (subst (λ (z : Result X Stop). IsWalk view z (n + 1) m a b (within_by (value_at ws d) ws p o input)) ok g)))

  pub part_cut : {X Y : Type 0} (view : X → Extent) (view' : Y → Octets) (r : Result X Stop) (stop : Stop) (p : Place) (n m o : ℕ) (a b c : List Node) (input : Octets) (node : Node) → n < p.most → o ≡ n → r ≡ Err stop → node ≡ node_of ws p (p.end - length input) (Err stop) → c ≡ set b n node → IsWalk view r (n + 1) m a b (within_by (value_at ws d) ws p o input) → IsWalk view' (Err stop) n m a c (part_at ws d p n input)
  part_cut {X} view view' r stop p n m o a b c input node lt same err e f g =
      subst (IsWalk view' (Err stop) n m a c) (sym (part_few p n input lt))
      (walk_noded_cut view view' stop ws p n m (p.end - length input) a b c (within_by (value_at ws d) ws p n input) node e f
      (subst (λ (z : ℕ). IsWalk view (Err stop) (n + 1) m a b (within_by (value_at ws d) ws p z input)) same (subst (λ (z : Result X Stop). IsWalk view z (n + 1) m a b (within_by (value_at ws d) ws p o input)) err g)))
