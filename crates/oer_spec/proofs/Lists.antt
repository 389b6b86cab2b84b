-- Lists laid end to end, and lists in another order.
use Rattle.std.proofs.Common.{◌≡◌, suc, List, [], ◌∷◌, ◌++◌, length, inl, inr, refl, sym, ap, ◌∙◌, subst, arith, append_assoc}
use Rattle.std.specs.Prelude.{⊤}
use Rattle.std.specs.List.{AllByRecursion}
use Rattle.oer_spec.specs.Orders.{Stands, Reorders}

pub head_same : {X : Type 0} (c d : X) (a b : List X) → c ∷ a ≡ d ∷ b → c ≡ d
head_same c d a b e = cc

pub tail_same : {X : Type 0} (c d : X) (a b : List X) → c ∷ a ≡ d ∷ b → a ≡ b
tail_same c d a b e = cc

pub not_nil : {X : Type 0} (c : X) (a : List X) → c ∷ a ≡ [] → ⊥
not_nil c a e = cc

-- fronts of one list that are equally long
pub split_same : {X : Type 0} (a b x y : List X) → length a ≡ length b → a ++ x ≡ b ++ y → (a ≡ b) × (x ≡ y)
split_same [] [] x y l e = (refl, e)
split_same [] (d ∷ b) x y l e = absurd (omega arith)
split_same (c ∷ a) [] x y l e = absurd (omega arith)
split_same (c ∷ a) (d ∷ b) x y l e =
    let r = split_same a b x y (omega arith) (tail_same c d (a ++ x) (b ++ y) e) in
    (cc (head_same c d (a ++ x) (b ++ y) e, r.0), r.1)

-- x ++ r and y ++ s begin one list, which goes on by u and v
pub regroup : {X : Type 0} (o p a b r s x y : List X) → o ≡ a ++ r → p ≡ b ++ s → o ++ x ≡ p ++ y → a ++ (r ++ x) ≡ b ++ (s ++ y)
regroup o p a b r s x y f g e = sym (append_assoc a r x) ∙ ap (λ z. z ++ x) (sym f) ∙ e ∙ ap (λ z. z ++ y) g ∙ append_assoc b s y

-- ---- each member of a pair of lists
abbrev pub Pairwise : {X Y : Type 0} → (X → Y → Type 0) → List X → List Y → Type 0
Pairwise R [] [] = ⊤
Pairwise R (x ∷ xs) (y ∷ ys) = R x y × Pairwise R xs ys
Pairwise R _ _ = ⊥

-- ---- other orders
pub Reorders-refl : {X : Type 0} (xs : List X) → Reorders xs xs
Reorders-refl [] = refl
Reorders-refl (x ∷ xs) = (xs, inl (refl, refl), Reorders-refl xs)

pub Stands-length : {X : Type 0} (ys : List X) (x : X) (rest : List X) → Stands ys x rest → length ys ≡ suc (length rest)
Stands-length [] x rest s = absurd s
Stands-length (y ∷ ys) x rest (inl (e, f)) = ap (λ z. suc (length z)) f
Stands-length (y ∷ ys) x rest (inr (rs, f, s)) = ap suc (Stands-length ys x rs s ∙ sym (ap length f))

pub Stands-all : {X : Type 0} (P : X → Type 0) (ys : List X) (x : X) (rest : List X) → Stands ys x rest → AllByRecursion P ys → P x × AllByRecursion P rest
Stands-all P [] x rest s h = absurd s
Stands-all P (y ∷ ys) x rest (inl (e, f)) (h, hs) = (subst P e h, subst (AllByRecursion P) f hs)
Stands-all P (y ∷ ys) x rest (inr (rs, f, s)) (h, hs) =
    let r : P x × AllByRecursion P rs = Stands-all P ys x rs s hs in
    (r.0, subst (AllByRecursion P) (sym f) (h, r.1))

pub Reorders-length : {X : Type 0} (p q : List X) → Reorders p q → length p ≡ length q
Reorders-length [] q m = sym (ap length m)
Reorders-length (x ∷ p) q (rest, s, m) = ap suc (Reorders-length p rest m) ∙ sym (Stands-length q x rest s)

pub Reorders-all : {X : Type 0} (P : X → Type 0) (p q : List X) → Reorders p q → AllByRecursion P q → AllByRecursion P p
Reorders-all P [] q m h = tt
Reorders-all P (x ∷ p) q (rest, s, m) h =
    let r : P x × AllByRecursion P rest = Stands-all P q x rest s h in
    (r.0, Reorders-all P p rest m r.1)

Reorders-put : {X : Type 0} (ys : List X) (x : X) (rest q : List X) → Stands ys x rest → Reorders rest q → Reorders ys (x ∷ q)
Reorders-put [] x rest q s m = absurd s
Reorders-put (y ∷ ys) x rest q (inl (e, f)) m = (q, inl (sym e, refl), subst (λ z. Reorders z q) (sym f) m)
Reorders-put (y ∷ ys) x rest q (inr (rs, f, s)) m =
    let (z, st, more) = subst (λ z. Reorders z q) f m in
    (x ∷ z, inr (z, refl, st), Reorders-put ys x rs z s more)

pub Reorders-sym : {X : Type 0} (p q : List X) → Reorders p q → Reorders q p
Reorders-sym [] q m = subst (λ z. Reorders z []) (sym m) refl
Reorders-sym (x ∷ p) q (rest, s, m) = Reorders-put q x rest p s (Reorders-sym p rest m)

Stands-swap : {X : Type 0} (r : List X) (y x : X) (z w : List X) → Stands r y z → Stands z x w → (v : List X) × Stands r x v × Stands v y w
Stands-swap [] y x z w s t = absurd s
Stands-swap (c ∷ r) y x z w (inl (e, f)) t = (c ∷ w, inr (w, refl, subst (λ k. Stands k x w) (sym f) t), inl (e, refl))
Stands-swap {X} (c ∷ r) y x z w (inr (rs, f, s)) t = go (subst (λ k. Stands k x w) f t) (λ w' t'. Stands-swap r y x rs w' s t')
  where
    go : Stands (c ∷ rs) x w → ((w' : List X) → Stands rs x w' → (v : List X) × Stands r x v × Stands v y w') → (v : List X) × Stands (c ∷ r) x v × Stands v y w
    go (inl (e, g)) ih = (r, inl (e, refl), subst (λ k. Stands r y k) g s)
    go (inr (ws, g, u)) ih = let (v, a, b) = ih ws u in (c ∷ v, inr (v, refl, a), inr (ws, g, b))

Reorders-take : {X : Type 0} (q : List X) (x : X) (rest r : List X) → Stands q x rest → Reorders q r → (z : List X) × Stands r x z × Reorders rest z
Reorders-take [] x rest r s m = absurd s
Reorders-take (y ∷ q) x rest r (inl (e, f)) (z, st, m) = (z, subst (λ k. Stands r k z) e st, subst (λ k. Reorders k z) f m)
Reorders-take (y ∷ q) x rest r (inr (rs, f, s)) (z, st, m) =
    let (z', st', m') = Reorders-take q x rs z s m in
    let (w, a, b) = Stands-swap r y x z z' st st' in
    (w, a, subst (λ k. Reorders k w) (sym f) (z', b, m'))

pub Reorders-trans : {X : Type 0} (p q r : List X) → Reorders p q → Reorders q r → Reorders p r
Reorders-trans [] q r m n = subst (λ z. Reorders z r) m n
Reorders-trans (x ∷ p) q r (rest, s, m) n =
    let (z, t, k) = Reorders-take q x rest r s n in
    (z, t, Reorders-trans p rest z m k)
