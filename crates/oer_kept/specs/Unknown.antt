-- The tags with numbers of u32 that a choice doesn't know, as a list: each stands there once.
use Rattle.std.specs.Prelude.{◌≡◌, ℕ, zero, suc, ◌+◌, ◌<◌, ◌^◌, ◌++◌, ◌&&◌, ◌||◌, ◌==◌, nat_lt, Bool, true, false, cond, List, [], ◌∷◌, refl}
use Rattle.std.proofs.Common.{sym, ap, ◌∙◌, arith}
use Rattle.std.proofs.lemmas.Bool.Decides.{nat_tests}
use Rattle.asn1_core.specs.Tags.{holds, times_held, same_tag, class_number}
use Rattle.asn1_core.specs.declared.tag.Class.{Class}
use Rattle.asn1_core.specs.declared.tag.Class.TheVariants.{Universal, Application, Context, Private}
use Rattle.asn1_core.specs.declared.tag.Tag.{Tag}
use Rattle.oer_choices.specs.Choosing.{times_of_both, never_held}

-- those of a class with numbers below n
pub below : Class → ℕ → List Tag
below c zero = []
below c (suc n) = record { class = c; value = n } ∷ below c n

-- those of all classes
pub every : ℕ → List Tag
every n = below Universal n ++ (below Application n ++ (below Context n ++ below Private n))

-- those of a list that another doesn't hold
pub without : List Tag → List Tag → List Tag
without known [] = []
without known (g ∷ gs) = cond (holds known g) (without known gs) (g ∷ without known gs)

-- the tags with numbers below n that aren't among some
unfoldable pub unknown_below : ℕ → List Tag → List Tag
unknown_below n known = without known (every n)

-- those with numbers of u32
abbrev pub unknown : List Tag → List Tag
unknown known = unknown_below (2 ^ 32) known

-- ---- how often a tag stands in lists

pub held_never : (gs : List Tag) (g : Tag) → times_held gs g ≡ 0 → holds gs g ≡ false
held_never [] g e = refl
held_never (x ∷ xs) g e = go (same_tag x g) (held_never xs g) e
  where
    go : (b : Bool) → (times_held xs g ≡ 0 → holds xs g ≡ false) → cond b 1 0 + times_held xs g ≡ 0 → (b || holds xs g) ≡ false
    go true k e = absurd (omega (arith, e))
    go false k e = k (omega (arith, e))

pub held_once : (gs : List Tag) (g : Tag) → times_held gs g ≡ 1 → holds gs g ≡ true
held_once gs g e = go (holds gs g) refl
  where
    go : (b : Bool) → holds gs g ≡ b → holds gs g ≡ true
    go true f = f
    go false f = absurd (let h = never_held gs g f in omega (arith, e, h))

pub holds_of_both : (a b : List Tag) (g : Tag) → holds (a ++ b) g ≡ (holds a g || holds b g)
holds_of_both [] b g = refl
holds_of_both (x ∷ xs) b g = go (same_tag x g) (holds_of_both xs b g)
  where
    go : (s : Bool) → holds (xs ++ b) g ≡ (holds xs g || holds b g) → (s || holds (xs ++ b) g) ≡ ((s || holds xs g) || holds b g)
    go true e = refl
    go false e = e

-- ---- each tag stands once among those of all classes

one_more : (x : Bool) (n v : ℕ) → cond (x && (n == v)) 1 0 + cond (x && nat_lt v n) 1 0 ≡ cond (x && nat_lt v (suc n)) 1 0
one_more true n v = grind (arith, nat_tests)
one_more false n v = refl

none_below : (x : Bool) (v : ℕ) → ◌≡◌ {A = ℕ} 0 (cond (x && nat_lt v 0) 1 0)
none_below true v = let e : nat_lt v 0 ≡ false = grind (arith, nat_tests) in ap (λ (b : Bool). cond b 1 0) (sym e)
none_below false v = refl

times_below : (c : Class) (n : ℕ) (g : Tag) → times_held (below c n) g ≡ cond ((class_number c == class_number g.class) && nat_lt g.value n) 1 0
unfolding below
times_below c zero g = none_below (class_number c == class_number g.class) g.value
times_below c (suc n) g = ap (λ k. cond ((class_number c == class_number g.class) && (n == g.value)) 1 0 + k) (times_below c n g) ∙ one_more (class_number c == class_number g.class) n g.value

of_classes : (c : Class) (b : Bool) → cond ((0 == class_number c) && b) 1 0 + (cond ((1 == class_number c) && b) 1 0 + (cond ((2 == class_number c) && b) 1 0 + cond ((3 == class_number c) && b) 1 0)) ≡ cond b 1 0
of_classes Universal true = refl
of_classes Universal false = refl
of_classes Application true = refl
of_classes Application false = refl
of_classes Context true = refl
of_classes Context false = refl
of_classes Private true = refl
of_classes Private false = refl

times_every : (n : ℕ) (g : Tag) → times_held (every n) g ≡ cond (nat_lt g.value n) 1 0
unfolding every
times_every n g =
    let a = times_of_both (below Universal n) (below Application n ++ (below Context n ++ below Private n)) g in
    let b = times_of_both (below Application n) (below Context n ++ below Private n) g in
    let c = times_of_both (below Context n) (below Private n) g in
    let u = times_below Universal n g in
    let v = times_below Application n g in
    let w = times_below Context n g in
    let x = times_below Private n g in
    let y = of_classes g.class (nat_lt g.value n) in
    omega (arith, a, b, c, u, v, w, x, y)

-- ---- and without those that are known

equal_tests : (a b c : ℕ) → (b == c) ≡ true → (a == b) ≡ (a == c)
equal_tests a b c e = grind (arith, nat_tests, e)

both_true : (a b : Bool) → (a && b) ≡ true → (a ≡ true) × (b ≡ true)
both_true true b e = (refl, e)
both_true false b e = absurd (cc e)

same_of_same : (x g k : Tag) → same_tag x g ≡ true → same_tag k x ≡ same_tag k g
same_of_same x g k e =
    let b = both_true (class_number x.class == class_number g.class) (x.value == g.value) e in
    let p = equal_tests (class_number k.class) (class_number x.class) (class_number g.class) b.0 in
    let q = equal_tests k.value x.value g.value b.1 in
    λ i. p i && q i

holds_same : (known : List Tag) (x g : Tag) → same_tag x g ≡ true → holds known x ≡ holds known g
holds_same [] x g e = refl
holds_same (k ∷ ks) x g e = let p = same_of_same x g k e in let q = holds_same ks x g e in λ i. p i || q i

times_without : (known gs : List Tag) (g : Tag) → times_held (without known gs) g ≡ cond (holds known g) 0 (times_held gs g)
unfolding without
times_without known [] g = none (holds known g)
  where
    none : (b : Bool) → ◌≡◌ {A = ℕ} 0 (cond b 0 0)
    none true = refl
    none false = refl
times_without known (x ∷ xs) g = go (holds known x) (same_tag x g) refl (holds known g) refl (holds_same known x g) (times_without known xs g)
  where
    go : (kx s : Bool) → same_tag x g ≡ s → (kg : Bool) → kx ≡ kx → (s ≡ true → kx ≡ kg) → times_held (without known xs) g ≡ cond kg 0 (times_held xs g)
        → times_held (cond kx (without known xs) (x ∷ without known xs)) g ≡ cond kg 0 (cond s 1 0 + times_held xs g)
    go true true e true r same h = h
    go true true e false r same h = absurd (cc (same refl))
    go true false e true r same h = h
    go true false e false r same h = omega (arith, h)
    go false true e true r same h = absurd (cc (same refl))
    go false true e false r same h = ap (λ (b : Bool). cond b 1 0 + times_held (without known xs) g) e ∙ omega (arith, h)
    go false false e true r same h = ap (λ (b : Bool). cond b 1 0 + times_held (without known xs) g) e ∙ omega (arith, h)
    go false false e false r same h = ap (λ (b : Bool). cond b 1 0 + times_held (without known xs) g) e ∙ omega (arith, h)

times_unknown : (n : ℕ) (known : List Tag) (g : Tag) → times_held (unknown_below n known) g ≡ cond (holds known g) 0 (cond (nat_lt g.value n) 1 0)
unfolding unknown_below
times_unknown n known g = times_without known (every n) g ∙ ap (λ k. cond (holds known g) 0 k) (times_every n g)

pub unknown_once : (n : ℕ) (known : List Tag) (g : Tag) → holds known g ≡ false → g.value < n → times_held (unknown_below n known) g ≡ 1
unknown_once n known g k l =
    let below : nat_lt g.value n ≡ true = grind (arith, nat_tests, l) in
    times_unknown n known g ∙ ap (λ (b : Bool). cond b 0 (cond (nat_lt g.value n) 1 0)) k ∙ ap (λ (b : Bool). cond b 1 0) below

pub unknown_never : (n : ℕ) (known : List Tag) (g : Tag) → holds known g ≡ true → times_held (unknown_below n known) g ≡ 0
unknown_never n known g k = times_unknown n known g ∙ ap (λ (b : Bool). cond b 0 (cond (nat_lt g.value n) 1 0)) k
