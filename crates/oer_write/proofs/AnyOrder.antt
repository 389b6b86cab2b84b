-- A set's octets don't depend on the order in which its components are handed in.
use Rattle.std.proofs.Common.{◌≡◌, ℕ, ◌<◌, ◌≤◌, ◌==◌, Bool, true, false, cond, ◌&&◌, ◌||◌, List, [], ◌∷◌, refl, ap, ap₂, sym, ◌∙◌, subst, arith, ◌⊎◌, inl, inr}
use Rattle.std.specs.Prelude.{nat_le, nat_lt}
use Rattle.std.specs.List.{AllByRecursion}
use Rattle.std.proofs.lemmas.Bool.{cases_Bool, cases_order, cond-false, eq-eqb, ne_eqb, lt-ltb, le-ltb, le-leb, leb-true, leb-false}
use Rattle.asn1_core.specs.Tags.{class_number, tag_le, same_tag, holds, AreDistinct}
use Rattle.asn1_core.specs.declared.tag.Tag.{Tag}
use Rattle.oer_spec.specs.Orders.{Stands, Reorders}
use Rattle.oer_spec.specs.Places.{Item, by_tag}
use Rattle.oer_spec.proofs.Lists.{Reorders-all, Reorders-sym}
use Rattle.oer_write.specs.Scopes.{item_tags}
use Rattle.oer_write.proofs.Arranging.{IsOrderTest, tied, of, unique, of_arranged, rises_arranged, left_true, right_true, true_false}

lower_class : (c v d w : ℕ) → c < d → (nat_lt c d || ((c == d) && nat_le v w)) ≡ true
lower_class c v d w l = ap (λ (x : Bool). x || ((c == d) && nat_le v w)) (lt-ltb c d l)

higher_class : (c v d w : ℕ) → d < c → (nat_lt c d || ((c == d) && nat_le v w)) ≡ false
higher_class c v d w l = ap₂ (λ (x y : Bool). x || (y && nat_le v w)) (le-ltb c d (omega arith)) (ne_eqb c d (λ e. omega (arith, e, l)))

same_class : (c v d w : ℕ) → c ≡ d → (nat_lt c d || ((c == d) && nat_le v w)) ≡ nat_le v w
same_class c v d w e = ap₂ (λ (x y : Bool). x || (y && nat_le v w)) (le-ltb c d (omega (arith, e))) (eq-eqb c d e)

parts : (a b : Tag) → tag_le a b ≡ true → (class_number a.class < class_number b.class) ⊎ ((class_number a.class ≡ class_number b.class) × (a.value ≤ b.value))
parts a b h = go (cases_order (class_number a.class) (class_number b.class))
  where
    go : (class_number a.class ≡ class_number b.class) ⊎ ((class_number a.class < class_number b.class) ⊎ (class_number b.class < class_number a.class)) → (class_number a.class < class_number b.class) ⊎ ((class_number a.class ≡ class_number b.class) × (a.value ≤ b.value))
    go (inl e) = inr (e, leb-true a.value b.value (sym (same_class (class_number a.class) a.value (class_number b.class) b.value e) ∙ h))
    go (inr (inl l)) = inl l
    go (inr (inr l)) = absurd (true_false (tag_le a b) h (higher_class (class_number a.class) a.value (class_number b.class) b.value l))

whole : (a b : Tag) → (class_number a.class < class_number b.class) ⊎ ((class_number a.class ≡ class_number b.class) × (a.value ≤ b.value)) → tag_le a b ≡ true
whole a b (inl l) = lower_class (class_number a.class) a.value (class_number b.class) b.value l
whole a b (inr p) = same_class (class_number a.class) a.value (class_number b.class) b.value p.0 ∙ le-leb a.value b.value p.1

tag_total : (a b : Tag) → tag_le a b ≡ false → tag_le b a ≡ true
tag_total a b h = go (cases_order (class_number a.class) (class_number b.class))
  where
    go : (class_number a.class ≡ class_number b.class) ⊎ ((class_number a.class < class_number b.class) ⊎ (class_number b.class < class_number a.class)) → tag_le b a ≡ true
    go (inl e) = let l : b.value < a.value = leb-false a.value b.value (sym (same_class (class_number a.class) a.value (class_number b.class) b.value e) ∙ h) in whole b a (inr (sym e, omega (arith, l)))
    go (inr (inl l)) = absurd (true_false (tag_le a b) (lower_class (class_number a.class) a.value (class_number b.class) b.value l) h)
    go (inr (inr l)) = whole b a (inl l)

tag_trans : (a b c : Tag) → tag_le a b ≡ true → tag_le b c ≡ true → tag_le a c ≡ true
tag_trans a b c h i = go (parts a b h) (parts b c i)
  where
    go : (class_number a.class < class_number b.class) ⊎ ((class_number a.class ≡ class_number b.class) × (a.value ≤ b.value)) → (class_number b.class < class_number c.class) ⊎ ((class_number b.class ≡ class_number c.class) × (b.value ≤ c.value)) → tag_le a c ≡ true
    go (inl l) (inl m) = whole a c (inl (omega arith))
    go (inl l) (inr m) = whole a c (inl (let e = m.0 in omega (arith, e)))
    go (inr l) (inl m) = whole a c (inl (let e = l.0 in omega (arith, e)))
    go (inr l) (inr m) = whole a c (inr (l.0 ∙ m.0, let x = l.1 in let y = m.1 in omega (arith, x, y)))

tag_same : (a b : Tag) → tag_le a b ≡ true → tag_le b a ≡ true → same_tag a b ≡ true
tag_same a b h i = go (parts a b h) (parts b a i)
  where
    go : (class_number a.class < class_number b.class) ⊎ ((class_number a.class ≡ class_number b.class) × (a.value ≤ b.value)) → (class_number b.class < class_number a.class) ⊎ ((class_number b.class ≡ class_number a.class) × (b.value ≤ a.value)) → same_tag a b ≡ true
    go (inl l) (inl m) = absurd (omega (arith, l, m))
    go (inl l) (inr m) = absurd (let e = m.0 in omega (arith, l, e))
    go (inr l) (inl m) = absurd (let e = l.0 in omega (arith, e, m))
    go (inr l) (inr m) = ap₂ (λ (x y : Bool). x && y) (eq-eqb (class_number a.class) (class_number b.class) l.0) (eq-eqb a.value b.value (let x = l.1 in let y = m.1 in omega (arith, x, y)))

abbrev item_le : Item → Item → Bool
item_le i j = tag_le i.tag j.tag

item_order : IsOrderTest item_le
item_order = record {
  total = λ i j h. tag_total i.tag j.tag h;
  trans = λ i j k h g. tag_trans i.tag j.tag k.tag h g;
}

-- two that tie with a third have the same tag
tied_same : (w x y : Item) → tied item_le w x ≡ true → tied item_le w y ≡ true → same_tag x.tag y.tag ≡ true
tied_same w x y h i =
    tag_same x.tag y.tag
    (tag_trans x.tag w.tag y.tag (left_true (tag_le x.tag w.tag) (tag_le w.tag x.tag) h) (right_true (tag_le y.tag w.tag) (tag_le w.tag y.tag) i))
    (tag_trans y.tag w.tag x.tag (left_true (tag_le y.tag w.tag) (tag_le w.tag y.tag) i) (right_true (tag_le x.tag w.tag) (tag_le w.tag x.tag) h))

-- one whose tag no other has may stand anywhere
taken : (w x : Item) (ys rest : List Item) → Stands ys x rest → AllByRecursion (λ y. same_tag x.tag y.tag ≡ false) rest → of item_le w ys ≡ of item_le w (x ∷ rest)
taken w x [] rest s a = absurd s
taken w x (y ∷ ys) rest (inl e) a = ap₂ (λ (z : Item) (zs : List Item). of item_le w (z ∷ zs)) e.0 e.1
taken w x (y ∷ ys) rest (inr (rs, e, s)) a =
    let others : AllByRecursion (λ y. same_tag x.tag y.tag ≡ false) (y ∷ rs) = subst (AllByRecursion (λ y. same_tag x.tag y.tag ≡ false)) e a in
    ap (λ (r : List Item). cond (tied item_le w y) (y ∷ r) r) (taken w x ys rs s others.1) ∙ swapped (cases_Bool (tied item_le w x)) (cases_Bool (tied item_le w y)) others.0 ∙ ap (λ (r : List Item). of item_le w (x ∷ r)) (sym e)
  where
    swapped : (tied item_le w x ≡ true) ⊎ (tied item_le w x ≡ false) → (tied item_le w y ≡ true) ⊎ (tied item_le w y ≡ false) → same_tag x.tag y.tag ≡ false
        → cond (tied item_le w y) (y ∷ of item_le w (x ∷ rs)) (of item_le w (x ∷ rs)) ≡ of item_le w (x ∷ y ∷ rs)
    swapped (inl h) (inl i) f = absurd (true_false (same_tag x.tag y.tag) (tied_same w x y h i) f)
    swapped (inl h) (inr i) f = cond-false (tied item_le w y) _ _ i ∙ ap (λ (b : Bool). cond (tied item_le w x) (x ∷ cond b (y ∷ of item_le w rs) (of item_le w rs)) (cond b (y ∷ of item_le w rs) (of item_le w rs))) (sym i)
    swapped (inr h) g f = ap (λ (b : Bool). cond (tied item_le w y) (y ∷ cond b (x ∷ of item_le w rs) (of item_le w rs)) (cond b (x ∷ of item_le w rs) (of item_le w rs))) h ∙ sym (cond-false (tied item_le w x) _ _ h)

both_false : (a b : Bool) → (a || b) ≡ false → (a ≡ false) × (b ≡ false)
both_false false b h = (refl, h)
both_false true b h = absurd cc

test_back : (a b : ℕ) → (a == b) ≡ (b == a)
test_back a b = go (cases_order a b)
  where
    go : (a ≡ b) ⊎ ((a < b) ⊎ (b < a)) → (a == b) ≡ (b == a)
    go (inl e) = eq-eqb a b e ∙ sym (eq-eqb b a (sym e))
    go (inr (inl l)) = ne_eqb a b (λ e. omega (arith, e, l)) ∙ sym (ne_eqb b a (λ e. omega (arith, e, l)))
    go (inr (inr l)) = ne_eqb a b (λ e. omega (arith, e, l)) ∙ sym (ne_eqb b a (λ e. omega (arith, e, l)))

same_back : (a b : Tag) → same_tag a b ≡ false → same_tag b a ≡ false
same_back a b h = ap₂ (λ (x y : Bool). x && y) (test_back (class_number b.class) (class_number a.class)) (test_back b.value a.value) ∙ h

other_tags : (x : Item) (ys : List Item) → holds (item_tags ys) x.tag ≡ false → AllByRecursion (λ y. same_tag x.tag y.tag ≡ false) ys
other_tags x [] h = tt
other_tags x (y ∷ ys) h = let p = both_false (same_tag y.tag x.tag) (holds (item_tags ys) x.tag) h in (same_back y.tag x.tag p.0, other_tags x ys p.1)

reordered : (w : Item) (xs ys : List Item) → AreDistinct (item_tags xs) → Reorders xs ys → of item_le w ys ≡ of item_le w xs
reordered w [] ys d r = ap (of item_le w) r
reordered w (x ∷ xs) ys d (rest, s, r) =
    taken w x ys rest s (Reorders-all (λ y. same_tag x.tag y.tag ≡ false) rest xs (Reorders-sym xs rest r) (other_tags x xs d.0))
    ∙ ap (λ (r : List Item). cond (tied item_le w x) (x ∷ r) r) (reordered w xs rest d.1 r)

pub any_order : (xs ys : List Item) → AreDistinct (item_tags xs) → Reorders xs ys → by_tag ys ≡ by_tag xs
any_order xs ys d r = unique item_le item_order (by_tag ys) (by_tag xs) (rises_arranged item_le item_order ys) (rises_arranged item_le item_order xs) (λ w. of_arranged item_le item_order w ys ∙ reordered w xs ys d r ∙ sym (of_arranged item_le item_order w xs))
