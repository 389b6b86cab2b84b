-- Components in the order of their tags, by one number for each tag.
use Rattle.std.proofs.Common.{◌≡◌, ℕ, ◌+◌, ◌*◌, ◌^◌, ◌<◌, ◌==◌, Bool, true, false, cond, not, ◌&&◌, ◌||◌, List, [], ◌∷◌, map, refl, ap, ap₂, sym, ◌∙◌, arith, ◌⊎◌, inl, inr}
use Rattle.std.specs.Prelude.{nat_le, nat_lt}
use Rattle.std.specs.Ordering.{is_lt, nat_cmp}
use Rattle.std.proofs.lemmas.Bool.{cases_order, cond-true, cond-false, eq-eqb, ne_eqb, lt-ltb, le-ltb, le-leb, lt-leb, leb-true, leb-false}
use Rattle.asn1_core.specs.Octets.{Octets}
use Rattle.asn1_core.specs.Tags.{class_number, tag_le}
use Rattle.oer_spec.specs.Places.{Item, put_by_tag, by_tag}
use Rattle.oer_write.specs.Kept.{item}
use Rattle.oer_write.specs.declared.component.Component.{Component}
use Rattle.oer_write.proofs.Arranging.{IsOrderTest, put, arranged}

order_is : (c d v w : ℕ) → v < 2 ^ 32 → w < 2 ^ 32 → nat_le (c * 2 ^ 32 + v) (d * 2 ^ 32 + w) ≡ (nat_lt c d || ((c == d) && nat_le v w))
order_is c d v w small_v small_w = go (cases_order c d) (cases_order v w)
  where
    same : c ≡ d → (v ≡ w) ⊎ ((v < w) ⊎ (w < v)) → nat_le (c * 2 ^ 32 + v) (d * 2 ^ 32 + w) ≡ nat_le v w
    same e (inl f) = le-leb _ _ (omega (arith, e, f)) ∙ sym (le-leb v w (omega (arith, f)))
    same e (inr (inl l)) = le-leb _ _ (omega (arith, e)) ∙ sym (le-leb v w (omega arith))
    same e (inr (inr l)) = lt-leb _ _ (omega (arith, e)) ∙ sym (lt-leb v w l)

    go : (c ≡ d) ⊎ ((c < d) ⊎ (d < c)) → (v ≡ w) ⊎ ((v < w) ⊎ (w < v)) → nat_le (c * 2 ^ 32 + v) (d * 2 ^ 32 + w) ≡ (nat_lt c d || ((c == d) && nat_le v w))
    go (inl e) p = same e p ∙ sym (ap₂ (λ (x y : Bool). x || (y && nat_le v w)) (le-ltb c d (omega (arith, e))) (eq-eqb c d e))
    go (inr (inl l)) p = le-leb _ _ (omega arith) ∙ sym (ap (λ (x : Bool). x || ((c == d) && nat_le v w)) (lt-ltb c d l))
    go (inr (inr l)) p = lt-leb _ _ (omega arith) ∙ sym (ap₂ (λ (x y : Bool). x || (y && nat_le v w)) (le-ltb c d (omega arith)) (ne_eqb c d (λ e. omega (arith, e, l))))

le_is : (a b : Component) → nat_le a.key b.key ≡ tag_le a.tag b.tag
le_is a b = ap₂ nat_le a.keyed b.keyed ∙ order_is (class_number a.tag.class) (class_number b.tag.class) a.tag.value b.tag.value a.small b.small

-- the order of numbers, as a sort by them tests it
pub less_is : (x y : ℕ) → is_lt (nat_cmp y x) ≡ not (nat_le x y)
less_is x y = go (cases_order x y)
  where
    not_less : y ≡ x → is_lt (nat_cmp y x) ≡ false
    not_less e = ap is_lt (cond-false (nat_lt y x) _ _ (le-ltb y x (omega (arith, e))) ∙ cond-true (y == x) _ _ (eq-eqb y x e))

    go : (x ≡ y) ⊎ ((x < y) ⊎ (y < x)) → is_lt (nat_cmp y x) ≡ not (nat_le x y)
    go (inl e) = not_less (sym e) ∙ sym (ap not (le-leb x y (omega (arith, e))))
    go (inr (inl l)) = ap is_lt (cond-false (nat_lt y x) _ _ (le-ltb y x (omega arith)) ∙ cond-false (y == x) _ _ (ne_eqb y x (λ e. omega (arith, e, l)))) ∙ sym (ap not (le-leb x y (omega arith)))
    go (inr (inr l)) = ap is_lt (cond-true (nat_lt y x) _ _ (lt-ltb y x l)) ∙ sym (ap not (lt-leb x y l))

abbrev pub by_key : Component → Component → Bool
by_key a b = nat_le a.key b.key

pub key_order : IsOrderTest by_key
key_order = record {
  total = λ a b h. le-leb b.key a.key (let l = leb-false a.key b.key h in omega (arith, l));
  trans = λ a b c h i. le-leb a.key c.key (let l = leb-true a.key b.key h in let m = leb-true b.key c.key i in omega (arith, l, m));
}

put_is : (o : Octets) (c : Component) (cs : List Component) → map (item o) (put by_key c cs) ≡ put_by_tag (item o c) (map (item o) cs)
put_is o c [] = refl
put_is o c (d ∷ ds) = go (nat_le c.key d.key) (put_is o c ds) ∙ ap (λ (b : Bool). cond b (item o c ∷ item o d ∷ map (item o) ds) (item o d ∷ put_by_tag (item o c) (map (item o) ds))) (le_is c d)
  where
    go : (b : Bool) → map (item o) (put by_key c ds) ≡ put_by_tag (item o c) (map (item o) ds) → map (item o) (cond b (c ∷ d ∷ ds) (d ∷ put by_key c ds)) ≡ cond b (item o c ∷ item o d ∷ map (item o) ds) (item o d ∷ put_by_tag (item o c) (map (item o) ds))
    go true more = refl
    go false more = ap (λ (is : List Item). item o d ∷ is) more

pub arranged_items : (o : Octets) (cs : List Component) → map (item o) (arranged by_key cs) ≡ by_tag (map (item o) cs)
arranged_items o [] = refl
arranged_items o (c ∷ cs) = put_is o c (arranged by_key cs) ∙ ap (put_by_tag (item o c)) (arranged_items o cs)
