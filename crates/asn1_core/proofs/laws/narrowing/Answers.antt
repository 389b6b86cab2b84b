use Rattle.std.proofs.Common.{◌≡◌, ℕ, ℤ, Bool, true, false, ◌&&◌, pos, int_le, nat_le, Option, Some, None, unwrap_or, refl, sym, ◌∙◌}
use Rattle.asn1_core.specs.declared.constraints.Bounded.{Bounded}
use Rattle.asn1_core.specs.Bounds.{allows_by, common_by, narrowed_part_by, range_of, size_of}
use Rattle.asn1_core.specs.Octets.{usize_max}
use Rattle.asn1_core.proofs.Narrowed.{IsOrder, and-first, and-second, common-allows, narrowed-common, narrowed-own, narrowed_part-consistent, start_of-itself, end_of-itself}
use Rattle.asn1_core.proofs.Orders.{nat_le-order, int_le-order}
use Rattle.asn1_core.proofs.laws.narrowing.Goals as goal

module _ {T : Type 0} (le : T → T → Bool) (o : IsOrder le) (a b : Bounded T) (own other : Option (Bounded T × Bool)) (p : own ≡ Some (a, false)) (q : other ≡ Some (b, false)) where
  common : (m : T) → allows_by le a m ≡ true → allows_by le b m ≡ true → (c : Bounded T) × (narrowed_part_by le own other ≡ Some (c, false)) × ((n : T) → allows_by le c n ≡ (allows_by le a n && allows_by le b n))
  common m x y =
      let e = narrowed-common le o a b m x y in
      (common_by le a b, (λ i. narrowed_part_by le (p i) (q i)) ∙ (λ i. Some (e i, false)), common-allows le o a b)

  kept : T → ((n : T) → (allows_by le a n && allows_by le b n) ≡ false) → narrowed_part_by le own other ≡ own
  kept m h =
      let e = narrowed-own le o m a b h in
      (λ i. narrowed_part_by le (p i) (q i)) ∙ (λ i. Some (e i, false)) ∙ sym p

pub returns-clause-narrows : goal.returns-clause-narrows
returns-clause-narrows c = λ own other. record {
  consistent = λ p q.
      let value = narrowed_part-consistent int_le int_le-order own.value other.value (and-first _ _ p) (and-first _ _ q) in
      let size = narrowed_part-consistent nat_le nat_le-order own.size other.size (and-second _ _ p) (and-second _ _ q) in
      λ i. value i && size i;
  values = λ a b m p q. common int_le int_le-order a b own.value other.value p q m;
  sizes = λ a b m p q. common nat_le nat_le-order a b own.size other.size p q m;
  own_values = λ a b p q. kept int_le int_le-order a b own.value other.value p q (pos 0);
  own_sizes = λ a b p q. kept nat_le nat_le-order a b own.size other.size p q 0;
}

same-range : (own : Option (Bounded ℤ × Bool)) → range_of (narrowed_part_by int_le own own) ≡ range_of own
same-range None = refl
same-range (Some (a, true)) = refl
same-range (Some (a, false)) = λ i. Some (start_of-itself int_le int_le-order a i, end_of-itself int_le int_le-order a i)

same-size : (own : Option (Bounded ℕ × Bool)) → size_of (narrowed_part_by nat_le own own) ≡ size_of own
same-size None = refl
same-size (Some (a, true)) = refl
same-size (Some (a, false)) =
    λ i. Some (unwrap_or (start_of-itself nat_le nat_le-order a i) 0, unwrap_or (end_of-itself nat_le nat_le-order a i) usize_max)

pub returns-clause-itself : goal.returns-clause-itself
returns-clause-itself c = λ own. record { values = same-range own.value; sizes = same-size own.size }
