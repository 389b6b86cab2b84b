-- The order of tags, from that of their numbers.
use Rattle.std.proofs.Common.{◌≡◌, ℕ, ◌<◌, Bool, true, false, not, Some, refl, sym, ap, arith}
use Rattle.std.proofs.lemmas.Bool.Decides.{nat_tests}
use Rattle.asn1_core.specs.declared.tag.Tag.{Tag}
use Rattle.asn1_core.specs.Tags.{tag_le, same_tag}
use Rattle.asn1_core.specs.NextRow.{is_after}

pub tag_le-total : (a b : Tag) → tag_le a b ≡ false → tag_le b a ≡ true
tag_le-total a b h = grind (arith, nat_tests)

pub tag_le-trans : (a b c : Tag) → tag_le a b ≡ true → tag_le b c ≡ true → tag_le a c ≡ true
tag_le-trans a b c p q = grind (arith, nat_tests)

-- in front of the row that was answered: what was left stays left
pub is_after-front : (last : Tag) (place : ℕ) (m : Tag) (k : ℕ) (t : Tag) (j : ℕ) → is_after (Some (last, place)) m k ≡ true → j < k → (is_after (Some (last, place)) t j ≡ true → tag_le t m ≡ false) → is_after (Some (m, k)) t j ≡ is_after (Some (last, place)) t j
is_after-front last place m k t j after lt above = grind (arith, nat_tests)

-- behind it
pub is_after-back : (last : Tag) (place : ℕ) (m : Tag) (k : ℕ) (t : Tag) (j : ℕ) → is_after (Some (last, place)) m k ≡ true → k < j → (is_after (Some (last, place)) t j ≡ true → tag_le m t ≡ true) → is_after (Some (m, k)) t j ≡ is_after (Some (last, place)) t j
is_after-back last place m k t j after lt from = grind (arith, nat_tests)

-- before the first call
pub is_after-front_first : (m : Tag) (k : ℕ) (t : Tag) (j : ℕ) → tag_le t m ≡ false → is_after (Some (m, k)) t j ≡ true
is_after-front_first m k t j above = grind (arith, nat_tests)

pub is_after-back_first : (m : Tag) (k : ℕ) (t : Tag) (j : ℕ) → k < j → tag_le m t ≡ true → is_after (Some (m, k)) t j ≡ true
is_after-back_first m k t j lt from = grind (arith, nat_tests)

-- it isn't left itself
pub is_after-itself : (m : Tag) (k : ℕ) → is_after (Some (m, k)) m k ≡ false
is_after-itself m k = grind (arith, nat_tests)

pub not-true : {b : Bool} → b ≡ false → not b ≡ true
not-true h = ap not h

pub not-false : {b : Bool} → not b ≡ true → b ≡ false
not-false {b} h = elim b as (λ s. not s ≡ true → s ≡ false) [ true ↦ λ e. sym e | false ↦ λ e. refl ] h

pub tag_le-above : (a b c : Tag) → tag_le a b ≡ false → tag_le b c ≡ false → tag_le a c ≡ false
tag_le-above a b c p q = grind (arith, nat_tests)

pub tag_le-between : (a b c : Tag) → not (tag_le a b) ≡ false → tag_le a c ≡ false → tag_le b c ≡ false
tag_le-between a b c p q = grind (arith, nat_tests)

pub same_tag-le : (a b t : Tag) → same_tag a t ≡ true → same_tag b t ≡ true → tag_le a b ≡ true
same_tag-le a b t p q = grind (arith, nat_tests)
