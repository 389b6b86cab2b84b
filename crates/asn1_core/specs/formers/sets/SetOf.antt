-- A SET OF as a type that may hold the type that holds it: what it holds are its items.
use Rattle.std.specs.Prelude.{◌+◌, Bool, ◌&&◌, ◌==◌, cond, ◌∷◌, map, count_by}
use Rattle.std.proofs.lemmas.List.Sums.{sum_by-cons}
use mathlib.Core.Path.{◌≡◌, refl, sym, ◌∙◌}
use mathlib.Core.List.{List, []}
use mathlib.Core.Former.{Former, this, list, via, children}
use base.Stored.{code_map}
use denote.RattleType.{RattleType}
use denote.HoleLaws.{Alike}
use denote.HolePlaces.{Recodes, struct_places, laid}
use denote.Hole.Carrier.{listed, list-listed}
use denote.Hole.Fix.{over}
use denote.Param.Weighed.{Weighed, w_list}
use denote.Model.Placed.{view_places}
use Rattle.std.specs.declared.cmp.PartialEq as eq
use Rattle.std.specs.formers.vec.Vec as vec
use Rattle.std.specs.declared.alloc.Global.{Global}
use Rattle.std.specs.contracts.alloc.Global as heap
use Rattle.std.specs.contracts.impls.GlobalAllocator.TheImpl.{ghosts}
use Rattle.asn1_core.specs.Multisets.{agree_on, same_items}
use Rattle.asn1_core.specs.declared.sets.SetOf.TheInside.{Inside}
use Rattle.asn1_core.specs.declared.sets.SetOf.TheView.{view, invariant}
use Rattle.asn1_core.specs.contracts.sets.SetOf as C
use Rattle.asn1_core.specs.contracts.sets.SetOf.TheInside as I

abbrev pub the_former : Former {0} → Former {0}
the_former g = list g

abbrev pub the_weighed : {g : Former {0}} → Weighed g → Weighed (the_former g)
the_weighed w = w_list w

pub the_empty : List ⊥
the_empty = []

abbrev pub the_items : (X : Type 0) → List X → List X
the_items X d = d

pub the_items_listed : (X : Type 0) (d : List X) → listed _ (children (the_former this) X d) ≡ the_items X d
the_items_listed X d = list-listed X d

abbrev fields : Former {0}
fields = via (vec.the_former this Global) Inside (λ X a. a.items) (λ X v. record { items = v }) (λ X a. refl) (λ X v. refl)

module _ (R S : RattleType) (h : R.Denot → S.Denot) where
  pub the_places : Alike R S h → Alike (C.the_row R) (C.the_row S) ((the_former this).map R.Denot S.Denot h)
  the_places a = view_places fields (list this) view (λ X Y k u. refl) (λ X u. refl) R.Denot S.Denot h (C.the_row R).coded (C.the_row S).coded
      (invariant R.Denot) (invariant S.Denot) (λ u p q. refl) (λ u p q. refl) (λ u e. tt) (λ u e. tt)
      (over (I.the_row R)) (over (I.the_row S))
      (struct_places (I.the_type R) (I.the_type S) (vec.mapped h, tt) _ (λ d. refl) refl (laid _ _ _ (vec.the_places heap.the_row ghosts R S h a), tt))

  pub the_codes_placed : Recodes R S h → Recodes (C.the_row R) (C.the_row S) ((the_former this).map R.Denot S.Denot h)
  the_codes_placed e d = sym (code_map R.coded.code S.coded.code h (λ x. sym (e x)) d)

-- ---- equality, along a function of the items
module _ (X Y : Type 0) (h : X → Y) (E : Y → Y → Bool) where
  counted : (z : X) (xs : List X) → count_by (E (h z)) (map h xs) ≡ count_by (λ y. E (h z) (h y)) xs
  counted z [] = refl
  counted z (x ∷ xs) = sum_by-cons (λ y. cond (E (h z) y) 1 0) (h x) (map h xs) ∙ (λ i. cond (E (h z) (h x)) 1 0 + counted z xs i) ∙ sym (sum_by-cons (λ y. cond (E (h z) (h y)) 1 0) x xs)

  agree_along : (xs ys items : List X) → agree_on E (map h xs) (map h ys) (map h items) ≡ agree_on (λ p q. E (h p) (h q)) xs ys items
  agree_along xs ys [] = refl
  agree_along xs ys (z ∷ zs) = λ i. (counted z xs i == counted z ys i) && agree_along xs ys zs i

  same_along : (xs ys : List X) → same_items E (map h xs) (map h ys) ≡ same_items (λ p q. E (h p) (h q)) xs ys
  same_along xs ys = λ i. agree_along xs ys xs i && agree_along xs ys ys i

module _ (X Y : Type 0) (h : X → Y) where
  pub the_eq_natural : (V : eq.Ghosts Y) (a b : List X) → same_items V.eq (map h a) (map h b) ≡ same_items (λ p q. V.eq (h p) (h q)) a b
  the_eq_natural V a b = same_along X Y h V.eq a b
