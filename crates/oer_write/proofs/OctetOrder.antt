-- Octets in ascending order, as a sort gives them.
use Rattle.std.proofs.Common.{◌≡◌, Bool, true, false, cond, List, [], ◌∷◌, map, refl, ap, ◌∙◌}
use Rattle.std.specs.Borrow.{Bor}
use Rattle.asn1_core.specs.Octets.{Octets}
use Rattle.oer_spec.specs.Orders.{octets_le}
use Rattle.oer_spec.specs.Places.{put_octets, sorted}
use Rattle.oer_spec.proofs.Sorted.{le_total, le_trans'}
use Rattle.oer_write.specs.Unordered.{octets_in}
use Rattle.oer_write.proofs.Arranging.{IsOrderTest, put, arranged}

abbrev pub by_octets : Bor Octets → Bor Octets → Bool
by_octets a b = octets_le a.now b.now

pub octet_order : IsOrderTest by_octets
octet_order = record {
  total = λ a b h. le_total a.now b.now h;
  trans = λ a b c h i. le_trans' a.now b.now c.now h i;
}

put_is : (v : Bor Octets) (vs : List (Bor Octets)) → map octets_in (put by_octets v vs) ≡ put_octets v.now (map octets_in vs)
put_is v [] = refl
put_is v (w ∷ ws) = go (octets_le v.now w.now) (put_is v ws)
  where
    go : (b : Bool) → map octets_in (put by_octets v ws) ≡ put_octets v.now (map octets_in ws) → map octets_in (cond b (v ∷ w ∷ ws) (w ∷ put by_octets v ws)) ≡ cond b (v.now ∷ w.now ∷ map octets_in ws) (w.now ∷ put_octets v.now (map octets_in ws))
    go true more = refl
    go false more = ap (λ (os : List Octets). w.now ∷ os) more

pub arranged_octets : (vs : List (Bor Octets)) → map octets_in (arranged by_octets vs) ≡ sorted (map octets_in vs)
arranged_octets [] = refl
arranged_octets (v ∷ vs) = put_is v (arranged by_octets vs) ∙ ap (put_octets v.now) (arranged_octets vs)
