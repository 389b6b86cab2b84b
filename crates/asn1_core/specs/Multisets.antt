-- Lists as multisets, by an equality of their items: which item stands where doesn't count.
use Rattle.std.specs.Prelude.{◌≡◌, Bool, ◌&&◌, ◌==◌, List, count_by}
use Rattle.std.specs.List.{list_all}

-- each of the items equals as many of ys as of xs
abbrev pub agree_on : {T : Type 0} → (T → T → Bool) → List T → List T → List T → Bool
agree_on eq xs ys items = list_all (λ z. count_by (eq z) xs == count_by (eq z) ys) items

-- the same items, each as often
abbrev pub same_items : {T : Type 0} → (T → T → Bool) → List T → List T → Bool
same_items eq xs ys = agree_on eq xs ys xs && agree_on eq xs ys ys

-- what that means: whatever is counted
abbrev pub AreSameItems : {T : Type 0} → (T → T → Bool) → List T → List T → Type 0
AreSameItems {T} eq xs ys = (z : T) → count_by (eq z) xs ≡ count_by (eq z) ys
