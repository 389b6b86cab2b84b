-- Nested lists, as a default that is as deep as what is read may be.
use Rattle.std.specs.Prelude.{ℕ, zero, suc, List, [], ◌∷◌, Option, Some, None}
use Rattle.oer_knots.specs.declared.held.Bare.{Bare}
use Rattle.oer_types.specs.declared.nests.Nest.{Nest}
use Rattle.oer_types.specs.declared.nests.Nest.TheViews.{roll-Nest}

-- an empty list inside that many lists, each of which holds one
unfoldable pub deep_nest : ℕ → Nest
deep_nest zero = roll-Nest (record { 0 = [] })
deep_nest (suc n) = roll-Nest (record { 0 = record { 0 = deep_nest n } ∷ [] })

-- the item of a list that has one alone
abbrev pub only_item : List (Bare Nest) → Option Nest
only_item [] = None
only_item (v ∷ []) = Some v.0
only_item (v ∷ (w ∷ ws)) = None
