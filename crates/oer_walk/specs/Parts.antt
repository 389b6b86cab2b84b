-- Where nodes may lie.
use Rattle.std.specs.Prelude.{◌≡◌, ℕ, ◌<◌, ◌≤◌, ◌-◌, ◌^◌, ◌⊎◌, List, slice_index_or}
use Rattle.oer_walk.specs.declared.nodes.Node.{Node}

-- the walk stopped inside it
abbrev pub IsUnfinished : Node → Type 0
IsUnfinished x = x.end ≡ 2 ^ 64 - 1

abbrev pub blank : Node
blank = record { name = 0; type_number = 0; kind = 0; level = 0; around = 0; start = 0; content = 0; end = 0 }

abbrev pub node_at : List Node → ℕ → Node
node_at xs i = slice_index_or xs i blank

-- x lies in the content of p, whose end isn't known if the walk stopped inside p
abbrev pub IsInside : Node → Node → Type 0
IsInside p x = (p.content ≤ x.start) × (IsUnfinished p ⊎ (x.end ≤ p.end))

-- the node x at the place i, in so many octets
pub record HasPlace (n : ℕ) (xs : List Node) (i : ℕ) (x : Node) : Type 0 where
  -- it begins, its content begins, and it ends, in this order
  pub begins : x.start ≤ x.content
  pub ends : x.content ≤ x.end
  pub within : x.end ≤ n
  -- it lies inside the node around it, which stands before it
  pub inside : x.around < i → IsInside (node_at xs x.around) x
  -- it doesn't begin before the node before it
  pub behind : 0 < i → (node_at xs (i - 1)).start ≤ x.start

-- each of so many nodes has its place, or the walk stopped inside it
abbrev pub ArePlaced : ℕ → ℕ → List Node → Type 0
ArePlaced n k xs = (i : ℕ) → i < k → IsUnfinished (node_at xs i) ⊎ HasPlace n xs i (node_at xs i)
