-- The alternatives in front of one that has the tag.
use Rattle.std.proofs.Common.{◌≡◌, ℕ, suc, ◌+◌, ◌-◌, ◌<◌, Bool, false, cond, List, Some, ap, ◌∙◌, arith}
use Rattle.asn1_core.specs.declared.tag.Tag.{Tag}
use Rattle.oer_walk.specs.Tables.{alternative_at, alternative_from, is_of}
use Rattle.oer_walk.specs.declared.table.Parts.{Parts}

pub alternative_later : (ws : List ℕ) (p : Parts) (t : Tag) (m i : ℕ) → i < m → is_of (alternative_at ws p i) t ≡ false → alternative_from ws p t (m - i) i ≡ alternative_from ws p t (m - (i + 1)) (i + 1)
alternative_later ws p t m i lt other =
    let e : m - i ≡ suc (m - (i + 1)) = omega arith in
    ap (λ (k : ℕ). alternative_from ws p t k i) e ∙ ap (λ (b : Bool). cond b (Some i) (alternative_from ws p t (m - (i + 1)) (i + 1))) other
