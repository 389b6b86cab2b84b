use Rattle.std.proofs.Common.{◌≡◌, ◌+◌, ◌*◌, ◌/◌, ◌%◌, ◌^◌, ◌<◌, ◌≤◌, ◌∷◌, ℕ, arith, ap, ap₂, refl, ◌∙◌}
use Rattle.asn1_core.specs.Numbers.{low_octets}
use Rattle.oer_write.proofs.Words.{fronted}
use Rattle.oer_write.proofs.bits.behind_count.Goals as goal

both : (k n u x s : ℕ) → n ≤ 48 → k ≡ (n + 7) / 8 → u < 8 → x < 256 ^ k → s ≡ ((k + 1) * 256 + u) * 2 ^ (k * 8) % 2 ^ 64 → (s + x < 2 ^ 64) × (low_octets (2 + k) (s + x) ≡ (k + 1) ∷ u ∷ low_octets k x)
both k n u x s h e f b w =
    let few : k ≤ 6 = omega (arith, h, e) in
    let t = fronted 16 2 k ((k + 1) * 256 + u) x s (omega (arith, few, f)) (omega (arith, few)) b w in
    let m : 2 + k ≡ k + 2 = omega arith in
    let high : ((k + 1) * 256 + u) / 256 % 256 ≡ k + 1 = omega (arith, few, f) in
    let low : ((k + 1) * 256 + u) % 256 ≡ u = omega (arith, few, f) in
    (t.0, ap (λ j. low_octets j (s + x)) m ∙ t.1 ∙ ap₂ (λ y z. y ∷ z ∷ low_octets k x) high low)

pub overflow_add-result : goal.overflow_add-result
overflow_add-result c =
    let t = both c.args.bits.octets c.args.count c.unused_for.result c.args.bits.number _ c.requires.few c.requires.octets c.unused_for.ensures.few c.requires.small refl in
    omega (arith, t.0)

pub returns-clause-number : goal.returns-clause-number
returns-clause-number c =
    let t = both c.args.bits.octets c.args.count c.unused_for.result c.args.bits.number _ c.requires.few c.requires.octets c.unused_for.ensures.few c.requires.small refl in
    t.1 ∙ ap (λ u. (c.args.bits.octets + 1) ∷ u ∷ low_octets c.args.bits.octets c.args.bits.number) c.unused_for.ensures.value
