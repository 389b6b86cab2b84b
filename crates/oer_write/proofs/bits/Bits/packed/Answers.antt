use Rattle.std.proofs.Common.{rules, ◌≡◌, ◌++◌, false, List, Bool, [], ◌∷◌, length, ℕ, arith, ap, refl, sym, ◌∙◌, subst, append-nil}
use Rattle.oer_spec.specs.Places.{extension_bit}
use Rattle.oer_write.specs.Bits.{low_bits, ArePacked}
use Rattle.oer_write.proofs.bits.Bits.packed.Goals as goal

none_of : (xs : List Bool) → length xs ≡ 0 → xs ≡ []
none_of [] e = refl
none_of (x ∷ xs) e = absurd (omega (arith, e))

pub returns-then-self-eq-WORD-clause-packed : goal.returns-then-self-eq-WORD-clause-packed
returns-then-self-eq-WORD-clause-packed c =
    let i = c.self.inside in
    let full : i.count ≡ 64 = omega arith in
    let plain : c.args.extensible ≡ false = search rules in
    let some : length i.more.items ≡ 0 = search rules in
    let none : i.more.items ≡ [] = none_of i.more.items some in
    let same : low_bits 64 i.word ≡ extension_bit c.args.extensible c.args.extended ++ c.args.self.now =
    ap (λ (n : ℕ). low_bits n i.word) (sym full) ∙ sym (append-nil (low_bits i.count i.word)) ∙ ap (λ (m : List Bool). low_bits i.count i.word ++ m) (sym none) ∙ c.self.view_is
    ∙ ap (λ (b : Bool). extension_bit b c.args.extended ++ c.args.self.now) (sym plain) in
    subst (λ (b : List Bool). ArePacked c.aligned.result.octets c.aligned.result.number b) same c.aligned.ensures.packed
