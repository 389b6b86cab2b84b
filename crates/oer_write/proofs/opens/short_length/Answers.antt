use Rattle.std.proofs.Common.{◌≡◌, ◌%◌, [], ◌∷◌, ap, sym, ◌∙◌, arith}
use Rattle.std.proofs.lemmas.Bool.{cond-true, lt-ltb}
use Rattle.oer_write.proofs.opens.short_length.Goals as goal

pub returns-clause-number : goal.returns-clause-number
returns-clause-number c =
    let e : c.args.size % 256 ≡ c.args.size = (let h = c.requires in omega (arith, h)) in
    ap (λ n. n ∷ []) e ∙ sym (cond-true _ (c.args.size ∷ []) _ (lt-ltb c.args.size 128 c.requires))
