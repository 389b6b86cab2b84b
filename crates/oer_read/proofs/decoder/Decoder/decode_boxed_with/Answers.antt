use Rattle.std.proofs.Common.{rules, refl, sym, ap, subst, inl, inr}
use Rattle.oer_read.proofs.Alternatives.{alternative_made}
use Rattle.oer_read.proofs.Called.{called_at}
use Rattle.oer_read.proofs.decoder.Decoder.decode_boxed_with.Goals as goal

pub returns-in-Err-clause-law : goal.returns-in-Err-clause-law
returns-in-Err-clause-law g c =
    let d = c.requires.law _ _ (called_at _ _ _ _ _ c.args.self.now refl c.in-Err.ensures) in
    record { read = tt; refused = record { same = d.refused.same; mode = d.refused.mode; none = λ m w o i f. d.refused.none m w.value o i f } }

pub returns-in-Err-clause-answered : goal.returns-in-Err-clause-answered
returns-in-Err-clause-answered g c = inr (called_at _ _ _ _ _ c.args.self.now refl c.in-Err.ensures)

pub returns-in-Err-new-clause-law : goal.returns-in-Err-new-clause-law
returns-in-Err-new-clause-law g c =
    let d = c.requires.law _ _ (called_at _ _ _ _ _ c.args.self.now refl c.in-Ok.ensures) in
    let rest = d.read.rest in
    search rules

pub returns-in-Err-new-clause-answered : goal.returns-in-Err-new-clause-answered
returns-in-Err-new-clause-answered g c =
    let ran = called_at _ _ _ _ _ c.args.self.now refl c.in-Ok.ensures in
    let rest = (c.requires.law _ _ ran).read.rest in
    inl (_, _, ran, search rules)

pub returns-clause-law : goal.returns-clause-law
returns-clause-law g c =
    let d = c.requires.law _ _ (called_at _ _ _ _ _ c.args.self.now refl c.in-Ok.ensures) in
    let e = c.in-Ok-new.ensures.ok in
    alternative_made _ _ _ _ (λ b i. (b.value, (λ j. g.D.Spelled.tree g.D.AsnType.CONSTRAINTS b.value), i)) _ _ _ c.in-Ok-new.boxed (subst g.D.Spelled.IsValue (sym e) d.read.value) (ap (g.D.Spelled.tree g.D.AsnType.CONSTRAINTS) e) d

pub returns-clause-answered : goal.returns-clause-answered
returns-clause-answered g c =
    rw c.in-Ok-new.ensures.ok (called_at _ _ _ _ _ c.args.self.now refl c.in-Ok.ensures)
