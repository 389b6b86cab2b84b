use Rattle.std.proofs.Common.{◌≡◌, false, [], ap, sym, ◌∙◌, rules}
use Rattle.oer_write.specs.Written.{Written}
use Rattle.oer_write.proofs.Holding.{outermost_around, outermost_seen}
use Rattle.oer_write.proofs.encoder.Encoder.output.Goals as goal

pub returns-clause-taken : goal.returns-clause-taken
returns-clause-taken c =
    let taken : c.replace.result.items ≡ c.self.inside.output.now.items = search rules in
    let shut : c.self.inside.scope.is_open ≡ false = ap (λ (w : Written). w.frame.is_open) c.self.view_is ∙ c.requires.shut in
    taken ∙ sym (outermost_around c.self.inside.scope c.self.inside.is_lent c.self.inside.is_inside c.self.inside.output.now.items c.self.inside.insertions c.self.invariant shut (ap (λ (w : Written). w.outer) c.self.view_is ∙ c.requires.outermost)) ∙ ap (λ (w : Written). w.octets) c.self.view_is

pub returns-clause-left : goal.returns-clause-left
returns-clause-left c =
    let none : c.replace.new.dest.items ≡ [] = search rules in
    let shut : c.self.inside.scope.is_open ≡ false = ap (λ (w : Written). w.frame.is_open) c.self.view_is ∙ c.requires.shut in
    outermost_seen c.self.inside.scope c.self.inside.is_lent c.self.inside.is_inside c.self.inside.output.now.items c.replace.new.dest.items c.self.inside.insertions c.self.invariant shut (ap (λ (w : Written). w.outer) c.self.view_is ∙ c.requires.outermost) none ∙ ap (λ (w : Written). record w { octets = [] }) c.self.view_is
