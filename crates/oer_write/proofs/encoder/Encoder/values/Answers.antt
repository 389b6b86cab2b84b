use Rattle.std.proofs.Common.{◌≡◌, ◌^◌, ◌<◌, length, rules}
use Rattle.std.proofs.lemmas.Result.{on_ok_weaker, IfErr-weaker}
use Rattle.oer_spec.specs.Lengths.{quantity_octets}
use Rattle.oer_write.specs.Written.{append}
use Rattle.oer_write.proofs.Elements.{list_appended}
use Rattle.oer_write.proofs.Lawful.{law_broken}
use Rattle.oer_write.proofs.encoder.Encoder.values.Goals as goal

pub returns-clause-done : goal.returns-clause-done
returns-clause-done g c =
    let first : c.put_quantity.new.self ≡ append (quantity_octets (length c.args.value.now)) c.args.self.now = search rules in
    let short : length c.args.value.now < 2 ^ 64 = search rules in
    on_ok_weaker c.put_values.result (λ h. list_appended c.args.self.now c.put_quantity.new.self c.put_values.new.encoder short first h.0 h.1) c.put_values.ensures.done

pub returns-clause-refused : goal.returns-clause-refused
returns-clause-refused g c =
    let first : c.put_quantity.new.self ≡ append (quantity_octets (length c.args.value.now)) c.args.self.now = search rules in
    IfErr-weaker c.put_values.result _ _ (λ x h. law_broken (g.E.Spelled.tree g.E.AsnType.CONSTRAINTS) g.E.Spelled.IsValue c.args.value.now c.args.self.now c.put_quantity.new.self c.put_values.new.encoder (quantity_octets (length c.args.value.now)) x first c.put_values.ensures.keeps h) c.put_values.ensures.refused
