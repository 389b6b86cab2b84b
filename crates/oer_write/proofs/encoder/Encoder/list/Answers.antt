use Rattle.std.proofs.Common.{◌≡◌, ◌^◌, ◌<◌, length, rules}
use Rattle.std.proofs.lemmas.Result.{on_ok_weaker, IfErr-weaker}
use Rattle.asn1_core.specs.declared.error.EncodeError.{EncodeError}
use Rattle.oer_spec.specs.Lengths.{quantity_octets}
use Rattle.oer_write.specs.Lists.{PromiseAt, ElementsDone, ElementsBroken}
use Rattle.oer_write.specs.Written.{append}
use Rattle.oer_write.proofs.Elements.{list_appended, list_broken}
use Rattle.oer_write.proofs.encoder.Encoder.list.Goals as goal

pub returns-clause-done : goal.returns-clause-done
returns-clause-done g c =
    let first : c.put_quantity.new.self ≡ append (quantity_octets (length c.args.value.now)) c.args.self.now = search rules in
    let short : length c.args.value.now < 2 ^ 64 = search rules in
    on_ok_weaker c.put_all.result (λ (h : ElementsDone (PromiseAt g.F.Fn c.args.f.now) c.args.value.now c.put_quantity.new.self.octets c.put_all.new.self.octets). list_appended c.args.self.now c.put_quantity.new.self c.put_all.new.self short first c.put_all.ensures.left h) c.put_all.ensures.done

pub returns-clause-refused : goal.returns-clause-refused
returns-clause-refused g c =
    let first : c.put_quantity.new.self ≡ append (quantity_octets (length c.args.value.now)) c.args.self.now = search rules in
    IfErr-weaker c.put_all.result (λ x. ElementsBroken (PromiseAt g.F.Fn c.args.f.now) c.args.value.now x) _ (λ (x : EncodeError) (h : ElementsBroken (PromiseAt g.F.Fn c.args.f.now) c.args.value.now x). list_broken c.args.self.now c.put_quantity.new.self c.put_all.new.self (quantity_octets (length c.args.value.now)) x first c.put_all.ensures.left c.put_all.ensures.begins h) c.put_all.ensures.refused
