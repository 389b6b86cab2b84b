use Rattle.std.proofs.Common.{◌≡◌, true, false, rules}
use Rattle.std.proofs.lemmas.Result.{on_ok_weaker, IfErr-weaker}
use Rattle.asn1_core.specs.Tags.{holds}
use Rattle.oer_spec.specs.Lengths.{tag_octets}
use Rattle.oer_write.specs.Written.{append}
use Rattle.oer_write.proofs.Chosen.{open_written, root_done, root_refused}
use Rattle.oer_write.proofs.encoder.Encoder.encode_alternative.Goals as goal

pub returns-then-is_among-clause-done : goal.returns-then-is_among-clause-done
returns-then-is_among-clause-done g c =
    let put : c.put_tag.new.self ≡ append (tag_octets c.args.tag) c.args.self.now = search rules in
    let root : holds g.E.Choice.root_tags c.args.tag ≡ true = search rules in
    on_ok_weaker c.encode.result (root_done g.E.Choice.root_tags g.E.Choice.addition_tags c.args.tag _ c.args.self.now c.put_tag.new.self c.encode.new.encoder root put) c.encode.ensures.done

pub returns-then-is_among-clause-refused : goal.returns-then-is_among-clause-refused
returns-then-is_among-clause-refused g c =
    let put : c.put_tag.new.self ≡ append (tag_octets c.args.tag) c.args.self.now = search rules in
    IfErr-weaker c.encode.result _ _ (λ x h. root_refused g.E.Choice.root_tags g.E.Choice.addition_tags c.args.tag _ c.args.self.now c.put_tag.new.self c.encode.new.encoder x put h) c.encode.ensures.refused

pub returns-clause-done : goal.returns-clause-done
returns-clause-done g c =
    let put : c.put_tag.new.self ≡ append (tag_octets c.args.tag) c.args.self.now = search rules in
    let other : holds g.E.Choice.root_tags c.args.tag ≡ false = search rules in
    open_written c.put_own_open.result g.E.Choice.root_tags g.E.Choice.addition_tags c.args.tag _ c.args.self.now c.put_tag.new.self c.put_own_open.new.self other put c.put_own_open.ensures.short c.put_own_open.ensures.done

pub returns-clause-refused : goal.returns-clause-refused
returns-clause-refused g c =
    let put : c.put_tag.new.self ≡ append (tag_octets c.args.tag) c.args.self.now = search rules in
    IfErr-weaker c.put_own_open.result _ _ (λ x h. root_refused g.E.Choice.root_tags g.E.Choice.addition_tags c.args.tag _ c.args.self.now c.put_tag.new.self c.put_own_open.new.self x put h) c.put_own_open.ensures.refused
