use Rattle.std.proofs.Common.{◌+◌, ◌*◌, [], ◌∷◌, subst}
use Rattle.asn1_core.specs.Tags.{class_number}
use Rattle.oer_spec.specs.Writing.{AppendsOrMemory, group_octets}
use Rattle.oer_leaf_write.proofs.WriteTags.{appends_more, long_tag}
use Rattle.oer_leaf_write.proofs.tags.write_long_tag.Goals as goal

pub returns : goal.returns
returns c = subst (λ o. AppendsOrMemory c.write_groups.result o c.args.out.now.items c.write_groups.new.out.items) (long_tag c.args.tag c.requires)
    (appends_more c.write_groups.result ((class_number c.args.tag.class * 64 + 63) ∷ []) (group_octets c.args.tag.value) c.args.out.now.items c.push.new.self.items c.write_groups.new.out.items (cc (c.in_ok-push.ensures.items, c.number.ensures)) c.write_groups.ensures)
