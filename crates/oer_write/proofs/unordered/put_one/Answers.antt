use Rattle.std.proofs.Common.{◌≡◌, ◌-◌, length, rules}
use Rattle.oer_write.proofs.Cutting.{one_more_written, whole_more}
use Rattle.oer_write.proofs.unordered.put_one.Goals as goal

pub returns-clause-done : goal.returns-clause-done
returns-clause-done g c =
    let size : c.len.result - c.len-before.result ≡ length c.append_value.new.out.items - length c.args.octets.now.items = search rules in
    rw (← c.CONSTRAINTS.ensures) (one_more_written _ _ c.args.x.now c.args.octets.now.items c.append_value.new.out.items c.args.sizes.now.items c.push_size.new.sizes.items (c.len.result - c.len-before.result) c.args.count c.in_ok-next.next
    c.in_ok-append_value.ensures.done.0 c.in_ok-append_value.ensures.value c.in_ok-append_value.ensures.done.1 size c.requires.whole c.in_ok-push_size.ensures.done c.in_ok-next.ensures.done.0 c.in_ok-next.ensures.done.1)

pub returns-clause-whole : goal.returns-clause-whole
returns-clause-whole g c =
    let size : c.len.result - c.len-before.result ≡ length c.append_value.new.out.items - length c.args.octets.now.items = search rules in
    whole_more c.args.octets.now.items c.append_value.new.out.items _ c.args.sizes.now.items c.push_size.new.sizes.items (c.len.result - c.len-before.result) c.in_ok-append_value.ensures.done.1 size c.requires.whole c.in_ok-push_size.ensures.done
