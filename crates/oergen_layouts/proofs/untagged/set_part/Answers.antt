use Rattle.std.proofs.Common.{◌≡◌, length, arith}
use Rattle.std.proofs.lemmas.Grind.{common_steps}
use Rattle.oergen_layouts.proofs.Placing.{is_countable, not_countable, root_in_set}
use Rattle.oergen_layouts.proofs.untagged.set_part.Goals as goal

pub returns-clause-made : goal.returns-clause-made
returns-clause-made c = λ has.
    let part = c.args.part.now in
    let old = c.args.taken.now.parts.items in
    let before : c.len-before.result ≡ length old = grind (arith, common_steps, c.len-before.ensures) in
    let counts = rw (c.as_slice.ensures.value, before) at c.counted_tag-tag.ensures in
    root_in_set c.args.all.now part c.in_ok-named.field-0 c.args.row old c.push_part.new.flat.parts.items c.counted_tag-tag.result has (c.in_ok-push_part.ensures.in_place has) counts c.if-is_none.ensures c.in_ok-named.ensures

pub returns-clause-countable : goal.returns-clause-countable
returns-clause-countable c = λ has.
    let part = c.args.part.now in
    let old = c.args.taken.now.parts.items in
    let before : c.len-before.result ≡ length old = grind (arith, common_steps, c.len-before.ensures) in
    let counts = rw (c.as_slice.ensures.value, before) at c.counted_tag-tag.ensures in
    is_countable c.args.all.now part c.args.row old c.push_part.new.flat.parts.items c.counted_tag-tag.result (c.in_ok-push_part.ensures.in_place has) counts c.if-is_none.ensures c.in_ok-push_part.ensures.placeable

pub returns-then-is_none-clause-refused : goal.returns-then-is_none-clause-refused
returns-then-is_none-clause-refused c = λ has can apart.
    let part = c.args.part.now in
    let old = c.args.taken.now.parts.items in
    let before : c.len-before.result ≡ length old = grind (arith, common_steps, c.len-before.ensures) in
    let counts = rw (c.as_slice.ensures.value, before) at c.counted_tag-tag.ensures in
    absurd (not_countable c.args.all.now part c.args.row old c.push_part.new.flat.parts.items c.counted_tag-tag.result (c.in_ok-push_part.ensures.in_place has) counts c.if-is_none.ensures can)
