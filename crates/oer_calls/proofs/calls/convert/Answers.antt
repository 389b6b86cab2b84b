use Rattle.oer_calls.proofs.Recoding.{converted, not_converted}
use Rattle.oer_calls.proofs.calls.convert.Goals as goal

pub returns-in-Ok-recode : goal.returns-in-Ok-recode
returns-in-Ok-recode g c =
    let s = g.Sent.Spelled in
    let k = g.Sent.AsnType in
    let w = g.Wanted.Spelled in
    let j = g.Wanted.AsnType in
    converted (s.tree k.CONSTRAINTS) s.IsValue (g.Sent.Decode.Answered k.CONSTRAINTS) (s.is_tree k.CONSTRAINTS k.consistent) (w.tree j.CONSTRAINTS) w.IsValue (g.Wanted.Decode.Answered j.CONSTRAINTS) (w.is_tree j.CONSTRAINTS j.consistent) c.args.options.codec c.args.options.levels c.args.input.now _ c.in-Ok.sent.consumed c.in-Ok.ensures _ c.in-Ok-recode.wanted.consumed c.args.out.now c.placed.result c.placed.new.out
    (rw c.as_slice.ensures.value at c.in-Ok-recode.ensures)
    (rw c.as_slice-in-Ok-recode.ensures.value at c.placed.ensures.placed)

pub returns : goal.returns
returns g c =
    let s = g.Sent.Spelled in
    let k = g.Sent.AsnType in
    let w = g.Wanted.Spelled in
    let j = g.Wanted.AsnType in
    not_converted (s.tree k.CONSTRAINTS) s.IsValue (g.Sent.Decode.Answered k.CONSTRAINTS) (s.is_tree k.CONSTRAINTS k.consistent) (w.tree j.CONSTRAINTS) w.IsValue (g.Wanted.Decode.Answered j.CONSTRAINTS) (w.is_tree j.CONSTRAINTS j.consistent) c.args.options.codec c.args.options.levels c.args.input.now _ c.in-Ok.sent.consumed c.in-Ok.ensures c.in-Err-recode.e c.args.out.now
    (rw c.as_slice.ensures.value at c.in-Err-recode.ensures)
