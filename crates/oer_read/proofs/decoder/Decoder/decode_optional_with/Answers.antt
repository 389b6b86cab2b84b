use Rattle.std.proofs.Common.{rules, sym, ◌∙◌}
use Rattle.std.specs.Fn.{FnOnceReturnsAtMut}
use Rattle.oer_read.specs.Components.{asking}
use Rattle.oer_read.proofs.Called.{called_at, optional_there, optional_not_there}
use Rattle.oer_read.proofs.decoder.Decoder.decode_optional_with.Goals as goal

pub returns-in-Err : goal.returns-in-Err
returns-in-Err g c =
    let n = c.in_ok-is_there.ensures.ok in
    let next = rw c.if-is_there.true at n.1 in
    let ran = called_at _ _ _ _ _ (asking c.args.self.now n.0) n.2 c.in-Err.ensures in
    let d = c.requires.law n.0 _ _ next ran in
    let same = d.refused.same ∙ sym n.2 in
    optional_not_there _ _ (λ s r t. FnOnceReturnsAtMut g.F.FnOnce c.args.f s r t) c.args.self.now _ n.0 next _ _ _ d ran (search rules)

pub returns-in-Ok : goal.returns-in-Ok
returns-in-Ok g c =
    let n = c.in_ok-is_there.ensures.ok in
    let next = rw c.if-is_there.true at n.1 in
    let ran = called_at _ _ _ _ _ (asking c.args.self.now n.0) n.2 c.in-Ok.ensures in
    optional_there _ _ (λ s r t. FnOnceReturnsAtMut g.F.FnOnce c.args.f s r t) c.args.self.now _ n.0 next _ _ (c.requires.law n.0 _ _ next ran) ran
