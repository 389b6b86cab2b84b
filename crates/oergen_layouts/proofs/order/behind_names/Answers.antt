use Rattle.std.proofs.Common.{◌≡◌, ◌∙◌, ◌+◌, ◌-◌, ◌<◌, Option, ℕ, ap, sym, arith}
use Rattle.std.specs.Option.{unwrap_or}
use Rattle.oergen_layouts.proofs.Alternatives.{found, missed, names_end, names_more, names_stop}
use Rattle.oergen_layouts.proofs.order.behind_names.Goals as goal

pub returns-in-Some-2 : goal.returns-in-Some-2
returns-in-Some-2 c =
    let e = found c.args.definitions.now c.loop.at c.in-Some.definition c.in-Some.ensures.lookup in
    sym (names_stop (64 - c.loop.counter) c.loop.at c.args.definitions.now c.in-Some.definition.now e (sym c.is_name.ensures ∙ c.if-is_name.false)) ∙ c.loop.invariant

pub returns-in-Some-2-2 : goal.returns-in-Some-2-2
returns-in-Some-2-2 c = sym (names_end (64 - c.loop.counter) c.loop.at c.args.definitions.now (missed c.args.definitions.now c.loop.at c.in-Some-2.ensures.lookup)) ∙ c.loop.invariant

pub loop-preserved : goal.loop-preserved
loop-preserved c =
    let e = found c.args.definitions.now c.loop.at c.in-Some.definition c.in-Some.ensures.lookup in
    let some : 0 < 64 - c.loop.counter = omega (arith, c.loop-test.true) in
    let next : 64 - (c.loop.counter + 1) ≡ 64 - c.loop.counter - 1 = omega arith in
    let to = c.unwrap_or-at.ensures ∙ ap (λ (it : Option ℕ). unwrap_or it c.loop.at) c.first_target.ensures in
    sym (names_more (64 - c.loop.counter) (64 - (c.loop.counter + 1)) c.loop.at c.unwrap_or-at.result c.args.definitions.now c.in-Some.definition.now some next e (sym c.is_name.ensures ∙ c.if-is_name.true) to) ∙ c.loop.invariant
