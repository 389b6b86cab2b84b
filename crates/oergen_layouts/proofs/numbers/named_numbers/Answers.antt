use Rattle.std.proofs.Common.{rules, ◌≡◌, pos, int_eq, to_z, of_z, true, false, is_some, get_or, take, sym, ap, ◌∙◌, arith}
use Rattle.std.proofs.lemmas.Grind.{common_steps}
use Rattle.std.proofs.lemmas.Int.{to_z-of_z}
use Rattle.std.proofs.lemmas.List.Elements.{All-more}
use Rattle.std.specs.Int.{w128}
use Rattle.std.specs.List.{list_any}
use Rattle.oergen_layouts.specs.Numbers.{IsI128}
use Rattle.oergen_layouts.proofs.Distinct.{distinct_more, not_distinct, seen_more}
use Rattle.oergen_layouts.proofs.numbers.named_numbers.Goals as goal

pub returns-in-Some-clause-refused : goal.returns-in-Some-clause-refused
returns-in-Some-clause-refused c = λ distinct.
    let numbers = c.args.numbers.now in
    let at = c.loop-at.at in
    let number = get_or numbers at (pos 0) in
    let same : to_z w128 (of_z w128 number) ≡ number = search (rules, to_z-of_z) in
    let old = rw same at c.in_ok-other.ensures.old in
    let some : list_any (int_eq number) (take at numbers) ≡ true = sym (c.loop-at.invariant.seen number) ∙ ap is_some (sym old ∙ c.in-Some.is) in
    absurd (not_distinct numbers at c.loop-at-test.true some distinct)

pub loop-at-preserved : goal.loop-at-preserved
loop-at-preserved c =
    let numbers = c.args.numbers.now in
    let at = c.loop-at.at in
    let number = get_or numbers at (pos 0) in
    let same : to_z w128 (of_z w128 number) ≡ number = search (rules, to_z-of_z) in
    let old = rw same at c.in_ok-other.ensures.old in
    let new = rw same at c.in_ok-other.ensures.updates in
    let none : list_any (int_eq number) (take at numbers) ≡ false = sym (c.loop-at.invariant.seen number) ∙ ap is_some (sym old ∙ c.in_default.is) in
    record {
      names = grind (arith, common_steps);
      numbers = grind (arith, common_steps);
      seen = seen_more c.loop-at.seen c.insert.new.self numbers at _ c.loop-at-test.true new c.loop-at.invariant.seen;
      distinct = distinct_more numbers at c.loop-at-test.true none c.loop-at.invariant.distinct;
      fits = let fit : IsI128 number = search rules in All-more IsI128 numbers at (pos 0) c.loop-at-test.true c.loop-at.invariant.fits fit;
    }
