use Rattle.std.proofs.Common.{rules, arith, ◌≡◌, refl, take, to_z, of_z}
use Rattle.std.proofs.lemmas.Grind.{common_steps}
use Rattle.std.proofs.lemmas.Int.{to_z-of_z}
use Rattle.std.specs.Int.{w128}
use Rattle.std.specs.List.{filter_map}
use Rattle.oergen_layouts.proofs.Giving.{none_left, numbered_all, numbered_more, only_all, only_more}
use Rattle.oergen_layouts.proofs.numbers.given_numbers.Goals as goal

pub loop-at-preserved : goal.loop-at-preserved
loop-at-preserved c =
    let same : to_z w128 (of_z w128 c.in-Some.number) ≡ c.in-Some.number = search (rules, to_z-of_z) in
    let taken = filter_map (λ own. own) (take c.args.root c.args.written.now) in
    let given = c.in-Some.ensures.given taken c.in_ok-taken.ensures in
    record {
      numbered = λ rest h. numbered_more taken c.args.root c.loop-at.at _ _ c.args.written.now _ _ c.in-Some.number rest c.loop-at-test.true given (cc (same, c.saturating_sub.ensures, c.next_behind-next.ensures)) (cc (same, c.in_ok-push.ensures.items)) c.loop-at.invariant.numbered h;
      each = grind (arith, common_steps);
      only = λ numbers are fits. only_more taken c.args.root c.loop-at.at _ _ c.args.written.now _ _ c.in-Some.number numbers c.loop-at-test.true given (cc (same, c.saturating_sub.ensures, c.next_behind-next.ensures)) (cc (same, c.in_ok-push.ensures.items)) (c.loop-at.invariant.only numbers are fits);
    }

pub returns-clause-numbers : goal.returns-clause-numbers
returns-clause-numbers c = numbered_all (filter_map (λ own. own) (take c.args.root c.args.written.now)) c.args.root c.loop-at.at _ c.args.written.now _ c.loop-at-test.false c.loop-at.invariant.numbered

pub returns-clause-only : goal.returns-clause-only
returns-clause-only c = λ numbers are fits. only_all (filter_map (λ own. own) (take c.args.root c.args.written.now)) _ c.loop-at.at _ c.args.written.now _ numbers c.loop-at-test.false (c.loop-at.invariant.only numbers are fits)

pub returns-in_default-clause-refused : goal.returns-in_default-clause-refused
returns-in_default-clause-refused c = λ numbers are fits.
    let taken = filter_map (λ own. own) (take c.args.root c.args.written.now) in
    let none = c.in_default.ensures.none taken c.in_ok-taken.ensures refl in
    absurd (none_left taken _ _ c.args.written.now numbers c.loop-at.at c.loop-at-test.true none.0 none.1 (c.loop-at.invariant.only numbers are fits).1 fits)
