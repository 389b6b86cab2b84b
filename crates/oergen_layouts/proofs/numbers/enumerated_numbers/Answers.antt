use Rattle.std.proofs.Common.{map}
use Rattle.oergen_layouts.specs.Enumerations.{AreNumbered, AreNumbersOf}
use Rattle.oergen_layouts.proofs.Writing.{ok_same}
use Rattle.oergen_layouts.proofs.numbers.enumerated_numbers.Goals as goal

pub returns-clause-numbers : goal.returns-clause-numbers
returns-clause-numbers c =
    let tokens = c.args.scope.tokens.now in
    let items = c.args.items.now in
    let written = c.in_ok-written.written.items in
    let are : AreNumbered c.args.root written c.in_ok-numbers.numbers.items = rw c.as_slice.ensures.value at c.in_ok-numbers.ensures.numbers in
    let of_given : AreNumbersOf tokens items c.args.root c.in_ok-numbers.numbers.items = record {
      written = written;
      are_of_items = c.in_ok-written.ensures.named;
      are_as_written = c.in_ok-written.ensures.as_written;
      are_numbered = are;
    } in
    let given = rw c.as_slice-2.ensures.value at c.named_numbers.ensures.numbers in
    ok_same c.named_numbers.result (λ all. map (λ one. one.1) all.items) c.in_ok-numbers.numbers.items (AreNumbersOf tokens items c.args.root) given of_given
