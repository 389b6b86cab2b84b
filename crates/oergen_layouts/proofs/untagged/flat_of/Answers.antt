use Rattle.std.proofs.Common.{◌≡◌, false, ap}
use Rattle.oergen_layouts.specs.Rows.{is_choice, is_set}
use Rattle.oergen_layouts.proofs.Placeable.{own_are_apart}
use Rattle.oergen_layouts.proofs.untagged.flat_of.Goals as goal

pub returns-in_ok-flat_choice-in-Choice-clause-refused : goal.returns-in_ok-flat_choice-in-Choice-clause-refused
returns-in_ok-flat_choice-in-Choice-clause-refused c =
    let body = c.args.definition.now.of.now.body in
    let flat = c.in_ok-flat_choice-in-Choice in
    let other : is_set body ≡ false = ap is_set c.in-Choice.is in
    record {
      choice = λ choice untagged. (flat.ensures.placeable, own_are_apart flat.field-0.parts.items _ flat.ensures.alternatives flat.ensures.tags);
      in_set = λ set untagged. absurd cc;
    }

pub returns-in_ok-flat_set-in-Set-clause-refused : goal.returns-in_ok-flat_set-in-Set-clause-refused
returns-in_ok-flat_set-in-Set-clause-refused c =
    let body = c.args.definition.now.of.now.body in
    let flat = c.in_ok-flat_set-in-Set in
    let other : is_choice body ≡ false = ap is_choice c.in-Set.is in
    record {
      choice = λ choice untagged. absurd cc;
      in_set = λ set untagged. (flat.ensures.countable, own_are_apart flat.ensures.parts.places _ flat.ensures.parts.are_places flat.ensures.parts.are_own);
    }
