use Rattle.std.proofs.Common.{◌≡◌, true, false, Ok, rules}
use Rattle.oer_read.specs.Choices.{place_at}
use Rattle.oer_read.proofs.ChoiceLaw.{chosen_by}
use Rattle.oer_read.proofs.decoder.Decoder.choose.Goals as goal

pub returns-then-branch-clause-state : goal.returns-then-branch-clause-state
returns-then-branch-clause-state g c =
    let root : place_at g.D.Choice.root_tags g.D.Choice.addition_tags g.D.Choice.is_extensible c.in_ok-tag.tag ≡ Ok true = search rules in
    chosen_by c.args.self.now g.D.Choice.root_tags g.D.Choice.addition_tags g.D.Choice.is_extensible c.in_ok-levels.levels c.in_ok-tag.tag c.in_ok-tag.rest.now true _ (search rules) (search rules) root (search rules)

pub returns-clause-state : goal.returns-clause-state
returns-clause-state g c =
    let beyond : place_at g.D.Choice.root_tags g.D.Choice.addition_tags g.D.Choice.is_extensible c.in_ok-tag.tag ≡ Ok false = search rules in
    chosen_by c.args.self.now g.D.Choice.root_tags g.D.Choice.addition_tags g.D.Choice.is_extensible c.in_ok-levels.levels c.in_ok-tag.tag c.in_ok-tag.rest.now false _ (search rules) (search rules) beyond (search rules)
