use Rattle.std.proofs.Common.{refl}
use Rattle.std.proofs.lemmas.Result.{err_from_is_err_and}
use Rattle.oer_read.specs.Choices.{Stopped, LeftOver}
use Rattle.oer_read.proofs.ChoiceLaw.{chosen_picks, choice_rear}
use Rattle.oer_read.proofs.decoder.Decoder.decode_choice_with.Goals as goal

pub returns-in_err-value-in-Ok-clause-refused : goal.returns-in_err-value-in-Ok-clause-refused
returns-in_err-value-in-Ok-clause-refused g c =
    let p = err_from_is_err_and c.from_residual.result c.from_residual.ensures.1 in
    rw (p.1, p.2) (Stopped (record { tag = c.in-Ok.tag; lent = c.in-Ok.chosen; behind = _ }) c.f.new.arg2 c.in-Ok.ensures.state (record { shown = _; shows = refl; left = _; met = c.in_err-value-in-Ok.ensures; leaves = refl }))

pub returns-in-Err-behind-clause-refused : goal.returns-in-Err-behind-clause-refused
returns-in-Err-behind-clause-refused g c =
    LeftOver (record { tag = c.in-Ok.tag; lent = c.in-Ok.chosen; behind = _ }) c.f.new.arg2 c.in_ok-value-in-Ok.value c.in-Ok.ensures.state (record { shown = _; shows = refl; left = _; met = c.in_ok-value-in-Ok.ensures; leaves = refl })
    (rw (c.refusal-in-Err-behind.ensures, ← c.remaining.ensures) c.in-Err-behind.ensures) (rw c.refusal-in-Err-behind.ensures refl)

pub returns-in-Ok-behind-clause-read : goal.returns-in-Ok-behind-clause-read
returns-in-Ok-behind-clause-read g c = record {
  chosen = record { tag = c.in-Ok.tag; lent = c.in-Ok.chosen; behind = _ };
  opened = c.in-Ok.ensures.state;
  after = c.f.new.arg2;
  ran = record { shown = _; shows = refl; left = _; met = c.in_ok-value-in-Ok.ensures; leaves = refl };
  rest = _;
  closed = rw (← c.remaining.ensures) c.in-Ok-behind.ensures;
  left = c.set_remaining.ensures;
  octets = c.in-Ok.ensures.octets;
}

pub returns-in-Ok-behind-clause-rear : goal.returns-in-Ok-behind-clause-rear
returns-in-Ok-behind-clause-rear g c =
    rw c.set_remaining.ensures (choice_rear c.args.self.now g.D.Choice.root_tags g.D.Choice.addition_tags _ c.f.new.arg2.input _ (chosen_picks c.args.self.now g.D.Choice.root_tags g.D.Choice.addition_tags g.D.Choice.is_extensible _ c.in-Ok.ensures.octets c.in-Ok.ensures.state)
    (c.requires.keeps _ c.f.new.arg2 c.in_ok-value-in-Ok.value c.in-Ok.ensures.state (record { shown = _; shows = refl; left = _; met = c.in_ok-value-in-Ok.ensures; leaves = refl }))
    (rw (← c.remaining.ensures) c.in-Ok-behind.ensures))
