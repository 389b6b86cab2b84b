use Rattle.std.proofs.Common.{sym, ◌∙◌}
use Rattle.oer_rows.proofs.Chained.{made_read, made_value}
use Rattle.oer_knots.proofs.sequences.read_knot_row.Goals as goal

pub returns : goal.returns
returns g c =
    let read = c.in_ok-read.ensures.read in
    let same = c.from_row.ensures ∙ sym (g.R.Slotted.filled_once _ _ (sym read.1 ∙ c.taken.ensures)) in
    record {
      read = made_read g.R.Components.schema g.T.Rowed.components _ _ read.0 _ same read.2;
      value = made_value g.R.Components.schema g.T.Rowed.components read.0 _ same (read.3, read.4);
      refused = tt;
    }
