-- What contracts see of a decoder's private fields.
use Rattle.std.specs.Prelude.{map}
use Rattle.std.specs.Option.{option_map}
use Rattle.asn1_core.specs.Rows.{row}
use Rattle.oer_read.specs.declared.decoder.Mark.{Mark}
use Rattle.oer_read.specs.declared.scopes.OpenScope.{OpenScope}
use Rattle.oer_leaf_read.specs.Views.{bits_left}
use Rattle.oer_read.specs.State.{Frame, State, asks_of, places_of}

abbrev pub frame_of : OpenScope → Frame
frame_of s = record {
  is_set = s.is_set;
  asks = asks_of (map row s.roots.now) (bits_left s.presence);
  extensible = s.extensible;
  extended = s.extended;
  additions = places_of (map row s.additions.now);
  bitmap = option_map bits_left s.bitmap;
}

-- the decoder at a mark of its scope
abbrev pub at_mark : State → Mark → State
at_mark s m = record s {
  input = m.input.now;
  frame = record s.frame {
    asks = asks_of (map row m.roots.now) (bits_left m.presence);
    additions = places_of (map row m.additions.now);
    bitmap = option_map bits_left m.bitmap;
  };
}
