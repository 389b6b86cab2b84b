use Rattle.std.proofs.Common.{◌≡◌, ◌*◌, take, length}
use Rattle.asn1_times.specs.Times.{pairs}
use Rattle.asn1_times.proofs.time_text.TimeText.of_pairs.Given as goal

abbrev pub invariant-loop-number : goal.invariant-loop-number
invariant-loop-number l = record { text_is : l.text ≡ pairs (take l.number-index l.numbers); long : length l.text ≡ 2 * l.number-index }
