use Rattle.std.proofs.Common.{◌≡◌, ◌<◌, ◌^◌, take}
use Rattle.asn1_times.proofs.Decimals.{value}
use Rattle.asn1_times.proofs.time_read.number_of.Given as goal

abbrev pub invariant-loop-digit : goal.invariant-loop-digit
invariant-loop-digit l = record { value_is : l.number ≡ value (take l.digit-index l.digits); bound : l.number < 10 ^ l.digit-index }
