use Rattle.std.proofs.Common.{◌-◌, ◌/◌, length, ap, arith, length-append}
use Rattle.asn1_times.specs.Times.{decimal}
use Rattle.asn1_times.proofs.Decimals.{length-decimal}
use Rattle.asn1_times.proofs.time_text.TimeText.+push_decimal.Goals as goal

pub push-requires : goal.push-requires
push-requires t c = let h = c.push_decimal.ensures in omega (arith, ap length h, length-append c.args.self.now (decimal (c.args.count - 1) (c.args.number / 10)), length-decimal (c.args.count - 1) (c.args.number / 10))
