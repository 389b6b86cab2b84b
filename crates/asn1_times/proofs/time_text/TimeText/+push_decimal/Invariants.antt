use Rattle.asn1_times.proofs.time_text.TimeText.+push_decimal.Given as goal

abbrev pub decreases-push_decimal : goal.decreases-push_decimal
decreases-push_decimal l = l.count
