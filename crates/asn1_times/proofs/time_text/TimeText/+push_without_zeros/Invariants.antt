use Rattle.asn1_times.proofs.time_text.TimeText.+push_without_zeros.Given as goal

abbrev pub decreases-push_without_zeros : goal.decreases-push_without_zeros
decreases-push_without_zeros l = l.count
