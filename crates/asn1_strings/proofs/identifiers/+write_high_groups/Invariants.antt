use Rattle.asn1_strings.proofs.identifiers.+write_high_groups.Given as goal

abbrev pub decreases-write_high_groups : goal.decreases-write_high_groups
decreases-write_high_groups l = l.number
