use Rattle.oer_leaf_write.proofs.tags.+write_front_groups.Given as goal

abbrev pub decreases-write_front_groups : goal.decreases-write_front_groups
decreases-write_front_groups l = l.number
