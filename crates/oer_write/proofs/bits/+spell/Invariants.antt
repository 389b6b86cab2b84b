use Rattle.oer_write.proofs.bits.+spell.Given as goal

abbrev pub decreases-spell : goal.decreases-spell
decreases-spell l = l.count
