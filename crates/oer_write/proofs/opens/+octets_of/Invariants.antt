use Rattle.oer_write.proofs.opens.+octets_of.Given as goal

abbrev pub decreases-octets_of : goal.decreases-octets_of
decreases-octets_of l = l.number
