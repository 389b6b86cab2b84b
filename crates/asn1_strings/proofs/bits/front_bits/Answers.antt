use Rattle.asn1_strings.proofs.BitLists.{octet_front}
use Rattle.asn1_strings.proofs.bits.front_bits.Goals as goal

pub returns : goal.returns
returns c = octet_front c.args.bits c.args.octet c.requires.some c.requires.few c.ranges.octet.fits
