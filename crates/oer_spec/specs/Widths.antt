-- What clauses see of an integer's layout.
use Rattle.oer_spec.specs.Leaves.{Width, Fixed, Counted}
use Rattle.oer_spec.specs.declared.leaf.widths.IntegerWidth.{IntegerWidth}
use Rattle.oer_spec.specs.declared.leaf.widths.IntegerWidth.TheVariants as width

abbrev pub width_view : IntegerWidth → Width
width_view (width.Fixed signed octets) = Fixed signed octets
width_view (width.Counted signed) = Counted signed
