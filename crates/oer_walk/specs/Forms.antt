-- How leaves lie in octets.
use Rattle.std.specs.Prelude.{ℕ, ◌*◌, Option, Some, None}
use Rattle.asn1_core.specs.Bounds.{fixed_size}
use Rattle.asn1_core.specs.Octets.{octets_for}
use Rattle.oer_spec.specs.Leaves.{Width, Fixed as FixedWidth, Counted as CountedWidth, width_of, unit_of}
use Rattle.oer_spec.specs.Tree.{Leaf, Boolean, Null, Enum, Int, Bits, Named, Text}
use Rattle.oer_walk.specs.declared.table.Form.{Form}
use Rattle.oer_walk.specs.declared.table.Form.TheVariants.{Fixed, Counted, Enumerated}

abbrev pub width_form : Width → Form
width_form (FixedWidth sign k) = Fixed k
width_form (CountedWidth sign) = Counted

-- bits, and units of so many octets, of a fixed size or behind a length
abbrev pub bits_form : Option ℕ → Form
bits_form (Some n) = Fixed (octets_for n)
bits_form None = Counted

abbrev pub units_form : ℕ → Option ℕ → Form
units_form unit (Some n) = Fixed (n * unit)
units_form unit None = Counted

abbrev pub leaf_form : Leaf → Form
leaf_form (Boolean b) = Fixed 1
leaf_form Null = Fixed 0
leaf_form (Enum n) = Enumerated
leaf_form (Int r n) = width_form (width_of r)
leaf_form (Bits s b) = bits_form (fixed_size s)
leaf_form (Named s b) = bits_form (fixed_size s)
leaf_form (Text r s c) = units_form (unit_of r) (fixed_size s)
