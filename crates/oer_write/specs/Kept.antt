-- How the root components of an open set are seen.
use Rattle.std.specs.Prelude.{◌≡◌, ◌+◌, ◌≤◌, List, [], ◌∷◌, length, map, take, drop, ⊤}
use Rattle.asn1_core.specs.Octets.{Octets}
use Rattle.oer_spec.specs.Places.{Item}
use Rattle.oer_write.specs.declared.component.Component.{Component}
use Rattle.oer_write.specs.declared.component.Components.TheInside.{Inside}

-- the octets of all components lie one behind another
abbrev pub item : Octets → Component → Item
item o c = record { tag = c.tag; marked = c.marked; bit = c.bit; octets = take c.size (drop c.start o) }

abbrev pub AreLaid : Octets → List Component → Type 0
AreLaid o [] = ⊤
AreLaid o (c ∷ cs) = (c.start + c.size ≤ length o) × AreLaid o cs

abbrev pub kept : Inside → List Item
kept k = map (item k.octets.items) k.places.items

pub record AreWithin (k : Inside) : Type 0 where
  pub laid : AreLaid k.octets.items k.places.items
  pub none : k.insertions ≡ []
