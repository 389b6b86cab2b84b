-- How the insertions of a list are seen, and the octets of its long ones.
use Rattle.std.specs.Prelude.{List, [], ◌∷◌, Option, Some, None}
use Rattle.asn1_core.specs.Octets.{Octets}
use Rattle.oer_write.specs.declared.slots.Insertion.{Insertion}
use Rattle.oer_write.specs.declared.slots.Held.{Held}
use Rattle.oer_write.specs.declared.slots.Held.TheVariants.{Nothing, One, Many}
use Rattle.oer_write.specs.declared.slots.Slots.TheInside.{Inside}
use Rattle.oer_write.specs.declared.long.LongOctets.TheInside.{Inside as LongInside}

abbrev pub held_seen : Held → List Insertion
held_seen Nothing = []
held_seen (One i) = i ∷ []
held_seen (Many v) = v.items

abbrev pub slots_seen : Inside → List Insertion
slots_seen s = held_seen s.held

abbrev pub long_seen : LongInside → Octets
long_seen l = elim l.held [ None ↦ [] | Some b ↦ b.value.items ]
