use Rattle.std.proofs.Common.{◌≡◌, map, take}
use Rattle.std.specs.List.{All, flat_map}
use Rattle.oergen_print.specs.Sections.{IsSectionOf, listed_name, of_section, type_name}
use Rattle.oergen_print.proofs.files.named_types.Given as goal

abbrev pub invariant-loop-section : goal.invariant-loop-section
invariant-loop-section l = All (IsSectionOf l.types) l.all → map listed_name l.named.items ≡ map type_name (flat_map (of_section l.types) (take l.section-index l.all))
