use Rattle.std.proofs.Common.{◌≡◌, ◌++◌, map, take}
use Rattle.oergen_print.specs.Sections.{listed_name, type_name}
use Rattle.oergen_print.proofs.files.push_named.Given as goal

abbrev pub invariant-loop-one : goal.invariant-loop-one
invariant-loop-one l = map listed_name l.named.items ≡ map listed_name l.initial.named.items ++ map type_name (take l.one-index l.types)
