use Rattle.std.proofs.Common.{◌≡◌, [], ◌∷◌, map, take}
use Rattle.std.specs.List.{AllZip}
use Rattle.oer_walk.specs.Kinds.{kind_number}
use Rattle.oergen_tables.specs.Names.{IsNamed}
use Rattle.oer_walk.specs.declared.kinds.Kind.TheVariants.{Enumerated}
use Rattle.oergen_tables.proofs.leaves.enumerated_form.Given as goal

abbrev pub invariant-loop-name : goal.invariant-loop-name
invariant-loop-name l = record {
  words : l.form.words.items ≡ kind_number Enumerated ∷ [];
  names : AllZip (IsNamed l.scope.tokens.now) (map (λ one. one.0) (take l.name-index l.name-items)) l.form.values.items;
  numbers : map (λ value. value.number) l.form.values.items ≡ map (λ one. one.1) (take l.name-index l.name-items);
}
