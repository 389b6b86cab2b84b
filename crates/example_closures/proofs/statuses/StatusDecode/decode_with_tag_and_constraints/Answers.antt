use Rattle.std.proofs.Common.{◌<◌, rules, arith}
use Rattle.example_closures.specs.Statuses.{part_tree, IsPartAt, StatusMade}
use Rattle.example_closures.proofs.StatusLaw.{status_law}
use Rattle.oer_read.specs.Law.{Decodes}
use Rattle.oer_read.proofs.SetCalls.{lent_call}
use Rattle.oer_read.proofs.SetPromises.{promise_of_field, promise_of_fields}
use Rattle.example_closures.proofs.statuses.StatusDecode.decode_with_tag_and_constraints.Goals as goal

pub decode_set-requires-clause-callable : goal.decode_set-requires-clause-callable
decode_set-requires-clause-callable c call s lends p e =
    let h : call.index < 2 = lent_call _ (λ d. d.index < 2) _ _ _ _ call s (omega arith, (omega arith, tt)) tt lends in
    search (rules, h)

pub returns-clause-law : goal.returns-clause-law
returns-clause-law c =
    status_law _ _ (promise_of_field _ _ (λ call s r t. Decodes part_tree (IsPartAt call.index) s r t) (λ p q n tag r k. k.1)) (promise_of_fields _ _ StatusMade (λ handed r k. k.1)) _ _ _ c.decode_set.ensures.read c.decode_set.ensures.refused c.decode_set.ensures.unchanged
