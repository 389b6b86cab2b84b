use Rattle.std.proofs.lemmas.Result.{on_ok_weaker, IfErr-weaker}
use Rattle.std.proofs.Common.{List, ap, ◌++◌}
use Rattle.asn1_core.specs.Octets.{pack}
use Rattle.oer_spec.specs.Places.{Item, extension_bit, presence, bodies}
use Rattle.oer_write.specs.Scopes.{any_true, extension_of}
use Rattle.oer_write.proofs.AnyOrder.{any_order}
use Rattle.oer_write.proofs.SetRows.{set_done, set_refused}
use Rattle.oer_write.proofs.encoder.Encoder.encode_set.Goals as goal

pub set-requires-clause-orderly : goal.set-requires-clause-orderly
set-requires-clause-orderly g c = rw c.IS_EXTENSIBLE.ensures c.requires.orderly

pub returns-clause-tree : goal.returns-clause-tree
returns-clause-tree g c = rw (← c.IS_EXTENSIBLE.ensures) (λ roots additions known. on_ok_weaker _ (set_done roots additions known) c.set.ensures.done)

pub returns-clause-tree_refused : goal.returns-clause-tree_refused
returns-clause-tree_refused g c = rw (← c.IS_EXTENSIBLE.ensures) (λ roots additions known. IfErr-weaker _ _ _ (λ x h. set_refused roots additions known x h) c.set.ensures.refused)

pub returns-clause-any_order : goal.returns-clause-any_order
returns-clause-any_order g c = λ f handed distinct reorders. ap (λ (is : List Item). pack (extension_bit f.extensible (any_true f.bitmap) ++ presence is) ++ (bodies is ++ extension_of f.bitmap f.opens)) (any_order f.components handed distinct reorders)
