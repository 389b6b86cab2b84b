use Rattle.oer_write.proofs.ByClosure.{row_written, set_row_written}
use Rattle.oer_write.proofs.encoder.Encoder.encode_component_with.Goals as goal

pub returns-clause-tree : goal.returns-clause-tree
returns-clause-tree g c = λ t known in_sequence. row_written _ _ c.args.tag t known _ (c.component_by.ensures.in_sequence in_sequence) c.component_by.ensures.refused

pub returns-clause-tree_in_set : goal.returns-clause-tree_in_set
returns-clause-tree_in_set g c = λ t known in_set. set_row_written _ _ c.args.tag t known _ (c.component_by.ensures.in_set in_set) c.component_by.ensures.refused
