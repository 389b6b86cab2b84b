use Rattle.example_recursive.proofs.types_08.BranchEncode.+encode_with_tag_and_constraints.Goals as goal

pub returns-clause-done : goal.returns-clause-done
returns-clause-done t c = c.layer_of.ensures.done _ _ _ c.encode_branch.ensures.done

pub returns-clause-value : goal.returns-clause-value
returns-clause-value t c = c.layer_of.ensures.value _ c.encode_branch.ensures.value

pub returns-clause-refused : goal.returns-clause-refused
returns-clause-refused t c = c.layer_of.ensures.refused _ _ _ c.encode_branch.ensures.refused
