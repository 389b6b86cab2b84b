use Rattle.std.proofs.Common.{inl, inr}
use Rattle.oergen_layouts.proofs.rows.choice_or_set.Goals as goal

pub returns-in-Choice-clause-members : goal.returns-in-Choice-clause-members
returns-in-Choice-clause-members c = record {
  all = c.in-Choice.members;
  are_all = c.as_slice.ensures.value;
  stand_in = elim c.in-Choice.is [ inl choice ↦ inl choice | inr set ↦ inr (inr set) ];
}
