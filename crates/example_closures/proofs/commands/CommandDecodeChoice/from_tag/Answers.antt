use Rattle.example_closures.proofs.CommandParts.{context_is, level_holds, reset_holds}
use Rattle.oer_read.proofs.Alternatives.{alternative_read, alternative_stops}
use Rattle.example_closures.proofs.commands.CommandDecodeChoice.from_tag.Goals as goal

pub returns-in_err-decode-in-Context-eq0-clause-law : goal.returns-in_err-decode-in-Context-eq0-clause-law
returns-in_err-decode-in-Context-eq0-clause-law c = alternative_stops _ _ _ _ _ (level_holds _ (context_is _ 0 c.in-Context-eq0.is-0 c.in-Context-eq0.is-1)) _ _ _ _ _ c.in_err-decode-in-Context-eq0.ensures.law c.from_residual.ensures.1 (λ y k. k)

pub returns-in_ok-decode-in-Context-eq0-clause-law : goal.returns-in_ok-decode-in-Context-eq0-clause-law
returns-in_ok-decode-in-Context-eq0-clause-law c = alternative_read _ _ _ _ _ (level_holds _ (context_is _ 0 c.in-Context-eq0.is-0 c.in-Context-eq0.is-1)) _ _ _ c.in_ok-decode-in-Context-eq0.ensures.law

pub returns-in_err-decode-in-Context-eq1-clause-law : goal.returns-in_err-decode-in-Context-eq1-clause-law
returns-in_err-decode-in-Context-eq1-clause-law c = alternative_stops _ _ _ _ _ (reset_holds _ (context_is _ 1 c.in-Context-eq1.is-0 c.in-Context-eq1.is-1)) _ _ _ _ _ c.in_err-decode-in-Context-eq1.ensures.law c.from_residual-in_err-decode-in-Context-eq1.ensures.1 (λ y k. k)

pub returns-in_ok-decode-in-Context-eq1-clause-law : goal.returns-in_ok-decode-in-Context-eq1-clause-law
returns-in_ok-decode-in-Context-eq1-clause-law c = alternative_read _ _ _ _ _ (reset_holds _ (context_is _ 1 c.in-Context-eq1.is-0 c.in-Context-eq1.is-1)) _ _ _ c.in_ok-decode-in-Context-eq1.ensures.law
