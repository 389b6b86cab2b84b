-- What the call of a type promises, a call by a word promises too.
use Rattle.std.proofs.Common.{◌≡◌, Option, Some, None, Result}
use Rattle.asn1_core.specs.Octets.{Octets}
use Rattle.asn1_core.specs.declared.error.DecodeError.{DecodeError}
use Rattle.oer_read.specs.State.{Options, State}
use Rattle.oer_spec.specs.Tree.{Tree}
use Rattle.oer_calls.specs.Answers.{IsAnsweredByWord, IsCanonicalisedBy, IsCheckedBy, IsCheckedByWord, IsConvertedBy, IsFramedIfAny}
use Rattle.oer_calls.specs.Calls.{IsCanonicalised, IsConverted}
use Rattle.oer_calls.specs.declared.answer.Answer.{Answer}
use Rattle.oer_calls.specs.declared.calls.Outcome.{Outcome}
use Rattle.oer_calls.specs.declared.calls.Outcome.TheVariants.{Done, NoRoom, Refused, NotConverted}

module _ {A : Type 0} (tree : A → Tree) (IsValue : A → Type 0) (Says : State → Result A DecodeError → State → Type 0) (input : Octets) where
  is_framed : (o : Options) (old : Octets) (x : Outcome) (new : Octets) → IsCanonicalised tree IsValue Says o.codec o.levels input old x new → IsFramedIfAny old (Some x) new
  is_framed o old (Refused e) new p = p.0
  is_framed o old (NotConverted e) new p = absurd p
  is_framed o old (Done c w) new p = (p.0, p.2)
  is_framed o old (NoRoom c n) new p = (p.0, p.2)

  pub is_answered : (o : Option Options) (old : Octets) (answer : Answer) (new : Octets) → IsCanonicalisedBy tree IsValue Says o input old answer new → IsAnsweredByWord o old answer new
  is_answered None old answer new p = p
  is_answered (Some o) old answer new p = (Some p.0, p.1, is_framed o old p.0 new p.2)

  pub is_checked : (o : Option Options) (answer : Answer) → IsCheckedBy tree IsValue Says o input answer → IsCheckedByWord o answer
  is_checked None answer p = p
  is_checked (Some o) answer p = (Some p.0, p.1)

module _ {A B : Type 0} (sent : A → Tree) (IsSent : A → Type 0) (SentSays : State → Result A DecodeError → State → Type 0) (wanted : B → Tree) (IsWanted : B → Type 0) (WantedSays : State → Result B DecodeError → State → Type 0) (input : Octets) where
  is_framed_too : (o : Options) (old : Octets) (x : Outcome) (new : Octets) → IsConverted sent IsSent SentSays wanted IsWanted WantedSays o.codec o.levels input old x new → IsFramedIfAny old (Some x) new
  is_framed_too o old (Refused e) new p = p.0
  is_framed_too o old (NotConverted e) new p = p.0
  is_framed_too o old (Done c w) new p = (p.0, p.2)
  is_framed_too o old (NoRoom c n) new p = (p.0, p.2)

  pub is_converted : (o : Option Options) (old : Octets) (answer : Answer) (new : Octets) → IsConvertedBy sent IsSent SentSays wanted IsWanted WantedSays o input old answer new → IsAnsweredByWord o old answer new
  is_converted None old answer new p = p
  is_converted (Some o) old answer new p = (Some p.0, p.1, is_framed_too o old p.0 new p.2)
