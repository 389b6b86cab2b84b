-- What a walk answers to C.
use Rattle.std.specs.Prelude.{◌≡◌, ℕ, cond, nat_lt, Option, Some, None}
use Rattle.asn1_core.specs.declared.error.DecodeErrorKind.{DecodeErrorKind}
use Rattle.oer_calls.specs.Answers.{counted, read_answer}
use Rattle.oer_calls.specs.declared.answer.Answer.{Answer}
use Rattle.asn1_core.specs.Octets.{Octets}
use Rattle.oer_walk.specs.Walks.{IsAnswer, Walk}
use Rattle.oer_walk.specs.declared.walks.Walked.{Walked}

-- so many nodes, up to that octet: whether there is room for them or, of a walk that stopped, why
abbrev pub walked_to : ℕ → ℕ → ℕ → Option DecodeErrorKind → Answer
walked_to room nodes consumed None = counted (cond (nat_lt room nodes) 3 0) consumed nodes
walked_to room nodes consumed (Some k) = record (read_answer 1 k) { consumed = consumed; written = nodes }

abbrev pub walk_answer : ℕ → Walked → Answer
walk_answer room w = walked_to room w.nodes w.consumed w.refusal

-- the answer of the walk of so many octets
abbrev pub IsWalkAnswer : ℕ → ℕ → Walk Octets → Answer → Type 0
IsWalkAnswer room octets walk answer = (w : Walked) × IsAnswer octets walk w × (answer ≡ walk_answer room w)
