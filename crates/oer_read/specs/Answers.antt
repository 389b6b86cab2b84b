-- What a method that reads a leaf answers and leaves.
use Rattle.std.specs.Prelude.{◌≡◌, List, ℕ, ℤ, Bool, IsTrue, ◌⊎◌, Result, Ok, Err, IfErr}
use Rattle.std.specs.Borrow.{Bor}
use Rattle.asn1_core.specs.Bounds.{value_bounds}
use Rattle.asn1_core.specs.Octets.{Octets}
use Rattle.asn1_core.specs.declared.constraints.Constraints.{Constraints}
use Rattle.asn1_core.specs.declared.error.DecodeError.{DecodeError}
use Rattle.asn1_core.specs.declared.error.DecodeErrorKind.{DecodeErrorKind}
use Rattle.asn1_core.specs.declared.error.DecodeErrorKind.TheVariants.{OutOfMemory}
use Rattle.oer_spec.specs.ReadingIntegers.{integer_at}
use Rattle.oer_read.specs.Law.{IsForMemory, WantsMemory}
use Rattle.oer_read.specs.State.{State}

-- A reader's answer is taken over: the value and what is left, or the refusal with the mode, and nothing else changed.
abbrev pub Took : {V : Type 0} → Result (V × Bor (List ℕ)) DecodeErrorKind → State → Result V DecodeError → State → Type 0
Took (Ok x) old result new = (result ≡ Ok x.0) × (new ≡ record old { input = x.1.now })
Took (Err e) old result new = (result ≡ Err (record { kind = e; codec = old.codec })) × (new ≡ old)

-- The answer is what the reading function gives, save that memory may be refused.
abbrev pub Answers : {V W : Type 0} → (V → W) → State → Result V DecodeError → State → Result (W × Octets) DecodeErrorKind → Type 0
Answers show old (Ok v) new read = (read ≡ Ok (show v, new.input)) × (new ≡ record old { input = new.input })
Answers show old (Err e) new read = ((e.kind ≡ OutOfMemory → ⊥) → read ≡ Err e.kind) × (e.codec ≡ old.codec) × (new ≡ old)

-- What a type promises of a leaf: what the reading function gives, and that memory is refused only where it is taken.
abbrev pub LeafAnswers : {V W : Type 0} → (V → W) → Bool → State → Result V DecodeError → State → Result (W × Octets) DecodeErrorKind → Type 0
LeafAnswers show takes old result new read = Answers show old result new read × IfErr result (λ e. IsForMemory e → IsTrue takes)

-- What an integer type promises: the number is read by the value constraint.
abbrev pub IntegerAnswers : {V : Type 0} → (V → ℤ) → (ℤ → Bool) → Bool → Constraints → State → Result V DecodeError → State → Type 0
IntegerAnswers number admits takes c old result new = LeafAnswers number takes old result new (integer_at admits (value_bounds c) old.codec old.input)

-- What is promised of a box: what is promised of its content, or the content was read, and memory was refused.
abbrev pub BoxAnswers : {A B : Type 0} → (State → Result A DecodeError → State → Type 0) → (B → A) → State → Result B DecodeError → State → Type 0
BoxAnswers Answered content old (Ok b) new = Answered old (Ok (content b)) new
BoxAnswers {A} Answered content old (Err e) new = ((v : A) × (after : State) × Answered old (Ok v) after × WantsMemory old e) ⊎ Answered old (Err e) new
