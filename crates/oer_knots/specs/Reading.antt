-- What reads a knot, as it is handed in.
use Rattle.std.specs.Prelude.{◌≡◌, ◌<◌, ◌≤◌, ℕ, Result}
use Rattle.std.proofs.Common.{arith}
use Rattle.std.specs.Borrow.{MutBor}
use denote.Param.Members.{Shared}
use Rattle.asn1_core.specs.declared.error.DecodeError.{DecodeError}
use Rattle.oer_spec.specs.Tree.{Tree}
use Rattle.oer_read.specs.Law.{Decodes}
use Rattle.oer_read.specs.Lists.{FnTakesAtMut, FnReturnsAtMut}
use Rattle.oer_read.specs.State.{State}

-- `f` may be called within so many levels, and keeps the law of reading.
pub record ReadsKnots {F K : Type 0} (g : Shared F (MutBor State × Unit {0}) (Result K DecodeError × (MutBor State × Unit {0}))) (f : F) (tree : K → Tree) (IsValue : K → Type 0) (levels : ℕ) : Type 0 where
  pub callable : (s : State) → s.levels ≤ levels → FnTakesAtMut g f s
  pub law : (s t : State) (r : Result K DecodeError) → FnReturnsAtMut g f s r t → Decodes tree IsValue s r t

-- The same of what is called within fewer levels.
pub record ReadsInside {F K : Type 0} (g : Shared F (MutBor State × Unit {0}) (Result K DecodeError × (MutBor State × Unit {0}))) (f : F) (tree : K → Tree) (IsValue : K → Type 0) (levels : ℕ) : Type 0 where
  pub callable : (s : State) → s.levels < levels → FnTakesAtMut g f s
  pub law : (s t : State) (r : Result K DecodeError) → FnReturnsAtMut g f s r t → Decodes tree IsValue s r t

module _ {F K : Type 0} (g : Shared F (MutBor State × Unit {0}) (Result K DecodeError × (MutBor State × Unit {0}))) (f : F) (tree : K → Tree) (IsValue : K → Type 0) where
  pub inside_reads : (m n : ℕ) → m < n → ReadsInside g f tree IsValue n → ReadsKnots g f tree IsValue m
  inside_reads m n h k = record { callable = λ s l. k.callable s (omega arith); law = k.law }

  pub reads_within : (m n : ℕ) → m ≡ n → ReadsKnots g f tree IsValue n → ReadsKnots g f tree IsValue m
  reads_within m n h k = record { callable = λ s l. k.callable s (omega arith); law = k.law }
