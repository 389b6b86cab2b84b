-- What readers that ask for memory answer.
use Rattle.std.specs.Prelude.{◌≡◌, ◌⊎◌, Result, Ok, Err}
use Rattle.asn1_core.specs.declared.error.DecodeErrorKind.{DecodeErrorKind}
use Rattle.asn1_core.specs.declared.error.DecodeErrorKind.TheVariants.{OutOfMemory}

-- What a function answered, seen by view, is what the reading gives, unless memory was refused.
abbrev pub GivesOrMemory : {X Y : Type 0} → (X → Y) → Result X DecodeErrorKind → Result Y DecodeErrorKind → Type 0
GivesOrMemory view (Ok x) read = read ≡ Ok (view x)
GivesOrMemory view (Err e) read = (e ≡ OutOfMemory) ⊎ (read ≡ Err e)
