use Rattle.std.proofs.Common.{refl}
use Rattle.std.proofs.lemmas.Str.{is_utf8-from_IsUtf8, IsUtf8-from_is_utf8}
use Rattle.std.proofs.lemmas.Bool.{false_from_ne_true}
use Rattle.oer_leaf_read.proofs.texts.text_of.Goals as goal

pub returns-in-Ok : goal.returns-in-Ok
returns-in-Ok c = let h = c.in-Ok.ensures.cases in rw (is_utf8-from_IsUtf8 c.args.octets.now h.1, h.0) refl

pub returns-in-Err : goal.returns-in-Err
returns-in-Err c =
    let h = c.in-Err.ensures.cases in
    rw (false_from_ne_true _ (λ t. h.0 (IsUtf8-from_is_utf8 c.args.octets.now t))) refl
