use Rattle.std.proofs.Common.{refl, ap, inl, inr}
use Rattle.oer_read.proofs.sets.read_field.Goals.{in-Err-push, in-Ok-push}
use Rattle.oer_read.proofs.sets.read_field.Goals as goal

pub returns-in-Err-clause-err : goal.returns-in-Err-clause-err
returns-in-Err-clause-err g c = inr (c.decode_fn.new.arg2, record { shown = _; shows = refl; left = _; met = c.in-Err.ensures; leaves = refl })

pub returns-after-push-clause-err : goal.returns-after-push-clause-err
returns-after-push-clause-err g c =
    elim c.match-push.branch [
      | in-Err-push w ↦ rw w.result-is (inl ((ap (λ e. e.kind) w.with_codec.ensures, ap (λ e. e.codec) w.with_codec.ensures), (c.in-Ok.value, c.decode_fn.new.arg2, record { shown = _; shows = refl; left = _; met = c.in-Ok.ensures; leaves = refl })))
      | in-Ok-push w ↦ rw w.result-is tt
    ]
