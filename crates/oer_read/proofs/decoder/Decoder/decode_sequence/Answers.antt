use Rattle.std.proofs.Common.{refl}
use Rattle.oer_read.specs.Scopes.{Stopped, NotClosed}
use Rattle.oer_read.proofs.Openings.{opened_opens, opens_rear, closed_rear, rear_trans, rear_are_octets}
use Rattle.oer_read.proofs.decoder.Decoder.decode_sequence.Goals as goal

pub returns-in-Err-f-clause-refused : goal.returns-in-Err-f-clause-refused
returns-in-Err-f-clause-refused g c =
    let o = rw (c.root_fields-roots.ensures, c.addition_fields-additions.ensures, c.IS_EXTENSIBLE.ensures) at c.in-Ok.ensures.state in
    Stopped c.in-Ok.inner c.f.new.arg2 o (record { shown = _; shows = refl; left = _; met = c.in-Err-f.ensures; leaves = refl })

pub returns-in-Err-close-clause-refused : goal.returns-in-Err-close-clause-refused
returns-in-Err-close-clause-refused g c =
    let o = rw (c.root_fields-roots.ensures, c.addition_fields-additions.ensures, c.IS_EXTENSIBLE.ensures) at c.in-Ok.ensures.state in
    NotClosed c.in-Ok.inner c.f.new.arg2 c.in-Ok-f.value o (record { shown = _; shows = refl; left = _; met = c.in-Ok-f.ensures; leaves = refl })
    (rw c.refusal-in-Err-close.ensures c.in-Err-close.ensures) (rw c.refusal-in-Err-close.ensures refl)

pub returns-in-Ok-close-clause-rear : goal.returns-in-Ok-close-clause-rear
returns-in-Ok-close-clause-rear g c =
    let o = rw (c.root_fields-roots.ensures, c.addition_fields-additions.ensures, c.IS_EXTENSIBLE.ensures) at c.in-Ok.ensures.state in
    let fits = c.open.ensures.octets in
    let first = opens_rear _ _ _ _ _ (opened_opens _ _ _ _ _ fits o) in
    let second = c.requires.keeps _ c.f.new.arg2 c.in-Ok-f.value o (record { shown = _; shows = refl; left = _; met = c.in-Ok-f.ensures; leaves = refl }) in
    let both = rear_trans _ _ _ first second in
    let third = closed_rear c.f.new.arg2 _ (rear_are_octets _ _ both fits) c.in-Ok-close.ensures in
    rear_trans _ _ _ both third
