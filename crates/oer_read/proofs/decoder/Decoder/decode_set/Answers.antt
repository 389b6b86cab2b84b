use Rattle.std.proofs.Common.{refl}
use Rattle.std.proofs.lemmas.Result.{err_from_is_err_and}
use Rattle.oer_read.specs.Sets.{NotClosed, NotMade, FieldReturns}
use Rattle.oer_read.proofs.Openings.{closed_rear, rear_trans, rear_are_octets}
use Rattle.oer_read.proofs.SetSteps.{ran_rear, set_opened_rear, refused_or_memory}
use Rattle.oer_read.proofs.decoder.Decoder.decode_set.Goals as goal

pub read_fields-requires : goal.read_fields-requires
read_fields-requires g c =
    let o = rw (c.root_fields-roots.ensures, c.addition_fields-additions.ensures, c.IS_EXTENSIBLE.ensures) at c.in-Ok.ensures.state in
    record { callable = λ d s k. c.requires.callable d s (record { lent = _; bits = _; opened = o; called = rw (c.root_fields-roots.ensures, c.addition_fields-additions.ensures) at k }) }

pub returns-in_err-fields-in-Ok-clause-refused : goal.returns-in_err-fields-in-Ok-clause-refused
returns-in_err-fields-in-Ok-clause-refused g c =
    let p = err_from_is_err_and c.from_residual.result c.from_residual.ensures.1 in
    let o = rw (c.root_fields-roots.ensures, c.addition_fields-additions.ensures, c.IS_EXTENSIBLE.ensures) at c.in-Ok.ensures.state in
    let k = rw (c.root_fields-roots.ensures, c.addition_fields-additions.ensures, c.codec.ensures) at c.in_err-fields-in-Ok.ensures.err in
    rw (p.1, p.2) (refused_or_memory _ _ _ _ _ _ _ _ _ o k)

pub returns-in-Err-close-clause-refused : goal.returns-in-Err-close-clause-refused
returns-in-Err-close-clause-refused g c =
    let o = rw (c.root_fields-roots.ensures, c.addition_fields-additions.ensures, c.IS_EXTENSIBLE.ensures) at c.in-Ok.ensures.state in
    let k = rw (c.root_fields-roots.ensures, c.addition_fields-additions.ensures) at c.in_ok-fields-in-Ok.ensures.ok in
    NotClosed _ _ _ _ o k (rw c.refusal-in-Err-close.ensures c.in-Err-close.ensures) (rw c.refusal-in-Err-close.ensures refl)

pub field_fn-requires : goal.field_fn-requires
field_fn-requires g c =
    let o = rw (c.root_fields-roots.ensures, c.addition_fields-additions.ensures, c.IS_EXTENSIBLE.ensures) at c.in-Ok.ensures.state in
    let k = rw (c.root_fields-roots.ensures, c.addition_fields-additions.ensures) at c.in_ok-fields-in-Ok.ensures.ok in
    c.requires.makes _ (record { lent = _; bits = _; opened = o; after = _; ran = k; rest = _; closed = c.in-Ok-close.ensures }) _ refl

pub returns-in_err-set-in-Ok-close-clause-refused : goal.returns-in_err-set-in-Ok-close-clause-refused
returns-in_err-set-in-Ok-close-clause-refused g c =
    let p = err_from_is_err_and c.from_residual-in_err-set-in-Ok-close.result c.from_residual-in_err-set-in-Ok-close.ensures.1 in
    let o = rw (c.root_fields-roots.ensures, c.addition_fields-additions.ensures, c.IS_EXTENSIBLE.ensures) at c.in-Ok.ensures.state in
    let k = rw (c.root_fields-roots.ensures, c.addition_fields-additions.ensures) at c.in_ok-fields-in-Ok.ensures.ok in
    rw (p.1, p.2) (NotMade _ _ _ _ _ o k c.in-Ok-close.ensures (record { handed = _; holds = refl; met = c.in_err-set-in-Ok-close.ensures }))

pub returns-clause-read : goal.returns-clause-read
returns-clause-read g c =
    let o = rw (c.root_fields-roots.ensures, c.addition_fields-additions.ensures, c.IS_EXTENSIBLE.ensures) at c.in-Ok.ensures.state in
    let k = rw (c.root_fields-roots.ensures, c.addition_fields-additions.ensures) at c.in_ok-fields-in-Ok.ensures.ok in
    record {
      lent = _;
      bits = _;
      opened = o;
      fields = _;
      after = _;
      ran = k;
      rest = _;
      closed = c.in-Ok-close.ensures;
      made = record { handed = _; holds = refl; met = c.in_ok-set-in-Ok-close.ensures };
      left = c.set_remaining.ensures;
      octets = c.open_set.ensures.octets;
    }

pub returns-clause-rear : goal.returns-clause-rear
returns-clause-rear g c =
    let fits = c.open_set.ensures.octets in
    let first = set_opened_rear _ _ _ _ _ _ fits c.in-Ok.ensures.state in
    let o = rw (c.root_fields-roots.ensures, c.addition_fields-additions.ensures, c.IS_EXTENSIBLE.ensures) at c.in-Ok.ensures.state in
    let k = rw (c.root_fields-roots.ensures, c.addition_fields-additions.ensures) at c.in_ok-fields-in-Ok.ensures.ok in
    let second = ran_rear (FieldReturns g.D.Fn c.args.decode_fn) _ _ _ _ (λ d s after v called. c.requires.keeps d s after v (record { lent = _; bits = _; opened = o; called = called })) k in
    let both = rear_trans _ _ _ first second in
    let third = closed_rear _ _ (rear_are_octets _ _ both fits) c.in-Ok-close.ensures in
    rw c.set_remaining.ensures (rear_trans _ _ _ both third)
