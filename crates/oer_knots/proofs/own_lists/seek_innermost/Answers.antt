use Rattle.std.proofs.Common.{Ok, ◌≡◌, ◌<◌, ◌-◌, ◌+◌, suc, ap, subst, arith, ℕ}
use Rattle.asn1_core.specs.Octets.{AreOctets}
use Rattle.oer_read.specs.Lists.{list_opened_at}
use Rattle.oer_read.specs.State.{apart}
use Rattle.oer_read.proofs.ListLaw.{list_opens, list_takes}
use Rattle.oer_knots.specs.OwnLists.{LiesWithin}
use Rattle.oer_knots.proofs.own_lists.seek_innermost.Goals as goal

pub loop-around-init : goal.loop-around-init
loop-around-init c = record { within = ap (λ (n : ℕ). apart c.args.codec n c.args.input.now) (omega arith); takes = omega arith }

pub returns-in_default-clause-within : goal.returns-in_default-clause-within
returns-in_default-clause-within c = c.loop-around.invariant.within

pub returns-in_default-clause-takes : goal.returns-in_default-clause-takes
returns-in_default-clause-takes c = c.loop-around.invariant.takes

pub loop-around-preserved : goal.loop-around-preserved
loop-around-preserved c =
    let list = apart c.args.codec (c.args.levels - c.loop-around.around) c.loop-around.inner.now in
    let start = c.in-Ok-eq1-default.start.now in
    let some : list_opened_at list ≡ Ok (c.in-Ok-eq1-default.field-0-0, start) = rw c.apart.ensures at c.in-Ok-eq1-default.ensures.quantity in
    let one = subst (λ (n : ℕ). list_opened_at list ≡ Ok (n, start)) c.in-Ok-eq1-default.field-0-0-test some in
    let octets : AreOctets c.loop-around.inner.now = rw c.apart.ensures at c.in-Ok-eq1-default.ensures.octets in
    let level : 0 < c.args.levels - c.loop-around.around = rw c.apart.ensures at c.in-Ok-eq1-default.ensures.level in
    let less = list_takes list 1 start (list_opens list 1 start octets one) in
    let fewer : c.args.levels - suc c.loop-around.around ≡ (c.args.levels - c.loop-around.around) - 1 = omega arith in
    let more : suc c.loop-around.around ≡ c.loop-around.around + 1 = omega arith in
    let outer = apart c.args.codec c.args.levels c.args.input.now in
    record {
      within = subst (λ (n : ℕ). LiesWithin outer n (apart c.args.codec (c.args.levels - n) start)) more (list, start, record { opened = one; level = level; octets = octets }, ap (λ (n : ℕ). apart c.args.codec n start) fewer, c.loop-around.invariant.within);
      takes = omega (arith, less, c.loop-around.invariant.takes);
    }

pub returns-clause-within : goal.returns-clause-within
returns-clause-within c =
    let all : c.loop-around.around ≡ c.args.levels = omega (arith, c.loop-around-test.false, c.loop-around.auto.around-end) in
    subst (λ (n : ℕ). LiesWithin (apart c.args.codec c.args.levels c.args.input.now) n (apart c.args.codec (c.args.levels - n) c.loop-around.inner.now)) all c.loop-around.invariant.within

pub returns-clause-takes : goal.returns-clause-takes
returns-clause-takes c = c.loop-around.invariant.takes
