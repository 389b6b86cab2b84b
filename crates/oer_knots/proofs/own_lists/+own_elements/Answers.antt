use Rattle.std.proofs.Common.{◌≡◌, ◌<◌, ◌-◌, ◌+◌, ℕ, zero, suc, length, refl, ◌∙◌, ap, subst, arith}
use Rattle.std.proofs.lemmas.List.{length_push}
use Rattle.oer_read.specs.Lists.{Stopped}
use Rattle.oer_read.specs.State.{State, apart}
use Rattle.oer_read.proofs.ListLaw.{list_opens, list_takes}
use Rattle.oer_knots.specs.OwnLists.{LiesWithin, NotRead}
use Rattle.oer_knots.proofs.ListsOfOne.{ReadWithin, read_outermost, refused_within, no_memory_within, read_around}
use Rattle.oer_knots.proofs.PushedElements.{read_more, own_read, own_stopped, pushed_also, not_pushed_also, element_more, element_read, element_stops}
use Rattle.oer_knots.proofs.own_lists.+own_elements.Goals as goal

pub read_own-loop-i-init : goal.read_own-loop-i-init
read_own-loop-i-init g t c = record {
  counted = rw c.requires refl;
  lends = rw (c.apart-lent.ensures, c.codec-codec.ensures, c.levels-levels.ensures) refl;
  ran = rw c.requires (refl, refl);
  within = omega arith;
}

pub read_own-loop-i-preserved : goal.read_own-loop-i-preserved
read_own-loop-i-preserved g t c =
    let more = element_more (g.B.Spelled.tree g.B.AsnType.CONSTRAINTS) g.B.Spelled.IsValue g.B.Knot.content g.K.Knot.content (suc (c.args.list.now.levels - 1)) c.args.list.now.levels (omega (arith, c.in-Ok.ensures.level)) in
    let p = pushed_also _ _ more _ _ _ _ (rw (c.remaining-rest.ensures, c.codec-codec.ensures, c.levels-levels.ensures) at c.in-Ok-push_element.ensures.read) in
    let takes = rw c.remaining-rest.ensures at c.in-Ok-push_element.ensures.takes in
    let left = c.in-Ok-push_element.left.now in
    record {
      counted = omega (arith, ap length p.kept, length_push c.loop-i.own.items p.value, c.loop-i.invariant.counted);
      lends = rw c.set_remaining.ensures (ap (λ (s : State). record s { input = left }) c.loop-i.invariant.lends);
      ran = rw c.set_remaining.ensures (read_more _ c.args.list.now c.apart-lent.result.input c.loop-i.lent.input left c.loop-i.own.items c.push_element.new.items.items c.loop-i.invariant.ran p takes);
      within = rw c.set_remaining.ensures (omega (arith, takes, c.loop-i.invariant.within));
    }

pub read_own-returns-in-Err-push_element-clause-refused : goal.read_own-returns-in-Err-push_element-clause-refused
read_own-returns-in-Err-push_element-clause-refused g t c =
    let more = element_more (g.B.Spelled.tree g.B.AsnType.CONSTRAINTS) g.B.Spelled.IsValue g.B.Knot.content g.K.Knot.content (suc (c.args.list.now.levels - 1)) c.args.list.now.levels (omega (arith, c.in-Ok.ensures.level)) in
    let bad = not_pushed_also _ _ more _ _ (rw (c.remaining-rest.ensures, c.codec-codec.ensures, c.levels-levels.ensures) at c.in-Err-push_element.ensures.refused) in
    let ran = rw c.apart-lent.ensures at c.loop-i.invariant.ran in
    let fewer : length c.loop-i.own.items < c.in-Ok.count = omega (arith, c.loop-i.invariant.counted) in
    Stopped c.in-Ok.count c.in-Ok.start.now c.in-Ok.ensures.quantity (own_stopped _ c.args.list.now c.in-Ok.count c.in-Ok.start.now c.loop-i.lent.input c.loop-i.own.items c.in-Err-push_element.e fewer ran bad)

pub read_own-returns-after-loop-i-clause-read : goal.read_own-returns-after-loop-i-clause-read
read_own-returns-after-loop-i-clause-read g t c =
    let ran = rw c.apart-lent.ensures at c.loop-i.invariant.ran in
    let count : length c.loop-i.own.items ≡ c.in-Ok.count = omega (arith, c.loop-i.invariant.counted) in
    own_read _ c.args.list.now c.in-Ok.count c.in-Ok.start.now c.loop-i.lent.input c.loop-i.own.items _ c.in-Ok.ensures.quantity c.in-Ok.ensures.octets count ran (rw c.remaining.ensures refl)

pub read_own-returns-after-loop-i-clause-takes : goal.read_own-returns-after-loop-i-clause-takes
read_own-returns-after-loop-i-clause-takes g t c =
    let within = rw c.apart-lent.ensures at c.loop-i.invariant.within in
    let less = list_takes c.args.list.now c.in-Ok.count c.in-Ok.start.now (list_opens c.args.list.now c.in-Ok.count c.in-Ok.start.now c.in-Ok.ensures.octets c.in-Ok.ensures.quantity) in
    rw c.remaining.ensures (omega (arith, within, less))

pub push_element-loop-i-init : goal.push_element-loop-i-init
push_element-loop-i-init g t c =
    let outer = apart c.args.codec c.args.levels c.args.input.now in
    let inner = apart c.args.codec (c.args.levels - c.find_innermost-around.result.0) c.find_innermost-around.result.1.now in
    let all : c.find_innermost-around.result.0 ≡ c.find_innermost-around.result.0 - 0 = omega arith in
    record {
      read = record {
        inner = inner;
        within = subst (λ (n : ℕ). LiesWithin outer n inner) all c.find_innermost-around.ensures.within;
        read = rw c.apart-list.ensures at c.in-Ok.ensures.read;
        takes = rw c.apart-list.ensures at c.in-Ok.ensures.takes;
      };
    }

pub push_element-loop-i-preserved : goal.push_element-loop-i-preserved
push_element-loop-i-preserved g t c =
    let outer = apart c.args.codec c.args.levels c.args.input.now in
    let left = c.find_innermost-around.result.0 - (c.loop-i.i + 1) in
    let one_more : c.find_innermost-around.result.0 - c.loop-i.i ≡ suc left = omega (arith, c.loop-i-test.true) in
    let k = subst (λ (n : ℕ). ReadWithin (g.B.Spelled.tree g.B.AsnType.CONSTRAINTS) g.B.Spelled.IsValue g.B.Knot.content g.K.Knot.content outer n c.loop-i.own.items c.in-Ok.rest.now) one_more c.loop-i.invariant.read in
    let holds = ap g.K.Knot.content c.from_content-lone.ensures ∙ c.from_content.ensures in
    let around = read_around _ _ _ _ _ _ (g.B.Spelled.is_tree g.B.AsnType.CONSTRAINTS g.B.AsnType.consistent) g.met.K.Knot.layered g.met.B.Knot.layered outer left c.loop-i.own.items c.in-Ok.rest.now c.from_content-lone.result k holds in
    record { read = rw (c.in-Ok-keep.ensures.kept, c.new-own-in-loop-i.ensures.items) around }

pub push_element-returns-in-Err-keep-clause-refused : goal.push_element-returns-in-Err-keep-clause-refused
push_element-returns-in-Err-keep-clause-refused g t c =
    let outer = apart c.args.codec c.args.levels c.args.input.now in
    let holds = ap g.K.Knot.content c.from_content-lone.ensures ∙ c.from_content.ensures in
    rw c.with_codec.ensures (no_memory_within _ _ _ _ _ _ (g.B.Spelled.is_tree g.B.AsnType.CONSTRAINTS g.B.AsnType.consistent) g.met.K.Knot.layered g.met.B.Knot.layered outer _ c.loop-i.own.items c.in-Ok.rest.now c.from_content-lone.result _ c.loop-i.invariant.read holds (refl, refl))

pub push_element-returns-in-Err-clause-refused : goal.push_element-returns-in-Err-clause-refused
push_element-returns-in-Err-clause-refused g t c =
    let outer = apart c.args.codec c.args.levels c.args.input.now in
    let inner = apart c.args.codec (c.args.levels - c.find_innermost-around.result.0) c.find_innermost-around.result.1.now in
    let is_tree = g.B.Spelled.is_tree g.B.AsnType.CONSTRAINTS g.B.AsnType.consistent in
    let bad = rw c.apart-list.ensures at c.in-Err.ensures.refused in
    refused_within _ _ _ _ _ _ is_tree g.met.K.Knot.layered g.met.B.Knot.layered c.find_innermost-around.result.0 outer inner c.in-Err.e c.find_innermost-around.ensures.within
    (NotRead inner (element_stops _ _ _ _ _ _ is_tree g.met.K.Knot.layered _ _ _ g.met.B.Knot.layered _ refl bad))

pub push_element-returns-in-Ok-keep-2-clause-read : goal.push_element-returns-in-Ok-keep-2-clause-read
push_element-returns-in-Ok-keep-2-clause-read g t c =
    let outer = apart c.args.codec c.args.levels c.args.input.now in
    let none : c.find_innermost-around.result.0 - c.loop-i.i ≡ zero = omega (arith, c.loop-i-test.false, c.loop-i.auto.i-end) in
    let k = subst (λ (n : ℕ). ReadWithin (g.B.Spelled.tree g.B.AsnType.CONSTRAINTS) g.B.Spelled.IsValue g.B.Knot.content g.K.Knot.content outer n c.loop-i.own.items c.in-Ok.rest.now) none c.loop-i.invariant.read in
    let list = read_outermost _ _ _ _ outer c.loop-i.own.items c.in-Ok.rest.now k in
    record {
      value = c.from_content-element.result;
      kept = c.in-Ok-keep-2.ensures.kept;
      read = element_read _ _ _ _ _ _ (g.B.Spelled.is_tree g.B.AsnType.CONSTRAINTS g.B.AsnType.consistent) g.met.K.Knot.layered _ _ _ g.met.B.Knot.layered _ _ _ c.from_content-element.ensures c.from_content-in-Ok.ensures list;
    }

pub push_element-returns-clause-refused : goal.push_element-returns-clause-refused
push_element-returns-clause-refused g t c =
    let outer = apart c.args.codec c.args.levels c.args.input.now in
    let holds = ap g.K.Knot.content c.from_content-element.ensures ∙ c.from_content-in-Ok.ensures in
    rw c.with_codec-in-Err-keep-2.ensures (no_memory_within _ _ _ _ _ _ (g.B.Spelled.is_tree g.B.AsnType.CONSTRAINTS g.B.AsnType.consistent) g.met.K.Knot.layered g.met.B.Knot.layered outer _ c.loop-i.own.items c.in-Ok.rest.now c.from_content-element.result _ c.loop-i.invariant.read holds (refl, refl))
