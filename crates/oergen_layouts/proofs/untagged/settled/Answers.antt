use Rattle.std.proofs.Common.{◌≡◌, ◌∙◌, Some, Global, List, length, take, take_all, ap, subst, sym, rules, arith}
use Rattle.std.proofs.lemmas.Iterator.{YieldsList-from_zip}
use Rattle.std.proofs.lemmas.Iterator.Adapters.{YieldsList-from_vec}
use Rattle.std.proofs.lemmas.Iterator.Consumers.{YieldsList-at, YieldsList-turn, YieldsList-end}
use Rattle.std.proofs.lemmas.List.{length_push}
use Rattle.std.proofs.lemmas.Slice.Zip.{length-zip}
use Rattle.std.specs.List.{AllZip, zip}
use Rattle.oergen_layouts.specs.Untagged.{Found, IsSettled, first_refusal}
use Rattle.oergen_layouts.specs.declared.definitions.Definition.{Definition}
use Rattle.oergen_layouts.proofs.Placing.{zip_step}
use Rattle.oergen_layouts.proofs.Refusing.{first_is, none_more, second_at}
use Rattle.oergen_layouts.proofs.untagged.settled.Goals as goal

Settles : Definition × Found → Definition → Type 0
Settles both now = IsSettled both.0 both.1 now

pub loop-definition-preserved : goal.loop-definition-preserved
unfolding Settles
loop-definition-preserved c =
    let pairs = zip c.args.all.items c.args.found.items in
    let first = YieldsList-at c.zip-definition-items.ensures.first (YieldsList-from_vec {Z = Global} c.args.all.items c.into_iter.ensures.rest (c.into_iter.ensures.len ∙ c.args.all.ok.0)) in
    let second = YieldsList-from_vec {Z = Global} c.args.found.items c.zip-definition-items.ensures.second.0 (c.zip-definition-items.ensures.second.1 ∙ c.args.found.ok.0) in
    let walked = YieldsList-at c.into_iter-definition-iterator.ensures.into_iter_gives (YieldsList-from_zip first second) in
    let turn = YieldsList-turn walked c.loop-definition.yielded _ c.loop-definition.yielded_by _ c.next.new.self (c.in-Some.definition, c.in-Some.one) c.in-Some.is c.next.ensures.steps in
    let at = length c.loop-definition.yielded in
    rw (length_push c.loop-definition.yielded (c.in-Some.definition, c.in-Some.one)) (record {
      so_far = zip_step Settles pairs c.loop-definition.settled.items c.push.new.self.items at (c.in-Some.definition, c.in-Some.one) c.put_found.new.definition turn.0 turn.1 c.loop-definition.invariant.so_far c.in_ok-put_found.ensures.settled c.in_ok-push.ensures.items;
      none = λ same.
          let own = second_at c.args.all.items c.args.found.items at c.in-Some.definition c.in-Some.one same turn.0 turn.1 in
          none_more c.args.keeps_faults c.args.found.items at c.in-Some.one own.0 own.1 (c.loop-definition.invariant.none same) c.in_ok-put_found.ensures.refused;
    })

pub returns-in_err-put_found-clause-refused : goal.returns-in_err-put_found-clause-refused
returns-in_err-put_found-clause-refused c = λ same.
    let pairs = zip c.args.all.items c.args.found.items in
    let first = YieldsList-at c.zip-definition-items.ensures.first (YieldsList-from_vec {Z = Global} c.args.all.items c.into_iter.ensures.rest (c.into_iter.ensures.len ∙ c.args.all.ok.0)) in
    let second = YieldsList-from_vec {Z = Global} c.args.found.items c.zip-definition-items.ensures.second.0 (c.zip-definition-items.ensures.second.1 ∙ c.args.found.ok.0) in
    let walked = YieldsList-at c.into_iter-definition-iterator.ensures.into_iter_gives (YieldsList-from_zip first second) in
    let turn = YieldsList-turn walked c.loop-definition.yielded _ c.loop-definition.yielded_by _ c.next.new.self (c.in-Some.definition, c.in-Some.one) c.in-Some.is c.next.ensures.steps in
    let at = length c.loop-definition.yielded in
    let own = second_at c.args.all.items c.args.found.items at c.in-Some.definition c.in-Some.one same turn.0 turn.1 in
    let refused : first_refusal c.args.keeps_faults c.args.found.items ≡ Some c.in_err-put_found.field-0.0 =
    first_is c.args.keeps_faults c.args.found.items at c.in-Some.one c.in_err-put_found.field-0.0 own.0 own.1 (c.loop-definition.invariant.none same) c.in_err-put_found.ensures.refused in
    search rules

pub returns-clause-settled : goal.returns-clause-settled
unfolding Settles
returns-clause-settled c =
    let pairs = zip c.args.all.items c.args.found.items in
    let first = YieldsList-at c.zip-definition-items.ensures.first (YieldsList-from_vec {Z = Global} c.args.all.items c.into_iter.ensures.rest (c.into_iter.ensures.len ∙ c.args.all.ok.0)) in
    let second = YieldsList-from_vec {Z = Global} c.args.found.items c.zip-definition-items.ensures.second.0 (c.zip-definition-items.ensures.second.1 ∙ c.args.found.ok.0) in
    let walked = YieldsList-at c.into_iter-definition-iterator.ensures.into_iter_gives (YieldsList-from_zip first second) in
    let end = YieldsList-end walked c.loop-definition.yielded _ c.loop-definition.yielded_by _ c.next.new.self c.in-None.is c.next.ensures.steps in
    let all : take (length c.loop-definition.yielded) pairs ≡ pairs = take_all _ _ (omega (arith, end.1)) in
    subst (λ (it : List (Definition × Found)). AllZip Settles it c.loop-definition.settled.items) all c.loop-definition.invariant.so_far

pub returns-clause-refused : goal.returns-clause-refused
returns-clause-refused c = λ same.
    let found = c.args.found.items in
    let first = YieldsList-at c.zip-definition-items.ensures.first (YieldsList-from_vec {Z = Global} c.args.all.items c.into_iter.ensures.rest (c.into_iter.ensures.len ∙ c.args.all.ok.0)) in
    let second = YieldsList-from_vec {Z = Global} found c.zip-definition-items.ensures.second.0 (c.zip-definition-items.ensures.second.1 ∙ c.args.found.ok.0) in
    let walked = YieldsList-at c.into_iter-definition-iterator.ensures.into_iter_gives (YieldsList-from_zip first second) in
    let end = YieldsList-end walked c.loop-definition.yielded _ c.loop-definition.yielded_by _ c.next.new.self c.in-None.is c.next.ensures.steps in
    let all : take (length c.loop-definition.yielded) found ≡ found = take_all _ _ (omega (arith, end.1, length-zip c.args.all.items found, same)) in
    ap (first_refusal c.args.keeps_faults) (sym all) ∙ c.loop-definition.invariant.none same
