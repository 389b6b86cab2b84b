use Rattle.std.proofs.Common.{◌≡◌, ◌∙◌, Bool, Global, List, length, take, take_all, subst, arith}
use Rattle.std.proofs.lemmas.Iterator.{YieldsList-from_slice, YieldsList-from_zip}
use Rattle.std.proofs.lemmas.Iterator.Adapters.{YieldsList-from_vec}
use Rattle.std.proofs.lemmas.Iterator.Consumers.{YieldsList-at, YieldsList-turn, YieldsList-end}
use Rattle.std.proofs.lemmas.List.{length_push}
use Rattle.std.specs.List.{AllZip, zip}
use Rattle.oergen_layouts.specs.Untagged.{IsAtPlaces, used_of}
use Rattle.oergen_layouts.specs.declared.definitions.Definition.{Definition}
use Rattle.oergen_layouts.proofs.Placing.{next_pair}
use Rattle.oergen_layouts.proofs.untagged.used.Goals as goal

pub loop-definition-preserved : goal.loop-definition-preserved
loop-definition-preserved c =
    let pairs = zip c.args.all.items c.args.unused.now in
    let first = YieldsList-at c.zip-definition-items.ensures.first (YieldsList-from_vec {Z = Global} c.args.all.items c.into_iter.ensures.rest (c.into_iter.ensures.len ∙ c.args.all.ok.0)) in
    let second = YieldsList-at c.zip-definition-items.ensures.second (YieldsList-from_slice c.args.unused.now c.iter.ensures.rest) in
    let walked = YieldsList-at c.into_iter-definition-iterator.ensures.into_iter_gives (YieldsList-from_zip first second) in
    let turn = YieldsList-turn walked c.loop-definition.yielded _ c.loop-definition.yielded_by _ c.next.new.self (c.in-Some.definition, c.in-Some.is_unused) c.in-Some.is c.next.ensures.steps in
    let at = length c.loop-definition.yielded in
    let more = next_pair pairs at (c.in-Some.definition, c.in-Some.is_unused.now) turn.0 turn.1 in
    let pushed = rw c.as_slice.ensures.value at c.in_ok-push_used.ensures in
    rw (length_push c.loop-definition.yielded (c.in-Some.definition, c.in-Some.is_unused), more) (pushed (take at pairs) c.loop-definition.invariant)

pub returns : goal.returns
returns c =
    let pairs = zip c.args.all.items c.args.unused.now in
    let first = YieldsList-at c.zip-definition-items.ensures.first (YieldsList-from_vec {Z = Global} c.args.all.items c.into_iter.ensures.rest (c.into_iter.ensures.len ∙ c.args.all.ok.0)) in
    let second = YieldsList-at c.zip-definition-items.ensures.second (YieldsList-from_slice c.args.unused.now c.iter.ensures.rest) in
    let walked = YieldsList-at c.into_iter-definition-iterator.ensures.into_iter_gives (YieldsList-from_zip first second) in
    let end = YieldsList-end walked c.loop-definition.yielded _ c.loop-definition.yielded_by _ c.next.new.self c.in-None.is c.next.ensures.steps in
    let all : take (length c.loop-definition.yielded) pairs ≡ pairs = take_all _ _ (omega (arith, end.1)) in
    let made = subst (λ (it : List (Definition × Bool)). AllZip (IsAtPlaces c.in_ok-places.places.items) (used_of it) c.loop-definition.kept.items) all c.loop-definition.invariant in
    rw c.in_ok-places.ensures at made
