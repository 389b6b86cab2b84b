use Rattle.std.proofs.Common.{rules, tests, int_cmp, take}
use Rattle.std.proofs.lemmas.Iterator.{YieldsList-from_slice, YieldsList-from_take}
use Rattle.std.proofs.lemmas.Iterator.Adapters.{fact_from_collect}
use Rattle.std.proofs.lemmas.Iterator.Consumers.{YieldsList-at, YieldsList-from_filter_map}
use Rattle.std.proofs.lemmas.Map.Lookups.{exact_signed}
use Rattle.std.proofs.lemmas.Map.Views.{btree_set_contains_from_list}
use Rattle.std.proofs.lemmas.Result.{IfOk-weaker}
use Rattle.std.specs.BTreeSet.{IsFromIterResult}
use Rattle.std.specs.Cmp.{int_cmp_total}
use Rattle.std.specs.List.{filter_map}
use Rattle.oergen_layouts.proofs.numbers.taken_numbers.Goals as goal

pub returns : goal.returns
returns c =
    let numbers = filter_map (λ own. own) (take c.args.root c.args.written.now) in
    IfOk-weaker c.collect.result (IsFromIterResult int_cmp numbers) _ (λ set made. record {
      has_each = λ n held. (btree_set_contains_from_list int_cmp_total exact_signed numbers set made n).1 held;
      has_no_other = λ n has. (btree_set_contains_from_list int_cmp_total exact_signed numbers set made n).0 has;
    }) (fact_from_collect (IsFromIterResult int_cmp) c.collect.result c.collect.ensures.ran (YieldsList-from_filter_map _ (λ own. own) (YieldsList-at c.filter_map.ensures.source (YieldsList-from_take c.args.root (YieldsList-from_slice c.args.written.now (cc)) (cc))) c.filter_map.ensures.closure (λ x r q k. search (rules, tests))))
