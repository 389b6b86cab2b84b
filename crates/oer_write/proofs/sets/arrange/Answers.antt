use Rattle.std.proofs.Common.{List, ap, ◌∙◌, map, rules}
use Rattle.std.specs.List.Sorted.{IsSortedByKey, IsStableByKey}
use Rattle.std.specs.Ordering.{nat_cmp, is_lt}
use Rattle.std.proofs.lemmas.List.Sorted.{answers_always}
use Rattle.oer_write.specs.Kept.{item}
use Rattle.oer_write.specs.declared.component.Component.{Component}
use Rattle.oer_write.proofs.Arranging.{arranged_is}
use Rattle.oer_write.proofs.TagOrder.{arranged_items, by_key, key_order, less_is}
use Rattle.oer_write.proofs.sets.arrange.Goals as goal

pub returns-clause-done : goal.returns-clause-done
returns-clause-done c =
    let up : IsSortedByKey (λ (x : Component). x.key) nat_cmp c.sort_by_key.new.self.items = c.in_ok-sort_by_key.ensures.sorted (λ (x : Component). x.key) (answers_always _ _ _ (λ f a r f' k. search rules)) in
    let stable : IsStableByKey (λ (x : Component). x.key) nat_cmp c.args.components.now.items c.sort_by_key.new.self.items = c.sort_by_key.ensures.stable (λ (x : Component). x.key) (answers_always _ _ _ (λ f a r f' k. search rules)) in
    λ o. ap (λ (cs : List Component). map (item o) cs) (arranged_is by_key key_order (λ a b. is_lt (nat_cmp a.key b.key)) (λ a b. less_is a.key b.key) _ _ up stable) ∙ arranged_items o c.args.components.now.items
