use Rattle.std.proofs.Common.{rules, to_z, of_z, ◌≡◌, ◌∙◌, refl, sym, subst}
use Rattle.std.proofs.lemmas.Int.{to_z-of_z}
use Rattle.std.specs.Int.{w128}
use Rattle.std.specs.List.{slice_get}
use Rattle.oergen_tables.specs.Names.{IsReadable, shown, value_of}
use Rattle.oergen_tables.proofs.Naming.{kept, left_out, none_more, one_more, put}
use Rattle.oergen_tables.proofs.leaves.named_values.Goals as goal
use Rattle.oergen_tables.proofs.leaves.named_values.Goals.{in-Some+in_ok-name+in_ok-push, in_default}

pub loop-item-preserved : goal.loop-item-preserved
loop-item-preserved c = λ all.
    let tokens = c.args.scope.tokens.now in
    let names = c.args.names.now in
    let at = c.loop-item.item-index in
    let item = c.item-item.result in
    let own : IsReadable tokens item = subst (IsReadable tokens) (sym c.item-item.is) (all at item c.loop-item-test.true) in
    let behind = sym (c.in_ok-number.ensures own.is_digits) in
    elim c.match-branch-2.branch [
      | in-Some+in_ok-name+in_ok-push w ↦
          let value = put tokens item w.in-Some.number w.text.result.now (behind ∙ w.in-Some.is) own.is_there (kept (slice_get tokens item.name.index) w.text.result w.text.result.now w.text.ensures refl) in
          let same : to_z w128 (of_z w128 w.in-Some.number) ≡ w.in-Some.number = search (rules, to_z-of_z) in
          rw (w.values-is, w.in_ok-push.ensures.items) (one_more (value_of tokens) shown names c.loop-item.values.items at item _ c.loop-item-test.true c.item-item.is (value ∙ rw (same, w.in_ok-name.ensures.ok) refl) (c.loop-item.invariant all))
      | in_default w ↦ rw w.values-is (none_more (value_of tokens) shown names c.loop-item.values.items at item c.loop-item-test.true c.item-item.is (left_out tokens item (behind ∙ w.in_default.is)) (c.loop-item.invariant all))
    ]
