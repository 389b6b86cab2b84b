use Rattle.std.proofs.Common.{◌≡◌, ℕ, sym, ap, ◌∙◌, map, ◌++◌, List, length}
use Rattle.std.proofs.lemmas.List.{length-map}
use Rattle.std.proofs.lemmas.Result.{err_from_is_err_and}
use Rattle.asn1_core.specs.Rows.{row, Row}
use Rattle.asn1_core.specs.Tags.{by_tag}
use Rattle.oer_leaf_read.specs.Views.{bits_left}
use Rattle.oer_read.specs.Sets.{root_calls, addition_calls, set_calls, FieldReturns}
use Rattle.oer_read.proofs.SetSteps.{ran_append, either_front, either_append, called_front, called_append}
use Rattle.oer_read.proofs.sets.read_fields.Goals as goal

pub read_roots-requires : goal.read_roots-requires
read_roots-requires g c = record {
  callable = λ d s k. c.requires.callable d s (called_front (FieldReturns g.D.Fn c.args.decode_fn.now) c.args.inner.now _ _ d s (rw c.canonised-rows.ensures.rows at k));
}

pub read_additions-requires-clause-callable : goal.read_additions-requires-clause-callable
read_additions-requires-clause-callable g c d s k =
    let r = c.in_ok-read_roots.ensures.ok in
    let ran = rw c.canonised-rows.ensures.rows at r.1 in
    let calls : root_calls (by_tag (λ (r : Row). r.tag) (map row c.args.roots.now)) (bits_left c.args.presence) ++ addition_calls (length c.args.roots.now) (map row c.args.additions.now) ≡ set_calls (map row c.args.roots.now) (map row c.args.additions.now) (bits_left c.args.presence) =
    ap (λ (n : ℕ). root_calls (by_tag (λ (r : Row). r.tag) (map row c.args.roots.now)) (bits_left c.args.presence) ++ addition_calls n (map row c.args.additions.now)) (sym (length-map c.args.roots.now row)) in
    c.requires.callable d s (rw (← calls) (called_append (FieldReturns g.D.Fn c.args.decode_fn.now) c.args.inner.now _ r.0 c.read_roots.new.inner _ d s ran k))

pub returns-in_err-read_roots-clause-err : goal.returns-in_err-read_roots-clause-err
returns-in_err-read_roots-clause-err g c =
    let p = err_from_is_err_and c.from_residual.result c.from_residual.ensures.1 in
    let k = rw c.canonised-rows.ensures.rows at c.in_err-read_roots.ensures.err in
    rw (p.1, p.2) (either_front (FieldReturns g.D.Fn c.args.decode_fn.now) _ _ _ _ k)

pub returns-in_err-read_additions-clause-err : goal.returns-in_err-read_additions-clause-err
returns-in_err-read_additions-clause-err g c =
    let p = err_from_is_err_and c.from_residual-in_err-read_additions.result c.from_residual-in_err-read_additions.ensures.1 in
    let k = c.in_ok-read_roots.ensures.ok in
    let ran = rw c.canonised-rows.ensures.rows at k.1 in
    let calls : root_calls (by_tag (λ (r : Row). r.tag) (map row c.args.roots.now)) (bits_left c.args.presence) ++ addition_calls (length c.args.roots.now) (map row c.args.additions.now) ≡ set_calls (map row c.args.roots.now) (map row c.args.additions.now) (bits_left c.args.presence) =
    ap (λ (n : ℕ). root_calls (by_tag (λ (r : Row). r.tag) (map row c.args.roots.now)) (bits_left c.args.presence) ++ addition_calls n (map row c.args.additions.now)) (sym (length-map c.args.roots.now row)) in
    rw (p.1, p.2, ← calls) (either_append (FieldReturns g.D.Fn c.args.decode_fn.now) c.args.inner.now _ k.0 c.read_roots.new.inner _ _ ran c.in_err-read_additions.ensures.err)

pub returns-clause-ok : goal.returns-clause-ok
returns-clause-ok g c =
    let k = c.in_ok-read_roots.ensures.ok in
    let ran = rw c.canonised-rows.ensures.rows at k.1 in
    let m = c.in_ok-read_additions.ensures.ok in
    let calls : root_calls (by_tag (λ (r : Row). r.tag) (map row c.args.roots.now)) (bits_left c.args.presence) ++ addition_calls (length c.args.roots.now) (map row c.args.additions.now) ≡ set_calls (map row c.args.roots.now) (map row c.args.additions.now) (bits_left c.args.presence) =
    ap (λ (n : ℕ). root_calls (by_tag (λ (r : Row). r.tag) (map row c.args.roots.now)) (bits_left c.args.presence) ++ addition_calls n (map row c.args.additions.now)) (sym (length-map c.args.roots.now row)) in
    let items : c.read_additions.new.fields.items ≡ k.0 ++ m.0 = m.2 ∙ ap (λ (z : List _). z ++ m.0) (k.2 ∙ ap (λ (z : List _). z ++ k.0) c.new-fields.ensures.items) in
    rw (items, ← calls) (ran_append (FieldReturns g.D.Fn c.args.decode_fn.now) c.args.inner.now _ k.0 c.read_roots.new.inner _ m.0 c.read_additions.new.inner ran m.1)
