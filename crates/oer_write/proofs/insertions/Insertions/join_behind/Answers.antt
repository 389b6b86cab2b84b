use Rattle.std.proofs.Common.{◌≡◌, ◌++◌, length, take, drop, map, ap, ap₂, sym, ◌∙◌, subst, rules, List}
use Rattle.std.specs.Prelude.{min}
use Rattle.std.proofs.lemmas.List.{drop-map}
use Rattle.asn1_core.specs.Octets.{Octets}
use Rattle.oer_write.specs.Inserted.{AreThere, counts, piece}
use Rattle.oer_write.specs.Layout.{Piece, Ascends, spread, total}
use Rattle.oer_write.specs.declared.slots.Insertion.{Insertion}
use Rattle.oer_write.proofs.Passing.{passed_done}
use Rattle.oer_write.proofs.Stored.{behind_counts, drop_min, there_drop}
use Rattle.oer_write.proofs.insertions.Insertions.join_behind.Goals as goal

pub spread_all-requires-clause-counted : goal.spread_all-requires-clause-counted
spread_all-requires-clause-counted c =
    let i = c.self.inside in
    let n : c.min.result ≡ min c.args.count (length i.slots) = search rules in
    let rear : c.split_at.result.1.now ≡ drop c.args.count i.slots = c.split_at.ensures.back ∙ ap (λ (xs : List Insertion). drop c.min.result xs) c.as_slice.ensures ∙ drop_min c.args.count c.min.result i.slots n in
    c.size_behind-size.ensures ∙ ap (λ (ps : List Piece). total (drop c.args.count ps)) (sym c.self.view_is) ∙ behind_counts i.long c.args.count i.slots c.self.invariant.there ∙ ap counts (sym rear)

pub spread_all-requires-clause-there : goal.spread_all-requires-clause-there
spread_all-requires-clause-there c =
    let i = c.self.inside in
    let n : c.min.result ≡ min c.args.count (length i.slots) = search rules in
    let rear : c.split_at.result.1.now ≡ drop c.args.count i.slots = c.split_at.ensures.back ∙ ap (λ (xs : List Insertion). drop c.min.result xs) c.as_slice.ensures ∙ drop_min c.args.count c.min.result i.slots n in
    subst (λ (l : Octets). AreThere (length l) c.split_at.result.1.now) (sym c.as_slice-2.ensures) (subst (AreThere (length i.long)) (sym rear) (there_drop (length i.long) c.args.count i.slots c.self.invariant.there))

pub spread_all-requires-clause-ascends : goal.spread_all-requires-clause-ascends
spread_all-requires-clause-ascends c =
    let i = c.self.inside in
    let n : c.min.result ≡ min c.args.count (length i.slots) = search rules in
    let rear : c.split_at.result.1.now ≡ drop c.args.count i.slots = c.split_at.ensures.back ∙ ap (λ (xs : List Insertion). drop c.min.result xs) c.as_slice.ensures ∙ drop_min c.args.count c.min.result i.slots n in
    let m : map (piece c.as_slice-2.result.now) c.split_at.result.1.now ≡ drop c.args.count c.args.self.now = ap₂ (λ (l : Octets) (xs : List Insertion). map (piece l) xs) c.as_slice-2.ensures rear ∙ sym (drop-map (piece i.long) c.args.count i.slots) ∙ ap (λ (ps : List Piece). drop c.args.count ps) c.self.view_is in
    (c.requires.0, subst (λ (ps : List Piece). Ascends c.requires.0 ps (length c.args.output.now.items)) (sym m) c.requires.1)

pub returns-clause-done : goal.returns-clause-done
returns-clause-done c = λ start a.
    let i = c.self.inside in
    let old : Octets = c.args.output.now.items in
    let n : c.min.result ≡ min c.args.count (length i.slots) = search rules in
    let rear : c.split_at.result.1.now ≡ drop c.args.count i.slots = c.split_at.ensures.back ∙ ap (λ (xs : List Insertion). drop c.min.result xs) c.as_slice.ensures ∙ drop_min c.args.count c.min.result i.slots n in
    let m : map (piece c.as_slice-2.result.now) c.split_at.result.1.now ≡ drop c.args.count c.args.self.now = ap₂ (λ (l : Octets) (xs : List Insertion). map (piece l) xs) c.as_slice-2.ensures rear ∙ sym (drop-map (piece i.long) c.args.count i.slots) ∙ ap (λ (ps : List Piece). drop c.args.count ps) c.self.view_is in
    let p = c.in_ok-spread_all.ensures.done start (subst (λ (ps : List Piece). Ascends start ps (length old)) (sym m) a) in
    passed_done start old c.spread_all.new.output.items (map (piece c.as_slice-2.result.now) c.split_at.result.1.now) c.in_ok-spread_all.field-0.0 c.in_ok-spread_all.field-0.1 (length c.spread_all.new.output.items) p ∙ ap (λ (ps : List Piece). take start old ++ spread start old ps) m
