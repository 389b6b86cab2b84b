use Rattle.std.proofs.lemmas.Result.{err_from_is_err_and}
use Rattle.oer_write.specs.Held.{marks}
use Rattle.oer_write.specs.Layout.{Piece, total, Ascends}
use Rattle.oer_write.specs.Seen.{around, shown}
use Rattle.std.proofs.Common.{ℕ, List, [], take, inl, inr, sym, append-nil, rules, ◌≡◌, ◌&&◌, true, not, refl, ap, ◌∙◌, ap₂, ◌+◌, subst}
use Rattle.oer_write.specs.Written.{Written}
use Rattle.oer_write.proofs.Holding.{wider_sound}
use Rattle.oer_write.proofs.encoder.Encoder.put_within.Goals as goal

pub invariant_of-self : goal.invariant_of-self
invariant_of-self g c =
    let q : c.replace-pieces.result ≡ c.self.inside.insertions = search rules in
    let kind : (c.self.inside.scope.is_open && not c.self.inside.scope.is_set) ≡ true = ap (λ (w : Written). w.frame.is_open && not w.frame.is_set) c.self.view_is ∙ c.requires.sequence in
    wider_sound c.self.inside.scope (record { is_open = c.self.inside.scope.is_open; is_set = c.self.inside.scope.is_set; extensible = c.self.inside.scope.extensible; presence = c.self.inside.scope.presence; components = c.self.inside.scope.components; bitmap = c.self.inside.scope.bitmap; region = c.put_by_sort-answer.new.region; opens = c.self.inside.scope.opens })
    c.self.inside.is_lent c.self.inside.is_inside _ _ c.self.inside.insertions c.put_by_sort-answer.new.insertions refl kind c.self.invariant c.put_by_sort-answer.ensures.laid c.put_by_sort-answer.ensures.base c.put_by_sort-answer.ensures.first (c.put_by_sort-answer.ensures.front ∙ ap (take c.self.inside.scope.region.first) q)

pub invariant_of-self-2 : goal.invariant_of-self-2
invariant_of-self-2 g c =
    let q : c.replace-pieces.result ≡ c.self.inside.insertions = search rules in
    let kind : (c.self.inside.scope.is_open && not c.self.inside.scope.is_set) ≡ true = ap (λ (w : Written). w.frame.is_open && not w.frame.is_set) c.self.view_is ∙ c.requires.sequence in
    wider_sound c.self.inside.scope (record { is_open = c.self.inside.scope.is_open; is_set = c.self.inside.scope.is_set; extensible = c.self.inside.scope.extensible; presence = c.self.inside.scope.presence; components = c.self.inside.scope.components; bitmap = c.self.inside.scope.bitmap; region = c.put_by_sort-answer.new.region; opens = c.self.inside.scope.opens })
    c.self.inside.is_lent c.self.inside.is_inside _ _ c.self.inside.insertions c.put_by_sort-answer.new.insertions refl kind c.self.invariant c.put_by_sort-answer.ensures.laid c.put_by_sort-answer.ensures.base c.put_by_sort-answer.ensures.first (c.put_by_sort-answer.ensures.front ∙ ap (take c.self.inside.scope.region.first) q)

pub returns-in_err-answer-clause-refused : goal.returns-in_err-answer-clause-refused
returns-in_err-answer-clause-refused g c =
    let p = err_from_is_err_and c.from_residual.result c.from_residual.ensures.1 in
    let q : c.replace-pieces.result ≡ c.self.inside.insertions = search rules in
    let i = c.self.inside in
    let e = c.put_by_sort-answer.ensures in
    let v = c.self.view_is in
    let raw : around c.put_by_sort-answer.new.region c.put_by_sort-answer.new.out.items c.put_by_sort-answer.new.insertions ≡ around i.scope.region i.output.now.items i.insertions =
    e.octets ∙ ap (λ (is : List Piece). around i.scope.region i.output.now.items is) q in
    let front : take c.put_by_sort-answer.new.region.first c.put_by_sort-answer.new.insertions ≡ take i.scope.region.first i.insertions =
    ap (λ (n : ℕ). take n c.put_by_sort-answer.new.insertions) e.first ∙ e.front ∙ ap (take i.scope.region.first) q in
    let octets : shown c.put_by_sort-answer.new.region.base (take c.put_by_sort-answer.new.region.first c.put_by_sort-answer.new.insertions) (around c.put_by_sort-answer.new.region c.put_by_sort-answer.new.out.items c.put_by_sort-answer.new.insertions) ≡ c.args.self.now.octets =
    ap₂ (λ (b : ℕ) (ps : List Piece). shown b ps (around c.put_by_sort-answer.new.region c.put_by_sort-answer.new.out.items c.put_by_sort-answer.new.insertions)) e.base front ∙ ap (shown i.scope.region.base (take i.scope.region.first i.insertions)) raw ∙ ap (λ (w : Written). w.octets) v in
    let outer : marks i.is_lent i.is_inside (take c.put_by_sort-answer.new.region.first c.put_by_sort-answer.new.insertions) ≡ c.args.self.now.outer = ap (marks i.is_lent i.is_inside) front ∙ ap (λ (w : Written). w.outer) v in
    rw (p.1, p.2) (record {
      reason = elim c.in_err-answer.ensures.refused [ inl m ↦ inl m | inr f ↦ inr (inr (inl f)) ];
      mode = c.in_err-answer.ensures.mode;
      keeps = record {
        octets = ([], octets ∙ sym (append-nil c.args.self.now.octets));
        is_open = ap (λ (w : Written). w.frame.is_open) v;
        is_set = ap (λ (w : Written). w.frame.is_set) v;
        extensible = ap (λ (w : Written). w.frame.extensible) v;
        start = ap₂ (λ (b : ℕ) (ps : List Piece). b + total ps) e.base front ∙ ap (λ (w : Written). w.frame.start) v;
        outer = outer;
      };
    })

pub put_by_sort-answer-requires-clause-before : goal.put_by_sort-answer-requires-clause-before
put_by_sort-answer-requires-clause-before g c =
    let q : c.replace-pieces.result ≡ c.self.inside.insertions = search rules in
    subst (λ (z : List Piece). Ascends 0 (take c.self.inside.scope.region.first z) c.self.inside.scope.region.base) (sym q) c.self.invariant.before
