use Rattle.std.proofs.Common.{◌≡◌, ◌∙◌, ◌++◌, List, [], ◌∷◌, length, map, false, sym, ap, subst}
use Rattle.std.proofs.lemmas.List.{flat_map_more}
use Rattle.std.specs.List.{flat_map}
use Rattle.oergen_layouts.specs.Definitions.{AreParts, IsPeeled, LeadsTo, Written, assigned, has_parts, inside_by, waits}
use Rattle.oergen_layouts.specs.declared.definitions.Part.{Part}
use Rattle.oergen_layouts.proofs.Defining.{all_lead_on, keeps_on, one_more, peeled_row, row_more, whole_part}
use Rattle.oergen_layouts.proofs.definitions.parts_of.Goals as goal

pub returns-then-not-has_parts-clause-parts : goal.returns-then-not-has_parts-clause-parts
returns-then-not-has_parts-clause-parts c = λ few.
    let made = c.in_ok-make_part.ensures in
    let none : has_parts c.args.of.now.body ≡ false = sym c.has_parts.ensures ∙ c.if-not-has_parts.true in
    let parts = c.in_ok-push.ensures.items ∙ ap (λ (it : List Part). it ++ c.in_ok-make_part.field-0 ∷ []) c.new-parts.ensures.items in
    subst (AreParts _ _ _ c.args.of.now) (sym parts) (whole_part _ _ _ c.args.of.now c.in_ok-make_part.field-0 none made.row made.peeled (made.leads few))

pub loop-row-preserved : goal.loop-row-preserved
loop-row-preserved c =
    let home = c.args.parent.1 in
    let before = c.loop-row.invariant in
    let parts = c.loop-row.parts.items in
    let part = c.in_ok-make_part-2.field-0 in
    let made = c.in_ok-make_part-2.ensures in
    let next = c.push-in-loop-row.new.self.items in
    let pushed = c.in_ok-push-2.ensures.items in
    let row = c.row-item.result in
    record {
      keeps = keeps_on c.args.pending.now.items c.loop-row.pending.items _ before.keeps made.keeps;
      are_waiting = made.waits ∙ ap (λ (it : List Written). it ++ inside_by home part) before.are_waiting ∙ flat_map_more (inside_by home) (map waits c.args.pending.now.items) parts part ∙ ap (λ (it : List Part). map waits c.args.pending.now.items ++ flat_map (inside_by home) it) (sym pushed);
      are_rows = row_more c.deref-row-items.result.now c.loop-row.row-index row parts next part c.loop-row-test.true c.row-item.is pushed made.row before.are_rows;
      are_peeled = one_more (IsPeeled c.args.of.now) parts next part pushed before.are_peeled (peeled_row c.args.of.now row part made.row made.peeled);
      lead = λ few.
          let lead = LeadsTo (length (assigned c.args.scope.modules.now)) _ home in
          one_more lead parts next part pushed (all_lead_on _ _ _ (inside_by home part) home parts made.waits (before.lead few)) (made.leads few);
    }
