use Rattle.std.proofs.Common.{◌∙◌, map, sym, ap}
use Rattle.std.specs.List.{slice_get}
use Rattle.oergen_layouts.specs.Definitions.{assigned, waits}
use Rattle.oergen_layouts.specs.Untagged.{is_name_of}
use Rattle.oergen_layouts.proofs.Defining.{leads_by_name, leads_inside, leads_nowhere, no_name, put_behind, some_below}
use Rattle.oergen_layouts.proofs.definitions.make_part.Goals as goal
use Rattle.oergen_layouts.proofs.definitions.make_part.Goals.{in-Reference+in_ok-find_type, in_default+then-is_inside+in_ok-own+in_ok-push_type_name+in_ok-push, in_default+else-is_inside}

pub returns-clause-leads : goal.returns-clause-leads
returns-clause-leads c = λ few.
    let all = assigned c.args.scope.modules.now in
    elim c.match-inner.branch [
      | in-Reference+in_ok-find_type w ↦
          let at = w.in_ok-find_type.field-0.index in
          let below = some_below all at _ (w.in_ok-find_type.ensures few) in
          leads_by_name _ _ _ at _ (ap is_name_of w.in-Reference.is) w.target-is below
      | in_default+then-is_inside+in_ok-own+in_ok-push_type_name+in_ok-push w ↦
          let is = sym w.is_inside.ensures ∙ w.if-is_inside.true in
          let all_waiting = ap (λ it. map waits it.items) w.pending-is in
          let there = put_behind c.args.pending.now.items w.push.new.self.items w.len.result _ (w.len.ensures ∙ c.args.pending.now.ok.0) w.in_ok-push.ensures.items in
          leads_inside _ _ _ w.len.result _ is w.target-is (ap (λ it. slice_get it w.len.result) all_waiting ∙ there)
      | in_default+else-is_inside w ↦
          let outside = sym w.is_inside.ensures ∙ w.if-is_inside.false in
          leads_nowhere _ _ _ _ (no_name _ w.in_default.not-Reference) outside w.target-is
    ]
