use Rattle.std.proofs.Common.{◌-◌, ◌^◌, false, length, refl, sym, subst, arith}
use Rattle.oer_spec.proofs.Steps.{are_octets}
use Rattle.oer_walk.specs.Parts.{ArePlaced}
use Rattle.oer_walk.specs.Shown.{AreNodes}
use Rattle.oer_walk.specs.Walks.{most_of, part_at}
use Rattle.oer_walk.proofs.Everywhere.{walk_placed, answered_ok}
use Rattle.oer_walk.proofs.TakesTrees.{walk_takes, took_ok, took_err, shown_ok}
use Rattle.oer_walk.proofs.walks.walk.Goals as goal

pub returns-in-Ok-clause-answer : goal.returns-in-Ok-clause-answer
returns-in-Ok-clause-answer c =
    answered_ok c.new.result.words.now c.args.table.now c.args.type_number c.args.levels c.most_nodes.result c.args.input.now c.in-Ok.rest.now _ c.new.ensures c.most_nodes.ensures (are_octets c.args.input.now c.type_inv.input) c.in-Ok.ensures.answer c.in-Ok.ensures.count c.saturating_sub.ensures refl

pub returns-in-Ok-clause-parts : goal.returns-in-Ok-clause-parts
returns-in-Ok-clause-parts c =
    subst (ArePlaced (length c.args.input.now) c.min-shown.result) (sym c.walk_part-walked.ensures.nodes)
    (walk_placed c.new.result.words.now c.args.levels (record { name = 2 ^ 32 - 1; type_number = c.args.type_number; level = 0; around = 2 ^ 64 - 1; is_open = false; end = length c.args.input.now; most = c.most_nodes.result }) c.args.input.now c.args.room.now c.min-shown.result refl (are_octets c.args.input.now c.type_inv.input) (omega arith) (omega (arith, c.walk_part-walked.ensures.count)))

pub returns-in-Err-clause-parts : goal.returns-in-Err-clause-parts
returns-in-Err-clause-parts c =
    subst (ArePlaced (length c.args.input.now) c.min-shown.result) (sym c.walk_part-walked.ensures.nodes)
    (walk_placed c.new.result.words.now c.args.levels (record { name = 2 ^ 32 - 1; type_number = c.args.type_number; level = 0; around = 2 ^ 64 - 1; is_open = false; end = length c.args.input.now; most = c.most_nodes.result }) c.args.input.now c.args.room.now c.min-shown.result refl (are_octets c.args.input.now c.type_inv.input) (omega arith) (omega (arith, c.walk_part-walked.ensures.count)))

pub returns-in-Ok-clause-takes : goal.returns-in-Ok-clause-takes
returns-in-Ok-clause-takes c = λ t o rest e i f h.
    took_ok (AreNodes c.args.table.now c.args.input.now c.args.type_number t) (most_of (length c.args.input.now)) c.most_nodes.result c.walk_part-walked.new.count c.args.input.now o rest c.in-Ok.rest.now (part_at c.new.result.words.now c.args.levels (record { name = 2 ^ 32 - 1; type_number = c.args.type_number; level = 0; around = 2 ^ 64 - 1; is_open = false; end = length c.args.input.now; most = c.most_nodes.result }) 0 c.args.input.now) c.saturating_sub.result e c.in-Ok.ensures.answer c.saturating_sub.ensures c.most_nodes.ensures
    (walk_takes c.new.result.words.now c.args.table.now c.args.levels (record { name = 2 ^ 32 - 1; type_number = c.args.type_number; level = 0; around = 2 ^ 64 - 1; is_open = false; end = length c.args.input.now; most = c.most_nodes.result }) c.args.input.now o rest t c.new.ensures c.type_inv.table refl e i f h refl)

pub returns-in-Err-clause-takes : goal.returns-in-Err-clause-takes
returns-in-Err-clause-takes c = λ t o rest e i f h.
    took_err (AreNodes c.args.table.now c.args.input.now c.args.type_number t) (most_of (length c.args.input.now)) c.most_nodes.result c.walk_part-walked.new.count o rest c.in-Err.stop (part_at c.new.result.words.now c.args.levels (record { name = 2 ^ 32 - 1; type_number = c.args.type_number; level = 0; around = 2 ^ 64 - 1; is_open = false; end = length c.args.input.now; most = c.most_nodes.result }) 0 c.args.input.now) c.in-Err.stop.place c.in-Err.ensures.answer c.in-Err.ensures.count c.most_nodes.ensures
    (walk_takes c.new.result.words.now c.args.table.now c.args.levels (record { name = 2 ^ 32 - 1; type_number = c.args.type_number; level = 0; around = 2 ^ 64 - 1; is_open = false; end = length c.args.input.now; most = c.most_nodes.result }) c.args.input.now o rest t c.new.ensures c.type_inv.table refl e i f h refl)

pub returns-in-Ok-clause-shows : goal.returns-in-Ok-clause-shows
returns-in-Ok-clause-shows c = λ t o rest e i f h none all_shown.
    shown_ok (AreNodes c.args.table.now c.args.input.now c.args.type_number t) c.most_nodes.result c.min-shown.result c.walk_part-walked.new.count c.args.room.now _ (part_at c.new.result.words.now c.args.levels (record { name = 2 ^ 32 - 1; type_number = c.args.type_number; level = 0; around = 2 ^ 64 - 1; is_open = false; end = length c.args.input.now; most = c.most_nodes.result }) 0 c.args.input.now) c.in-Ok.rest.now rest c.walk_part-walked.ensures.nodes c.in-Ok.ensures.answer c.in-Ok.ensures.count (omega arith) all_shown
    (walk_takes c.new.result.words.now c.args.table.now c.args.levels (record { name = 2 ^ 32 - 1; type_number = c.args.type_number; level = 0; around = 2 ^ 64 - 1; is_open = false; end = length c.args.input.now; most = c.most_nodes.result }) c.args.input.now o rest t c.new.ensures c.type_inv.table refl e i f h refl)

pub returns-in-Err-clause-shows : goal.returns-in-Err-clause-shows
returns-in-Err-clause-shows c = λ t o rest e i f h none all_shown. absurd cc
