use Rattle.std.proofs.Common.{◌≡◌, ◌∙◌, ◌++◌, ap, sym, inr, cond, Some, None, List, map, arith}
use Rattle.std.specs.Option.{option_map}
use Rattle.oergen_layouts.specs.Rows.{Placed, passed, placed}
use Rattle.oergen_layouts.proofs.Walking.{stopped_more}
use Rattle.oergen_layouts.proofs.rows.+rows.Goals as goal

pub written_rows-returns-then-not-passes : goal.written_rows-returns-then-not-passes
written_rows-returns-then-not-passes t c = record {
  rows = tt;
  refused = λ own.
      let stopped : passed c.loop-member.walk c.member-item.result ≡ None = c.passes.ensures (omega arith) ∙ ap (λ b. cond b (Some c.passes.new.self) None) c.if-not-passes.true in
      let none = stopped_more c.loop-member.walk c.args.members.now c.loop-member.member-index c.member-item.result c.loop-member-test.true (sym c.member-item.is) stopped c.in_default.not-Component in
      inr (c.loop-member.invariant.rows own ∙ ap (option_map (λ (rest : List Placed). map placed c.loop-member.rows.items ++ rest)) none);
}
