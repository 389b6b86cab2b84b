use Rattle.std.proofs.Common.{rules, arith, ℤ, pos, get_or, string_bytes}
use Rattle.std.proofs.lemmas.Grind.{common_steps}
use Rattle.std.specs.List.{slice_get}
use Rattle.oergen_parse.specs.declared.lexer.TokenId.{TokenId}
use Rattle.oergen_tables.specs.Names.{IsNamed}
use Rattle.oergen_tables.proofs.Naming.{kept, zip_at}
use Rattle.oergen_tables.proofs.leaves.enumerated_form.Goals as goal

pub loop-name-preserved : goal.loop-name-preserved
loop-name-preserved c =
    let tokens = c.args.scope.tokens.now in
    let none : TokenId × ℤ = (record { index = 0 }, pos 0) in
    let ones = c.deref-name-items.result.now in
    let at = c.loop-name.name-index in
    record {
      words = search rules;
      names = rw c.in_ok-push.ensures.items (zip_at (λ one. one.0) (IsNamed tokens) ones c.loop-name.form.values.items at none _ c.loop-name-test.true c.loop-name.invariant.names (kept (slice_get tokens (get_or ones at none).0.index) c.text.result (string_bytes c.in_ok-name.name) c.text.ensures c.in_ok-name.ensures.ok));
      numbers = grind (arith, common_steps);
    }
