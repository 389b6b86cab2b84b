use Rattle.std.specs.Prelude.{string_bytes}
use Rattle.std.specs.declared.alloc.Global.{Global}
use Rattle.oer_rows.proofs.Utf8Octets.{octets_read, octets_refused}
use Rattle.oer_rows.proofs.held_texts.Utf8TextDecode.decode_with_tag_and_constraints.Goals as goal

pub returns-in-Ok-clause-law : goal.returns-in-Ok-clause-law
returns-in-Ok-clause-law c = octets_read c.args.constraints (λ s. string_bytes s) _ _ _ c.in-Ok.ensures.law

pub returns-in-Err-clause-law : goal.returns-in-Err-clause-law
returns-in-Err-clause-law c = octets_refused c.args.constraints (λ s. string_bytes {Z = Global} s) _ _ _ c.in-Err.ensures.function
