use Rattle.std.proofs.Common.{ap, ◌∙◌}
use Rattle.oer_spec.specs.Lengths.{counted_bits}
use Rattle.oer_write.proofs.Mapped.{many_counted}
use Rattle.oer_write.proofs.scopes.Scope.fill_long_bitmap.Goals as goal

pub fill_apart-requires-clause-many : goal.fill_apart-requires-clause-many
fill_apart-requires-clause-many c = many_counted c.args.self.now.bitmap c.as_slice.result.now c.requires.many (c.as_slice.ensures.value ∙ c.in_ok-octets.ensures.octets ∙ ap counted_bits c.lent.ensures)
