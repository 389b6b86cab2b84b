use Rattle.std.proofs.Common.{[], sym, append-nil}
use Rattle.std.proofs.lemmas.Result.{IfErr-weaker}
use Rattle.oer_write.proofs.Closing.{closed_front}
use Rattle.oer_write.proofs.scopes.Scope.close_sequence.Goals as goal

pub returns-clause-refused : goal.returns-clause-refused
returns-clause-refused c = IfErr-weaker c.preamble.result _ _ (λ x h. (h, closed_front c.args.self.now.region c.args.self.now.bitmap c.args.out.now.items c.close_additions.new.out.items c.close_additions.new.out.items c.args.insertions.now c.close_additions.new.insertions c.requires c.in_ok-close_additions.ensures.done ([], sym (append-nil c.close_additions.new.out.items)))) c.preamble.ensures.refused
