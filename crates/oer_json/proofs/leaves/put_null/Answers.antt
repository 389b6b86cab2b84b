use Rattle.std.proofs.Common.{refl, sym, ap, append-nil}
use Rattle.oer_json.specs.Readings.{null_in}
use Rattle.oer_spec.specs.Tree.{Null}
use Rattle.oer_json.proofs.Readings.{puts_leaf}
use Rattle.oer_json.proofs.leaves.put_null.Goals as goal

pub returns-in-Null : goal.returns-in-Null
returns-in-Null c = puts_leaf (null_in c.args.json.now) Null tt c.args.out.now.items c.args.out.now.items (ap null_in c.in-Null.is) (λ k. refl) (sym (append-nil c.args.out.now.items))
