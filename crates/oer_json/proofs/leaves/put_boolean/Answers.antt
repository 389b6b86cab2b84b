use Rattle.std.proofs.Common.{ap}
use Rattle.oer_json.specs.Readings.{boolean_in}
use Rattle.oer_spec.specs.Tree.{Boolean}
use Rattle.oer_json.proofs.Readings.{puts_leaf}
use Rattle.oer_json.proofs.leaves.put_boolean.Goals as goal

pub returns-in_ok-write_bool-in-Bool : goal.returns-in_ok-write_bool-in-Bool
returns-in_ok-write_bool-in-Bool c =
    puts_leaf (boolean_in c.args.json.now) (Boolean c.in-Bool.is_true) tt c.args.out.now.items c.write_bool.new.out.items (ap boolean_in c.in-Bool.is) c.in_ok-write_bool-in-Bool.ensures.0 c.in_ok-write_bool-in-Bool.ensures.1
