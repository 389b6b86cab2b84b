-- What proves a closure that reads components: `search reading` at each of its exits.
use Rattle.oer_read.proofs.AdditionSteps.{addition_read, addition_passed, addition_stops, required_addition_read, required_addition_passed, required_addition_absent, required_addition_stops, default_addition_read, default_addition_passed, default_addition_stops, gives_up}
use Rattle.oer_read.proofs.DefaultSteps.{default_read, default_passed, default_stops}
use Rattle.oer_read.proofs.OptionalSteps.{optional_read, optional_passed, optional_stops}
use Rattle.oer_read.proofs.Steps.{required_read, required_passed, required_stops, done, ends, leaves}

-- root components, then additions, then the exits
pub ruleset reading = (
  required_read,
  required_passed,
  required_stops,
  optional_read,
  optional_passed,
  optional_stops,
  default_read,
  default_passed,
  default_stops,
  addition_read,
  addition_passed,
  addition_stops,
  required_addition_read,
  required_addition_passed,
  required_addition_absent,
  required_addition_stops,
  default_addition_read,
  default_addition_passed,
  default_addition_stops,
  done,
  ends,
  leaves,
  gives_up,
)
