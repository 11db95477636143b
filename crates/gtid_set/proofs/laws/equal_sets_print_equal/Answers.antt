use Rattle.std.proofs.Common.{ap}
use Rattle.gtid_set.specs.Printed.{printed_position}
use Rattle.gtid_set.proofs.Same.{equal_sets}
use Rattle.gtid_set.proofs.laws.equal_sets_print_equal.Goals as goal

pub returns : goal.returns
returns c = λ a b p q same. ap printed_position (equal_sets a b p q same)
