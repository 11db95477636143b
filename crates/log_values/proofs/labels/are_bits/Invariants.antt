use Rattle.std.proofs.Common.{◌≡◌, ◌-◌, length}
use Rattle.log_values.specs.Labels.{bits_left}
use Rattle.log_values.proofs.labels.are_bits.Given as goal

abbrev pub invariant-loop : goal.invariant-loop
invariant-loop l = bits_left (length l.fn.labels - l.counter) l.left ≡ bits_left (length l.fn.labels) l.fn.n
