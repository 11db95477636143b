use Rattle.std.proofs.Common.{◌≡◌, ◌-◌, map}
use Rattle.log_tables.specs.Extra.{texts_at}
use Rattle.log_tables.proofs.Fronts.{with_first}
use Rattle.log_tables.proofs.labels.texts_of.Given as goal

-- the labels so far, and those of the rest
abbrev pub invariant-loop : goal.invariant-loop
invariant-loop l = with_first (map (λ b. b.now) l.labels.items) (texts_at (l.count - l.counter) l.left) ≡ texts_at l.count l.bytes
