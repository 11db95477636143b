use Rattle.std.proofs.Common.{◌≡◌, leb, drop}
use Rattle.std.specs.List.{list_any}
use Rattle.log_groups.proofs.statement.has_other_than_ascii.Given as goal

abbrev pub invariant-loop-byte : goal.invariant-loop-byte
invariant-loop-byte l = list_any (λ b. leb 128 b) (drop l.byte-index l.text) ≡ list_any (λ b. leb 128 b) l.text
