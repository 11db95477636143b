use Rattle.std.proofs.Common.{rules}
use Rattle.gtid_set.specs.Text.{intervals_of_piece}
use Rattle.gtid_set.proofs.read.push_piece.Goals as goal

pub returns-in_err-last-in-Some : goal.returns-in_err-last-in-Some
unfolding intervals_of_piece
returns-in_err-last-in-Some c = search rules

pub returns-then-first-last : goal.returns-then-first-last
unfolding intervals_of_piece
returns-then-first-last c = search rules
