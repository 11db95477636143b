use Rattle.std.proofs.Common.{◌≤◌, length}
use Rattle.filter_text.proofs.CutLaws.{HasRead}
use Rattle.filter_text.proofs.tokens.tokens_of.Given as goal

-- the tokens so far, which have room, and those of the rest are the text's
abbrev pub invariant-loop-rest : goal.invariant-loop-rest
invariant-loop-rest l = record { read : HasRead l.fn.text l.tokens.items l.rest; room : length l.tokens.items ≤ 10 }

abbrev pub decreases-loop-rest : goal.decreases-loop-rest
decreases-loop-rest l = length l.rest
