use Rattle.std.proofs.Common.{arith}
use Rattle.des.specs.Private.Words.{odd_word}
use Rattle.des.proofs.key_schedule.odd_word.Goals as goal

pub returns : goal.returns
unfolding odd_word
returns c = omega arith
