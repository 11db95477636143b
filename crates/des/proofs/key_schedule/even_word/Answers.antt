use Rattle.std.proofs.Common.{arith}
use Rattle.des.specs.Private.Words.{even_word}
use Rattle.des.proofs.key_schedule.even_word.Goals as goal

pub returns : goal.returns
unfolding even_word
returns c = omega arith
