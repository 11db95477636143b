use Rattle.std.proofs.Common.{◌≡◌, length}
use Rattle.log_feed.specs.Words.{has_word_from, has_word}
use Rattle.log_feed.proofs.words.has_word.Given as goal

-- what is left has the word where all of it does
abbrev pub invariant-loop-byte : goal.invariant-loop-byte
invariant-loop-byte l = has_word_from l.inside l.word l.left ≡ has_word l.word l.text

abbrev pub decreases-loop-byte : goal.decreases-loop-byte
decreases-loop-byte l = length l.left
