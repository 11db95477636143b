use Rattle.std.proofs.Common.{◌≡◌, length}
use Rattle.step_script.specs.ScriptLines.{words_of_line}
use Rattle.step_script.proofs.word.next_word.Given as goal

-- what is left has the words of the whole
abbrev pub invariant-loop-rest : goal.invariant-loop-rest
invariant-loop-rest l = words_of_line l.text ≡ words_of_line l.fn.text

abbrev pub decreases-loop-rest : goal.decreases-loop-rest
decreases-loop-rest l = length l.text
