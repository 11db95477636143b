use Rattle.std.proofs.Common.{◌≡◌, take, map}
use Rattle.vrepl_words.proofs.given.copies.Given as goal

-- the texts so far
abbrev pub invariant-loop-text : goal.invariant-loop-text
invariant-loop-text l = map (λ text. text.now) l.copies.items ≡ map (λ text. text.now) (take l.text-index l.texts)
