use Rattle.std.proofs.Common.{◌≡◌, drop, map}
use Rattle.std.specs.List.{list_all}
use Rattle.std.specs.Prelude.{is_some}
use Rattle.vrepl_words.specs.Untils.{until_of}
use Rattle.vrepl_words.proofs.untils.are_untils.Given as goal

-- the texts so far are such ones
abbrev pub invariant-loop-text : goal.invariant-loop-text
invariant-loop-text l = list_all (λ text. is_some (until_of text)) (map (λ text. text.now) l.texts) ≡ list_all (λ text. is_some (until_of text)) (map (λ text. text.now) (drop l.text-index l.texts))
