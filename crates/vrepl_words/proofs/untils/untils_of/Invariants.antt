use Rattle.std.proofs.Common.{◌≡◌, ◌++◌, drop, map}
use Rattle.std.specs.List.{filter_map}
use Rattle.vrepl_choices.specs.UntilValue.{until_value}
use Rattle.vrepl_words.specs.Untils.{until_of}
use Rattle.vrepl_words.proofs.untils.untils_of.Given as goal

-- those of the texts so far stand in front of those of the others
abbrev pub invariant-loop-text : goal.invariant-loop-text
invariant-loop-text l = filter_map until_of (map (λ text. text.now) l.texts) ≡ map until_value l.untils.items ++ filter_map until_of (map (λ text. text.now) (drop l.text-index l.texts))
