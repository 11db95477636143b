use Rattle.std.proofs.Common.{◌≡◌, length, take, drop}
use Rattle.filter_rule.specs.Rules.{decide_each}
use Rattle.filter_rule.specs.Private.RuleViews.{form_seen}
use Rattle.filter_rule.proofs.EachLaws.{with_front}
use Rattle.filter_rule.proofs.decide.decide_each.Given as goal

-- the tables so far are decided, and the others as they were
abbrev pub invariant-loop-i : goal.invariant-loop-i
invariant-loop-i l =
    (length l.decisions ≡ length l.tables)
    × (with_front (take l.i l.decisions) (decide_each l.place.stream l.place.rule (form_seen l.form) (drop l.i l.tables) (drop l.i l.decisions))
    ≡ decide_each l.place.stream l.place.rule (form_seen l.form) l.tables l.initial.decisions)
