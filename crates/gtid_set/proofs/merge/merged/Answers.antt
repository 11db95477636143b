use Rattle.std.proofs.Common.{sym, ◌∙◌, ap, subst}
use Rattle.gtid_set.specs.declared.intervals.Intervals.{Intervals}
use Rattle.gtid_set.specs.Inner.Kept.{intervals_listed}
use Rattle.gtid_set.specs.Text.{set_of}
use Rattle.gtid_set.proofs.TextIntervals.{Each, Each-permutation, sorted-rising, set-sorted}
use Rattle.gtid_set.proofs.merge.merged.Goals as goal

pub merge-requires-clause-each : goal.merge-requires-clause-each
merge-requires-clause-each c =
    let each : Each c.in-Many.many.items = subst (λ (i : Intervals). Each (intervals_listed i)) c.in-Many.is c.requires in
    Each-permutation c.in-Many.many.items c.sort_unstable.new.self.items c.sort_unstable.ensures.permutation each

pub merge-requires-clause-rising : goal.merge-requires-clause-rising
merge-requires-clause-rising c = sorted-rising c.sort_unstable.new.self.items c.sort_unstable.ensures.sorted

pub returns-in-Many : goal.returns-in-Many
returns-in-Many c =
    let each : Each c.in-Many.many.items = subst (λ (i : Intervals). Each (intervals_listed i)) c.in-Many.is c.requires in
    c.from_vec.ensures ∙ c.merge.ensures ∙ set-sorted c.in-Many.many.items c.sort_unstable.new.self.items c.sort_unstable.ensures.permutation each
    ∙ ap (λ (i : Intervals). set_of (intervals_listed i)) (sym c.in-Many.is)
