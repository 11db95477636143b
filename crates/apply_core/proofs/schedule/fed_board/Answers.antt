use Rattle.std.proofs.Common.{map, refl, sym, subst}
use Rattle.std.specs.Prelude.{IsTrue}
use Rattle.std.specs.Arc.{arc_value}
use Rattle.apply_core.proofs.ScheduleLaws.{fresh-reading}
use Rattle.apply_core.proofs.schedule.fed_board.Goals as goal

pub returns-clause-reads : goal.returns-clause-reads
returns-clause-reads c =
    fresh-reading c.args.feeds.now (map arc_value c.args.plans.items) c.new.result (rw c.deref.ensures.value at c.are_opened_under.ensures.opened.0 (subst IsTrue (sym c.if-not-are_opened_under.false) refl))
    (c.are_opened_under.ensures.whole (subst IsTrue (sym c.if-not-are_opened_under.false) refl)) c.new.ensures.fresh
