use Rattle.std.proofs.Common.{map, sym, subst, refl}
use Rattle.std.specs.Prelude.{IsTrue}
use Rattle.std.specs.Arc.{arc_value}
use Rattle.std.specs.List.{AllByRecursion}
use Rattle.filter_rule.specs.WellFormed.{IsPlan}
use Rattle.apply_core.specs.Fresh.{HaveSameTables}
use Rattle.apply_core.proofs.FreshLaws.{fresh-board}
use Rattle.apply_core.proofs.board.Board.new.Goals as goal

pub invariant_of-result : goal.invariant_of-result
invariant_of-result c =
    fresh-board arc_value c.fresh_boards_are_lawful.ensures c.args.plans.items c.requires.some c.requires.few
    (subst (λ plans. AllByRecursion IsPlan (map arc_value plans)) c.deref.ensures.value c.know_plans.ensures)
    (subst (λ plans. HaveSameTables (map arc_value plans)) c.deref-2.ensures.value (c.have_same_tables.ensures.0 (subst IsTrue (sym c.if-not-have_same_tables.false) refl)))
    c.in_ok-streams.streams.items c.new.result.entries c.in_ok-streams.ensures c.new.ensures
