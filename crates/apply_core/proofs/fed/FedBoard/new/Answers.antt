use Rattle.std.proofs.Common.{List, length, map, sym, ap, subst, ◌∙◌}
use Rattle.std.proofs.lemmas.List.{length-map}
use Rattle.std.specs.Arc.{arc_value}
use Rattle.filter_rule.specs.PlanValue.{PlanValue}
use Rattle.source_feed.specs.Planned.{FeedValue}
use Rattle.board_laws.specs.Lawful.{start_of}
use Rattle.board_laws.specs.Meaning.{Meaning}
use Rattle.apply_core.specs.Ended.{IsFedBoard}
use Rattle.apply_core.proofs.fed.FedBoard.new.Goals as goal

pub invariant_of-result : goal.invariant_of-result
invariant_of-result c =
    subst (λ (fs : List FeedValue). IsFedBoard fs c.in_ok-board.board) c.deref.ensures.value (record {
      lawful = c.is_lawful.ensures;
      count =
          ap (λ (b : Meaning). length b.streams) c.in_ok-board.ensures.fresh ∙ length-map (map arc_value c.args.plans.items) start_of ∙ sym (ap (λ (ps : List PlanValue). length ps) c.in_ok-board.ensures.fed.opened)
          ∙ length-map c.deref.result.now (λ (feed : FeedValue). feed.plan);
      reads = c.in_ok-board.ensures.reads;
    })
