use Rattle.std.proofs.Common.{◌≤◌, List, length, map, sym, ap, subst, ◌∙◌, arith}
use Rattle.std.proofs.lemmas.List.{length-map}
use Rattle.std.specs.Arc.{arc_value}
use Rattle.filter_rule.specs.PlanValue.{PlanValue}
use Rattle.source_feed.specs.Planned.{FeedValue}
use Rattle.board_laws.specs.Meaning.{Meaning}
use Rattle.board_laws.specs.Lawful.{start_of, IsLawful}
use Rattle.board_laws.specs.Reading.{AllReadTheirFeeds}
use Rattle.board_laws.specs.Schedule.{IsRun}
use Rattle.apply_core.specs.Fresh.{fresh_board}
use Rattle.apply_core.proofs.OneRunLaws.{is-determined, of-any_order, doesnt-clash, all-run_alone, all-isolated, fresh-alone}
use Rattle.apply_core.proofs.ScheduleLaws.{all-taken}
use Rattle.apply_core.proofs.schedule.run_schedule.Goals as goal

pub returns-clause-rows : goal.returns-clause-rows
returns-clause-rows c =
    let plans = map arc_value c.args.plans.items in
    let start : IsLawful (fresh_board plans) = subst IsLawful c.in_ok-board.ensures.fresh c.is_lawful.ensures in
    let run : IsRun c.args.feeds.now (fresh_board plans) c.args.steps.now c.in_ok-replies.replies.items c.take_steps.new.self
    = subst (λ (b : Meaning). IsRun c.args.feeds.now b c.args.steps.now c.in_ok-replies.replies.items c.take_steps.new.self) c.in_ok-board.ensures.fresh c.in_ok-replies.ensures.run in
    let lawful : IsLawful c.take_steps.new.self
    = c.streams_follow_their_own_steps.ensures.lawful c.args.feeds.now (fresh_board plans) c.take_steps.new.self c.args.steps.now c.in_ok-replies.replies.items run start in
    c.rows_are_replayed.ensures c.take_steps.new.self lawful

pub returns-clause-reads : goal.returns-clause-reads
returns-clause-reads c =
    c.in_ok-replies.ensures.reads c.in_ok-board.ensures.reads

pub returns-clause-shows : goal.returns-clause-shows
returns-clause-shows c =
    let plans = map arc_value c.args.plans.items in
    c.in_ok-replies.ensures.shows (record {
      lawful = c.is_lawful.ensures;
      count =
          ap (λ (b : Meaning). length b.streams) c.in_ok-board.ensures.fresh ∙ length-map plans start_of ∙ sym (ap (λ (ps : List PlanValue). length ps) c.in_ok-board.ensures.fed.opened)
          ∙ length-map c.args.feeds.now (λ (feed : FeedValue). feed.plan);
      reads = c.in_ok-board.ensures.reads;
    })

pub returns-clause-own : goal.returns-clause-own
returns-clause-own c =
    let plans = map arc_value c.args.plans.items in
    let run : IsRun c.args.feeds.now (fresh_board plans) c.args.steps.now c.in_ok-replies.replies.items c.take_steps.new.self
    = subst (λ (b : Meaning). IsRun c.args.feeds.now b c.args.steps.now c.in_ok-replies.replies.items c.take_steps.new.self) c.in_ok-board.ensures.fresh c.in_ok-replies.ensures.run in
    all-taken c.args.feeds.now plans c.in_ok-board.ensures.fed.opened c.streams_follow_their_own_steps.ensures.follow c.args.steps.now c.in_ok-replies.replies.items c.take_steps.new.self run

pub returns-clause-determined : goal.returns-clause-determined
returns-clause-determined c =
    let plans = map arc_value c.args.plans.items in
    let start : IsLawful (fresh_board plans) = subst IsLawful c.in_ok-board.ensures.fresh c.is_lawful.ensures in
    let run : IsRun c.args.feeds.now (fresh_board plans) c.args.steps.now c.in_ok-replies.replies.items c.take_steps.new.self
    = subst (λ (b : Meaning). IsRun c.args.feeds.now b c.args.steps.now c.in_ok-replies.replies.items c.take_steps.new.self) c.in_ok-board.ensures.fresh c.in_ok-replies.ensures.run in
    is-determined c.args.feeds.now (fresh_board plans) c.take_steps.new.self c.args.steps.now c.in_ok-replies.replies.items run start c.runs_are_determined.ensures

pub returns-clause-order : goal.returns-clause-order
returns-clause-order c =
    let plans = map arc_value c.args.plans.items in
    let start : IsLawful (fresh_board plans) = subst IsLawful c.in_ok-board.ensures.fresh c.is_lawful.ensures in
    let run : IsRun c.args.feeds.now (fresh_board plans) c.args.steps.now c.in_ok-replies.replies.items c.take_steps.new.self
    = subst (λ (b : Meaning). IsRun c.args.feeds.now b c.args.steps.now c.in_ok-replies.replies.items c.take_steps.new.self) c.in_ok-board.ensures.fresh c.in_ok-replies.ensures.run in
    let few : length (fresh_board plans).streams ≤ length c.args.feeds.now
    = omega (arith, length-map plans start_of, ap (λ (ps : List PlanValue). length ps) c.in_ok-board.ensures.fed.opened, length-map c.args.feeds.now (λ (feed : FeedValue). feed.plan)) in
    of-any_order c.args.feeds.now (fresh_board plans) c.take_steps.new.self c.args.steps.now c.in_ok-replies.replies.items run start c.agreeing_runs_show_alike.ensures.same few

pub returns-clause-alone : goal.returns-clause-alone
returns-clause-alone c =
    let plans = map arc_value c.args.plans.items in
    let start : IsLawful (fresh_board plans) = subst IsLawful c.in_ok-board.ensures.fresh c.is_lawful.ensures in
    let run : IsRun c.args.feeds.now (fresh_board plans) c.args.steps.now c.in_ok-replies.replies.items c.take_steps.new.self
    = subst (λ (b : Meaning). IsRun c.args.feeds.now b c.args.steps.now c.in_ok-replies.replies.items c.take_steps.new.self) c.in_ok-board.ensures.fresh c.in_ok-replies.ensures.run in
    all-run_alone c.args.feeds.now (fresh_board plans) c.take_steps.new.self c.args.steps.now c.in_ok-replies.replies.items run start c.streams_are_isolated.ensures.isolated c.streams_are_isolated.ensures.rows c.streams_follow_their_own_steps.ensures.lawful
    (fresh-alone plans start)

pub returns-clause-isolated : goal.returns-clause-isolated
returns-clause-isolated c =
    let plans = map arc_value c.args.plans.items in
    let start : IsLawful (fresh_board plans) = subst IsLawful c.in_ok-board.ensures.fresh c.is_lawful.ensures in
    let run : IsRun c.args.feeds.now (fresh_board plans) c.args.steps.now c.in_ok-replies.replies.items c.take_steps.new.self
    = subst (λ (b : Meaning). IsRun c.args.feeds.now b c.args.steps.now c.in_ok-replies.replies.items c.take_steps.new.self) c.in_ok-board.ensures.fresh c.in_ok-replies.ensures.run in
    all-isolated c.args.feeds.now (fresh_board plans) c.take_steps.new.self c.args.steps.now c.in_ok-replies.replies.items run start c.agreeing_runs_show_alike.ensures.lone

pub returns-clause-disjoint : goal.returns-clause-disjoint
returns-clause-disjoint c =
    let plans = map arc_value c.args.plans.items in
    let start : IsLawful (fresh_board plans) = subst IsLawful c.in_ok-board.ensures.fresh c.is_lawful.ensures in
    let run : IsRun c.args.feeds.now (fresh_board plans) c.args.steps.now c.in_ok-replies.replies.items c.take_steps.new.self
    = subst (λ (b : Meaning). IsRun c.args.feeds.now b c.args.steps.now c.in_ok-replies.replies.items c.take_steps.new.self) c.in_ok-board.ensures.fresh c.in_ok-replies.ensures.run in
    doesnt-clash c.args.feeds.now (fresh_board plans) c.take_steps.new.self c.args.steps.now c.in_ok-replies.replies.items run start c.streams_read_their_feeds.ensures.disjoint
    (subst (AllReadTheirFeeds c.args.feeds.now) c.in_ok-board.ensures.fresh c.in_ok-board.ensures.reads)
