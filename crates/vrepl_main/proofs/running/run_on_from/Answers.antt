use Rattle.std.proofs.Common.{List, subst}
use Rattle.source_feed.specs.Planned.{FeedValue}
use Rattle.vrepl_main.specs.Running.{IsAtFeedsEnds}
use Rattle.vrepl_main.proofs.running.run_on_from.Goals as goal

pub returns-in_ok-run_in_turn-in-Alone-clause-ends : goal.returns-in_ok-run_in_turn-in-Alone-clause-ends
returns-in_ok-run_in_turn-in-Alone-clause-ends g c =
    subst (λ (fs : List FeedValue). IsAtFeedsEnds fs c.run_in_turn.new.fed.board) c.run_in_turn.ensures.feeds
    (record { fed = c.is_fed.ensures; sound = c.in_ok-run_in_turn-in-Alone.ensures.sound; ended = c.in_ok-run_in_turn-in-Alone.ensures.ended; sources = c.run_in_turn.ensures.shows; union = c.in_ok-run_in_turn-in-Alone.ensures.rows })

pub returns-in_ok-fed-in-Parallel-clause-ends : goal.returns-in_ok-fed-in-Parallel-clause-ends
returns-in_ok-fed-in-Parallel-clause-ends g c =
    subst (λ (fs : List FeedValue). IsAtFeedsEnds fs c.in_ok-fed-in-Parallel.fed.board) c.in_ok-fed-in-Parallel.ensures.feeds
    (record { fed = c.is_fed-in-Parallel.ensures; sound = c.in_ok-fed-in-Parallel.ensures.sound; ended = c.in_ok-fed-in-Parallel.ensures.ended; sources = c.in_ok-fed-in-Parallel.ensures.shows; union = c.in_ok-fed-in-Parallel.ensures.rows })
