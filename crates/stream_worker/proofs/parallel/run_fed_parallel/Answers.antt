use Rattle.std.proofs.Common.{List, sym, subst}
use Rattle.source_feed.specs.Planned.{FeedValue}
use Rattle.board_laws.specs.FedBoards.{Fed}
use Rattle.apply_core.specs.Ended.{AllHaveEnded}
use Rattle.stream_worker.proofs.parallel.run_fed_parallel.Goals as goal

pub returns-clause-ended : goal.returns-clause-ended
returns-clause-ended g c =
    subst (λ (f : Fed). AllHaveEnded f.feeds f.board) (sym c.from_parts.ensures)
    (subst (λ (fs : List FeedValue). AllHaveEnded fs c.in_ok-board.board) c.deref.ensures.value c.in_ok-board.ensures.ended)
