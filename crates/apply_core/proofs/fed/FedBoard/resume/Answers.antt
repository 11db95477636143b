use Rattle.std.proofs.Common.{List, subst}
use Rattle.std.proofs.lemmas.Result.{err_from_is_err_and}
use Rattle.source_feed.specs.Planned.{FeedValue}
use Rattle.apply_core.specs.Ended.{IsFedBoard}
use Rattle.apply_core.proofs.fed.FedBoard.resume.Goals as goal

pub invariant_of-result : goal.invariant_of-result
invariant_of-result c = subst (λ (fs : List FeedValue). IsFedBoard fs c.in_ok-board.board) c.deref.ensures.value c.in_ok-board.ensures.board

pub returns-in_err-board-clause-refused : goal.returns-in_err-board-clause-refused
returns-in_err-board-clause-refused c =
    let p = err_from_is_err_and c.from_residual.result c.from_residual.ensures.1 in
    rw (p.1, p.2) (rw c.deref.ensures.value at c.in_err-board.ensures.refused)
