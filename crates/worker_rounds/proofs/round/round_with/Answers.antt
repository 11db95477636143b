use Rattle.std.proofs.Common.{◌≡◌, ◌≤◌, List, [], length, vec_len, sym, ap, subst, ◌∙◌}
use Rattle.std.specs.Vec.{vec_capacity}
use Rattle.source_feed.specs.Planned.{FeedValue}
use Rattle.board_laws.specs.FedBoards.{Fed, IsFedBoard}
use Rattle.worker_rounds.specs.Private.OnRound.{applied_on}
use Rattle.worker_rounds.proofs.RoundsEnd.{round-back}
use Rattle.worker_rounds.proofs.round.round_with.Goals as goal

pub round_of-board-requires-clause-fed : goal.round_of-board-requires-clause-fed
round_of-board-requires-clause-fed g c = λ loans lives.
    subst (λ (fs : List FeedValue). IsFedBoard fs c.into_parts-board.result.0) (sym c.deref.ensures.value) c.into_parts-board.ensures.fed

pub round_of-board-requires-clause-count : goal.round_of-board-requires-clause-count
round_of-board-requires-clause-count g c = λ loans lives.
    c.requires.count ∙ ap (λ (fs : List FeedValue). length fs) (sym (c.deref.ensures.value ∙ c.into_parts-board.ensures.feeds ∙ ap (λ (f : Fed). f.feeds) c.swap.ensures.y_after))

pub round_of-board-requires-clause-first : goal.round_of-board-requires-clause-first
round_of-board-requires-clause-first g c = λ loans lives.
    c.requires.first ∙ ap applied_on (sym (c.into_parts-board.ensures.board ∙ ap (λ (f : Fed). f.board) c.swap.ensures.y_after))

pub round_of-board-requires-clause-room : goal.round_of-board-requires-clause-room
round_of-board-requires-clause-room g c = λ loans lives.
    subst (λ (fs : List FeedValue). (c.args.room.answers.items ≡ []) × (vec_len c.args.room.answers ≡ 0) × (length fs ≤ vec_capacity c.args.room.answers)) (sym (c.deref.ensures.value ∙ c.into_parts-board.ensures.feeds ∙ ap (λ (f : Fed). f.feeds) c.swap.ensures.y_after)) c.requires.answers

pub from_parts-requires : goal.from_parts-requires
from_parts-requires g c =
    subst (λ (fs : List FeedValue). IsFedBoard fs c.round_of-board.result.0) c.deref.ensures.value c.round_of-board.ensures.fed

pub returns-clause-moved : goal.returns-clause-moved
returns-clause-moved g c =
    (round-back c.args.most c.args.fed.now.feeds c.deref.result.now c.args.fed.now.board c.into_parts-board.result.0 c.round_of-board.result.0 c.replace.new.dest.board c.round_of-board.result.1.items (c.deref.ensures.value ∙ c.into_parts-board.ensures.feeds ∙ ap (λ (f : Fed). f.feeds) c.swap.ensures.y_after) (c.into_parts-board.ensures.board ∙ ap (λ (f : Fed). f.board) c.swap.ensures.y_after) (ap (λ (f : Fed). f.board) (c.replace.ensures.after ∙ c.from_parts.ensures)) (c.round_of-board.ensures.moved, c.round_of-board.ensures.answers, c.round_of-board.ensures.up_to, c.round_of-board.ensures.fed)).0

pub returns-clause-answers : goal.returns-clause-answers
returns-clause-answers g c =
    (round-back c.args.most c.args.fed.now.feeds c.deref.result.now c.args.fed.now.board c.into_parts-board.result.0 c.round_of-board.result.0 c.replace.new.dest.board c.round_of-board.result.1.items (c.deref.ensures.value ∙ c.into_parts-board.ensures.feeds ∙ ap (λ (f : Fed). f.feeds) c.swap.ensures.y_after) (c.into_parts-board.ensures.board ∙ ap (λ (f : Fed). f.board) c.swap.ensures.y_after) (ap (λ (f : Fed). f.board) (c.replace.ensures.after ∙ c.from_parts.ensures)) (c.round_of-board.ensures.moved, c.round_of-board.ensures.answers, c.round_of-board.ensures.up_to, c.round_of-board.ensures.fed)).1

pub returns-clause-up_to : goal.returns-clause-up_to
returns-clause-up_to g c =
    (round-back c.args.most c.args.fed.now.feeds c.deref.result.now c.args.fed.now.board c.into_parts-board.result.0 c.round_of-board.result.0 c.replace.new.dest.board c.round_of-board.result.1.items (c.deref.ensures.value ∙ c.into_parts-board.ensures.feeds ∙ ap (λ (f : Fed). f.feeds) c.swap.ensures.y_after) (c.into_parts-board.ensures.board ∙ ap (λ (f : Fed). f.board) c.swap.ensures.y_after) (ap (λ (f : Fed). f.board) (c.replace.ensures.after ∙ c.from_parts.ensures)) (c.round_of-board.ensures.moved, c.round_of-board.ensures.answers, c.round_of-board.ensures.up_to, c.round_of-board.ensures.fed)).2

pub returns-clause-feeds : goal.returns-clause-feeds
returns-clause-feeds g c =
    ap (λ (f : Fed). f.feeds) (c.replace.ensures.after ∙ c.from_parts.ensures) ∙ c.into_parts-board.ensures.feeds ∙ ap (λ (f : Fed). f.feeds) c.swap.ensures.y_after
