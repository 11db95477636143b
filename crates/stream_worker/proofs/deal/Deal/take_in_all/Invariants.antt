use Rattle.std.proofs.Common.{◌≡◌, ◌+◌, ◌≤◌, ℕ, length, vec_len, slice_get}
use Rattle.std.specs.Prelude.{IsSomeAnd}
use Rattle.std.specs.Vec.{vec_capacity}
use Rattle.std.specs.Vec.Iter.{into_iter_items}
use Rattle.stream_worker.specs.Outlines.{Outlined}
use Rattle.stream_worker.specs.Private.Turns.{IsCaughtUp, IsTurn, IsAhead, AreReceiptsOn}
use Rattle.stream_worker.proofs.deal.Deal.take_in_all.Given as goal

-- the groups so far are taken in, and those to come stand ready
abbrev pub invariant-loop-ready : goal.invariant-loop-ready
invariant-loop-ready l =
    (goal.iterator-loop-ready).can_next l.ready-iterator × (goal.iterator-loop-ready).is_finite l.ready-iterator × IsTurn l.feed l.s l.fn.self l.self × IsSomeAnd (slice_get l.self.board l.s) (IsCaughtUp l.feed (into_iter_items l.ready-iterator))
    × ((first : ℕ) → AreReceiptsOn first l.s l.fn.self l.fn.receipts.items → AreReceiptsOn first l.s l.self l.receipts.items)
    × ((outline : Outlined) → IsSomeAnd (slice_get l.fn.self.board l.s) (IsAhead outline l.fn.readies.items) → IsSomeAnd (slice_get l.self.board l.s) (IsAhead outline (into_iter_items l.ready-iterator)))
    × (length l.receipts.items + length (into_iter_items l.ready-iterator) ≡ length l.fn.receipts.items + length l.fn.readies.items)
    × (vec_len l.receipts + length (into_iter_items l.ready-iterator) ≤ vec_capacity l.receipts) × (vec_len l.freed + length (into_iter_items l.ready-iterator) ≤ vec_capacity l.freed)
