use Rattle.std.proofs.Common.{◌≡◌, ℕ, List, Ok, sym, subst}
use Rattle.source_feed.specs.Pieces.{IsWholeFront, messages_in}
use Rattle.source_feed.proofs.PiecesLaws.{empty_front, empty_messages}
use Rattle.source_feed.proofs.pieces.FeedBuilder.new.Goals as goal

pub invariant_of-result : goal.invariant_of-result
invariant_of-result c = subst (λ (bytes : List ℕ). IsWholeFront bytes 0 × (messages_in bytes ≡ Ok 0)) (sym c.new.ensures.items) (empty_front, empty_messages)
