use Rattle.std.proofs.Common.{◌≡◌, ◌+◌, ℕ, List, ◌++◌, length, take, drop, sym, ap, subst, ◌∙◌}
use Rattle.source_feed.specs.declared.feed_end.FeedEnd.{FeedEnd}
use Rattle.source_feed.specs.Growing.{IsEndOf, IsSettledFront}
use Rattle.live_core.specs.declared.source.Source.{Source}
use Rattle.live_core.specs.Source.{bytes_of}
use Rattle.live_core.proofs.GrowingLaws.{put-behind, source-of_end}
use Rattle.live_core.proofs.source.Source.grow.Goals as goal

pub returns-clause-feed : goal.returns-clause-feed
returns-clause-feed c =
    let old : Source = c.args.self.now in
    let new : Source = c.put.new.self in
    let n : ℕ = c.in_ok-taken.taken in
    let piece : List ℕ = c.args.piece.now in
    let bytes : bytes_of new ≡ bytes_of old ++ take n piece
    = put-behind old c.put.new.self c.reserve.new.self.items c.front-bytes.result.now piece n c.reserve.ensures.items c.front-bytes.ensures c.put.ensures.bytes in
    let taken : new.taken ≡ old.taken + length (take n piece) = c.put.ensures.taken ∙ ap (λ (bs : List ℕ). old.taken + length bs) c.front-bytes.ensures in
    source-of_end c.grow.new.feed old new piece n c.requires.many bytes taken
    (subst (λ (e : FeedEnd). IsEndOf (bytes_of old ++ take n piece) c.grow.new.feed e) (sym c.put.ensures.end) (c.in_ok-taken.ensures.groups (bytes_of old) c.requires.end))

pub returns-clause-taken : goal.returns-clause-taken
returns-clause-taken c =
    let old : Source = c.args.self.now in
    let n : ℕ = c.in_ok-taken.taken in
    let piece : List ℕ = c.args.piece.now in
    let bytes : bytes_of c.put.new.self ≡ bytes_of old ++ take n piece
    = put-behind old c.put.new.self c.reserve.new.self.items c.front-bytes.result.now piece n c.reserve.ensures.items c.front-bytes.ensures c.put.ensures.bytes in
    subst (λ (bs : List ℕ). IsSettledFront (bytes_of old ++ piece) bs (drop n piece)) (sym bytes) (c.in_ok-taken.ensures.taken (bytes_of old) c.requires.end)
