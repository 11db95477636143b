use Rattle.std.proofs.Common.{◌≡◌, ◌+◌, ℕ, List, ◌++◌, length, take, sym, ap, subst, ◌∙◌}
use Rattle.source_feed.specs.declared.feed_end.FeedEnd.{FeedEnd}
use Rattle.apply_core.specs.Growing.{GrowsAt}
use Rattle.live_core.specs.declared.source.Source.{Source}
use Rattle.live_core.specs.Private.Grown.{SourceTakes}
use Rattle.live_core.specs.Source.{bytes_of}
use Rattle.live_core.proofs.GrowingLaws.{put-behind, source-takes}
use Rattle.live_core.proofs.growing.grow_one.Goals as goal

pub returns-clause-grown : goal.returns-clause-grown
returns-clause-grown c =
    let old : Source = c.args.source.now in
    let new : Source = c.put.new.self in
    let n : ℕ = c.in_ok-taken.taken in
    let piece : List ℕ = c.args.piece.now in
    let front : c.front-bytes.result.now ≡ take n piece = c.front-bytes.ensures in
    let bytes : bytes_of new ≡ bytes_of old ++ take n piece
    = put-behind old new c.reserve.new.self.items c.front-bytes.result.now piece n c.reserve.ensures.items front c.put.ensures.bytes in
    let taken : new.taken ≡ old.taken + length (take n piece) = c.put.ensures.taken ∙ ap (λ (bs : List ℕ). old.taken + length bs) front in
    let grows : GrowsAt c.args.s piece n c.args.fed.now.feeds c.grow.new.self.feeds old.end new.end
    = subst (λ (e : FeedEnd). GrowsAt c.args.s piece n c.args.fed.now.feeds c.grow.new.self.feeds old.end e) (sym c.put.ensures.end) c.in_ok-taken.ensures.grown in
    subst (λ (bs : List ℕ). SourceTakes c.args.s piece (length bs) c.args.fed.now.feeds c.grow.new.self.feeds old new) (sym front)
    (source-takes c.args.s piece n c.args.fed.now.feeds c.grow.new.self.feeds old new c.requires grows bytes taken)
