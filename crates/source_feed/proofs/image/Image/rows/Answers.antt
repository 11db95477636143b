use Rattle.std.proofs.Common.{◌∙◌, ap}
use Rattle.std.proofs.lemmas.Iterator.Consumers.{YieldsList-from_first, YieldsList-end}
use Rattle.target_tables.specs.Contents.{entry}
use Rattle.source_feed.specs.Private.ImageEntries.{rows_of}
use Rattle.source_feed.proofs.image.Image.rows.Goals as goal

pub returns : goal.returns
returns c =
    c.loop-key.invariant
    ∙ ap rows_of (YieldsList-end (YieldsList-from_first entry (λ s. s) c.self.inside.rows.entries (c.into_iter-key-iterator.ensures.into_iter_gives ∙ c.iter-key-items.ensures.entries)) c.loop-key.yielded _ c.loop-key.yielded_by _ _ c.in-None.is c.next.ensures.steps).0
    ∙ c.self.view_is
