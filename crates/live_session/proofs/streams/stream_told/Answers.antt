use Rattle.std.proofs.Common.{refl, ◌∙◌}
use Rattle.live_session.proofs.StreamLaws.{told-by}
use Rattle.live_session.proofs.streams.stream_told.Goals as goal

pub returns : goal.returns
returns c =
    told-by c.args.live.now c.fed-fed.result.now c.args.s c.args.seat.now _ c.feeds.result.now c.index-feeds-s.result c.deref.result.now c.tables-tables.result.now c.board.result.now c.in-Ok.at c.in-Ok-position.position c.fed-fed.ensures.live c.fed-fed.ensures.fed c.feeds.ensures c.requires
    c.index-feeds-s.is (c.deref.ensures ∙ c.plan.ensures.value) c.tables-tables.ensures.tables c.board.ensures.board c.in-Ok.ensures.state c.in-Ok-position.ensures.position refl c.phase.ensures c.read.ensures c.applied.ensures c.len.ensures c.taken.ensures.taken refl
    c.in_ok-position.ensures c.in_ok-copied.ensures c.refusal_of.ensures
