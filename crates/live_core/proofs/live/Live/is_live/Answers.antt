use Rattle.std.proofs.Common.{refl, subst}
use Rattle.live_core.specs.Live.{LiveValue, IsLive}
use Rattle.live_core.proofs.LiveLaws.{kept-live}
use Rattle.live_core.proofs.live.Live.is_live.Goals as goal

pub returns : goal.returns
returns c = subst (λ (live : LiveValue). IsLive live) c.self.view_is (kept-live _ c.self.inside.sources.items refl c.shows.ensures c.self.invariant)
