use Rattle.std.proofs.Common.{◌≡◌, Option, Some, sym, ap, subst, ◌∙◌}
use Rattle.board_laws.specs.Meaning.{Meaning}
use Rattle.live_core.specs.Private.Kept.{IsKept}
use Rattle.live_core.proofs.LiveLaws.{kept-told}
use Rattle.live_core.proofs.live.Live.tell_as.Goals as goal

pub invariant_of-self : goal.invariant_of-self
invariant_of-self c =
    let same : c.of-told.result ≡ c.self.inside.fed.board = c.of-told.ensures ∙ c.board.ensures.board in
    subst (λ (told : Option Meaning). IsKept c.self.inside.fed.feeds c.self.inside.fed.board c.self.inside.sources.items told) (sym (c.replace.ensures.after ∙ ap Some same))
    (kept-told c.streams_go_on.ensures.still c.self.inside.fed.feeds c.self.inside.fed.board c.self.inside.sources.items c.self.inside.told c.is_fed.ensures.lawful c.self.invariant)
