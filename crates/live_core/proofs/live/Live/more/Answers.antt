use Rattle.live_core.proofs.LiveLaws.{kept-further}
use Rattle.live_core.proofs.live.Live.more.Goals as goal

pub invariant_of-self : goal.invariant_of-self
invariant_of-self g c =
    let r = c.run_round-answers in
    kept-further c.streams_go_on.ensures.moved c.streams_go_on.ensures.again c.self.inside.fed.feeds r.new.fed.feeds c.self.inside.fed.board r.new.fed.board c.self.inside.sources.items c.self.inside.told r.ensures.feeds c.is_fed.ensures.lawful
    r.ensures.moved c.self.invariant

-- all tables are copied
pub returns-clause-ended : goal.returns-clause-ended
returns-clause-ended g c = c.run_round-answers.ensures.ended c.self.invariant.running
