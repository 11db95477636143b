use Rattle.std.proofs.Common.{subst}
use Rattle.board_laws.specs.Meaning.{Meaning}
use Rattle.change_laws.specs.Changes.{LeadOn, changes_at}
use Rattle.live_core.specs.Live.{LiveValue, HasGoneOnFrom, told_rows}
use Rattle.live_core.proofs.ToldLaws.{AreTouched, gone-on, lead-touched}
use Rattle.live_core.proofs.live.Live.changed.Goals as goal

pub returns-in_ok-keys-in-Some-clause-lead : goal.returns-in_ok-keys-in-Some-clause-lead
returns-in_ok-keys-in-Some-clause-lead c =
    let told = c.in-Some.told in
    let board = c.self.inside.fed.board in
    let keys = c.in_ok-keys-in-Some.keys.keys in
    let gone : HasGoneOnFrom board told = gone-on c.self.inside.told told board c.in-Some.is c.self.invariant.since in
    let touched : AreTouched told board keys = subst (λ (b : Meaning). AreTouched told b keys) c.board.ensures.board c.in_ok-keys-in-Some.ensures in
    subst (λ (live : LiveValue). LeadOn (told_rows live.told) (changes_at live.fed.board.rows keys) live.fed.board.rows) c.self.view_is
    (lead-touched c.changes_lead_on.ensures.touched c.self.inside.told told board keys c.in-Some.is gone c.is_fed.ensures.lawful c.len.ensures.ordered touched)
