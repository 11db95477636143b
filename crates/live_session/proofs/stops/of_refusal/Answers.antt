use Rattle.std.proofs.Common.{ap, sym, ◌∙◌}
use Rattle.live_session.specs.Stops.{known_refusal}
use Rattle.live_session.proofs.StopLaws.{not-owned}
use Rattle.live_session.proofs.stops.of_refusal.Goals as goal

pub returns-in_default : goal.returns-in_default
returns-in_default c = c.plain.ensures ∙ ap known_refusal c.number.ensures ∙ sym (not-owned c.args.tables.now c.args.refusal.now c.in_default.not-OwnedByOther)
