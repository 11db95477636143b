use Rattle.std.proofs.Common.{◌∙◌, sym, ap}
use Rattle.std.proofs.lemmas.Bool.{false≢true}
use Rattle.std.specs.Option.{option_copied}
use Rattle.source_feed.proofs.PositionLaws.{no_group}
use Rattle.source_feed.proofs.up_to_position.is_at.Goals as goal

pub returns-in-None : goal.returns-in-None
returns-in-None c = (
  λ yes. absurd (false≢true yes),
  λ has. absurd (no_group c.args.feed.now c.args.position.now c.args.number (sym (ap option_copied c.in-None.is) ∙ c.position.ensures) has),
)
