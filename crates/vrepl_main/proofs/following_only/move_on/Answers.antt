use Rattle.std.proofs.Common.{List, subst}
use Rattle.source_feed.specs.Planned.{FeedValue}
use Rattle.vrepl_main.specs.OnlyFollowed.{IsMovedOn}
use Rattle.vrepl_main.proofs.following_only.move_on.Goals as goal

pub returns-in-Ok-clause-moved : goal.returns-in-Ok-clause-moved
returns-in-Ok-clause-moved g c =
    subst (λ (fs : List FeedValue). IsMovedOn fs c.args.only.now c.args.fed.board c.run_named.new.fed.board) c.run_named.ensures.feeds
    (record { fed = c.is_fed.ensures; ended = c.in-Ok.ensures.ended; others = c.in-Ok.ensures.others; sources = c.run_named.ensures.shows })
