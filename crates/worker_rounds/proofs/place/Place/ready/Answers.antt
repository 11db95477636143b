use Rattle.std.proofs.Common.{◌≡◌, Ok, sym, ap, subst, ◌∙◌}
use Rattle.std.specs.Arc.{arc_value}
use Rattle.source_feed.specs.Planned.{FeedValue}
use Rattle.source_feed.specs.Touches.{PreparedValue, prepared_at}
use Rattle.board_laws.specs.Touching.{left_by}
use Rattle.worker_rounds.proofs.GroupsTakenIn.{stands-ready}
use Rattle.worker_rounds.proofs.place.Place.ready.Goals as goal

pub returns : goal.returns
returns g c =
    stands-ready g.J.Began.fed c.args.self.now.stream c.args.number c.args.self.now.feeds.now c.index-self-self.result c.args.self.now.marks (record { group = c.in-Ok.group; puts = c.in-Ok-of_group.puts }) c.args.self.now.of_feeds c.args.self.now.there c.index-self-self.is (subst (λ (f : FeedValue). prepared_at f c.args.number ≡ Ok (arc_value c.in-Ok.group)) (sym c.index-self-self.is) c.in-Ok.ensures.exact) c.in-Ok.ensures.number c.args.self.now.of_marks (λ key. c.in-Ok-of_group.ensures key ∙ ap (λ (p : PreparedValue). left_by c.args.self.now.marks p key) c.deref.ensures)
