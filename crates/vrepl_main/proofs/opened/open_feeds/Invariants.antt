use Rattle.std.proofs.Common.{◌≡◌, drop, map}
use Rattle.std.specs.Arc.{arc_value}
use Rattle.vrepl_main.specs.Given.{given_value}
use Rattle.vrepl_main.specs.Opening.{opened_feeds}
use Rattle.vrepl_main.proofs.OpenLaws.{in_front}
use Rattle.vrepl_main.proofs.opened.open_feeds.Given as goal

-- the feeds so far stand in front of those still to come
abbrev pub invariant-loop-i : goal.invariant-loop-i
invariant-loop-i l = opened_feeds (map arc_value l.plans) (map given_value l.given) ≡ in_front l.feeds.items (opened_feeds (map arc_value (drop l.i l.plans)) (map given_value (drop l.i l.given)))
