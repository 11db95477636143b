use Rattle.std.proofs.Common.{◌≡◌, map, take}
use Rattle.vrepl_main.specs.Given.{given_value}
use Rattle.vrepl_check.specs.Checking.{bytes_or_none}
use Rattle.vrepl_check.proofs.checking.bytes_given.Given as goal

-- the bytes so far are those of the first feeds
abbrev pub invariant-loop-feed : goal.invariant-loop-feed
invariant-loop-feed l = map (λ one. one.now) l.bytes.items ≡ map bytes_or_none (map given_value (take l.feed-index l.given))
