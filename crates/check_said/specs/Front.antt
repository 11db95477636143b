-- How many whole groups some bytes of a feed begin with (this profile).
use Rattle.std.specs.Prelude.{ℕ, List, [], ◌∷◌, ◌++◌, length, Result, Ok}
use Rattle.list_laws.specs.Outcome.{◌>>=◌}
use Rattle.source_feed.specs.declared.fault.FeedFault.{FeedFault}
use Rattle.source_feed.specs.Groups.{groups}
use Rattle.source_feed.specs.SourceValue.{SourceValue}

-- a message of one event, a ROLLBACK: it drops the transaction that is open, if one is
abbrev pub rollback : List ℕ
rollback = 4 ∷ 10 ∷ 2 ∷ 8 ∷ 4 ∷ []

-- the groups of some messages, of which the last transaction may be open
abbrev pub whole_groups : List ℕ → SourceValue → Result ℕ FeedFault
whole_groups front source = groups (front ++ rollback) source >>= λ all. Ok (length all)
