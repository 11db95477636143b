-- Touches that are put behind earlier ones.
use Rattle.std.specs.Prelude.{List, ◌++◌, Result, Ok}
use Rattle.list_laws.specs.Outcome.{◌>>=◌}
use Rattle.source_feed.specs.declared.fault.FeedFault.{FeedFault}
use Rattle.source_feed.specs.Touches.{TouchValue}

-- the earlier touches and these, unless these are refused
abbrev pub behind : List TouchValue → Result (List TouchValue) FeedFault → Result (List TouchValue) FeedFault
behind earlier r = r >>= λ touches. Ok (earlier ++ touches)
