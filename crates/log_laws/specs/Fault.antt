-- The numbers by which a transaction is refused that a feed can't have (this profile).
use Rattle.std.specs.Prelude.{ℕ, Option, None, Some, Result, Ok, Err}
use Rattle.log_feed.specs.declared.fault.ChangeFault.{ChangeFault}
use Rattle.log_feed.specs.Fault as changes
use Rattle.log_laws.specs.declared.fault.TellFault.{TellFault}
use Rattle.log_laws.specs.declared.fault.TellFault.TheVariants.{Change, Position}

-- the number of each
abbrev pub number_of : TellFault → ℕ
number_of (Change fault) = changes.number_of fault.trouble
number_of Position = 94
