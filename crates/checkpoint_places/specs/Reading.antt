-- What a call that reads answers.
use Rattle.std.specs.Prelude.{◌≡◌, Option, None, Some, Result, Ok, Err}
use Rattle.checkpoint_places.specs.declared.fault.StandFault.{StandFault}
use Rattle.checkpoint_places.specs.declared.fault.StandFault.TheVariants.{Broken, Memory}

-- What a call returned, seen by `view`, is what the definition reads; it is broken just where it reads nothing, unless memory
-- ran out.
abbrev pub Gives : {X Y : Type 0} → (X → Y) → Result X StandFault → Option Y → Type 0
Gives view (Ok x) read = read ≡ Some (view x)
Gives view (Err Broken) read = read ≡ None
Gives view (Err Memory) read = Unit {0}
