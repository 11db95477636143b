-- What stands before the numbers of an interval of a printed position, and behind the first.
use Rattle.std.specs.Prelude.{ℕ, ◌==◌, List, [], ◌∷◌, Option, Some, None, decimal, if◌then◌else◌}
use Rattle.gtid_set.specs.declared.interval.Interval.{Interval}
use Rattle.gtid_set.specs.Printed.{uuid_text}

-- its uuid, unless the interval before it has the same one; a comma before that, where there is one before it
abbrev pub uuid_behind : Option ℕ → Interval → List ℕ
uuid_behind None i = uuid_text i.uuid
uuid_behind (Some before) i = if before == i.uuid then [] else 44 ∷ uuid_text i.uuid

-- the last number, where there is more than one
abbrev pub last_behind : ℕ → ℕ → List ℕ
last_behind first last = if first == last then [] else 45 ∷ decimal last
