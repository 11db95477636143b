-- An embedded message that stands alone, by what was met of it and what is still to come under its
-- number.
use Rattle.std.specs.Prelude.{ℕ, suc, nat_lt, Bool, true, List, length, Option, Some}
use Rattle.vevent.specs.declared.singular.Singular.{Singular}
use Rattle.vevent.specs.declared.singular.Singular.TheVariants.{Absent, Once, Repeated}
use Rattle.proto_wire.specs.Parts.{first_of}

-- the message itself, the first of all
abbrev pub message_behind : Singular → List (List ℕ) → Option (List ℕ)
message_behind Absent more = first_of more
message_behind (Once first) more = Some first.now
message_behind (Repeated first) more = Some first.now

-- more than one
abbrev pub repeats_behind : Singular → List (List ℕ) → Bool
repeats_behind Absent more = nat_lt 1 (length more)
repeats_behind (Once first) more = nat_lt 1 (suc (length more))
repeats_behind (Repeated first) more = true
