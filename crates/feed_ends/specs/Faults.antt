-- Why feeds don't end at positions (this profile).
use Rattle.std.specs.Prelude.{ℕ, Option, Some, None}
use Rattle.gtid_set.specs.declared.fault.GtidFault.{GtidFault}
use Rattle.gtid_set.specs.declared.fault.GtidFault.TheVariants as gtid
use Rattle.feed_ends.specs.declared.fault.EndFault.{EndFault}
use Rattle.feed_ends.specs.declared.fault.EndFault.TheVariants.{NoStream, BadPosition, NotReached, Memory}

-- the number of each
abbrev pub number_of : EndFault → ℕ
number_of NoStream = 115
number_of (BadPosition fault) = 94
number_of (NotReached stream) = 128
number_of Memory = 72

-- a position is given for a stream that isn't there; a text is none of a position; the feed of a stream doesn't reach its
-- position
pub data EndReason : Type 0 where
  no_stream : EndReason
  bad_position : GtidFault → EndReason
  not_reached : ℕ → EndReason

-- what a fault says of the inputs: want of memory says nothing
abbrev pub meant_of : EndFault → Option EndReason
meant_of NoStream = Some no_stream
meant_of (BadPosition fault) = Some (bad_position fault)
meant_of (NotReached stream) = Some (not_reached stream)
meant_of Memory = None

-- what a refused position is
abbrev pub fault_of : GtidFault → EndFault
fault_of gtid.Memory = Memory
fault_of cause = BadPosition cause
