-- The numbers by which a key is refused (this profile).
use Rattle.std.specs.Prelude.{ℕ}
use Rattle.pk_copy.specs.declared.fault.KeyFault.{KeyFault}
use Rattle.pk_copy.specs.declared.fault.KeyFault.TheVariants.{NullKey, BadKey}

-- the number of each fault
abbrev pub number_of : KeyFault → ℕ
number_of NullKey = 61
number_of BadKey = 62
