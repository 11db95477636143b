-- The numbers by which touches are refused (this profile).
use Rattle.std.specs.Prelude.{ℕ}
use Rattle.target_tables.specs.declared.fault.TableFault.{TableFault}
use Rattle.target_tables.specs.declared.fault.TableFault.TheVariants.{OwnedByOther, Memory}

abbrev pub number_of : {K : Type 0} → TableFault K → ℕ
number_of (OwnedByOther key owner) = 71
number_of Memory = 72
