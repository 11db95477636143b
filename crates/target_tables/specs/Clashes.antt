-- Why a stream's touches are refused, by the map that they meet.
use Rattle.std.specs.Prelude.{ℕ, List, Option}
use Rattle.std.specs.declared.cmp.Ordering.{Ordering}
use Rattle.target_tables.specs.declared.fault.TableFault.{TableFault}
use Rattle.target_tables.specs.declared.fault.TableFault.TheVariants.{OwnedByOther, Memory}
use Rattle.target_tables.specs.Touches.{IsLeastClash}

-- 71 for the least key at which a row of another stream is in the way, and that stream; 72 says nothing of the map
abbrev pub IsRefusal : {K R : Type 0} → (K → K → Ordering) → List (K × (ℕ × R)) → ℕ → (K → Option (Option R)) → TableFault K → Type 0
IsRefusal cmp entries stream touch (OwnedByOther key owner) = IsLeastClash cmp entries stream touch key owner
IsRefusal cmp entries stream touch Memory = Unit {0}
