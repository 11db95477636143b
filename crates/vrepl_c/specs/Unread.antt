-- Why a step of the code reads no dump.
use Rattle.std.specs.Prelude.{ℕ, List}
use Rattle.filter_rule.specs.PlanValue.{PlanValue}
use Rattle.dump.specs.DumpReading.{IsFirstBad}
use Rattle.dump.specs.declared.reading.DumpFault.{DumpFault}
use Rattle.dump.specs.declared.reading.DumpFault.TheVariants.{BadDump, Memory}

-- the line is the first that can't stand, unless memory ran out
abbrev pub IsUnread : PlanValue → List ℕ → DumpFault → Type 0
IsUnread plan text (BadDump line) = IsFirstBad plan text line
IsUnread plan text Memory = Unit {0}
