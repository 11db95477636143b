use Rattle.std.proofs.Common.{◌≡◌, length, take}
use Rattle.target_tables.specs.Pages.{entries_of}
use Rattle.target_tables.proofs.tables.count.Given as goal

abbrev pub invariant-loop-page : goal.invariant-loop-page
invariant-loop-page g l = l.count ≡ length (entries_of (take l.page-index l.pages))
