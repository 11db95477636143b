use Rattle.std.proofs.Common.{◌≡◌, take}
use Rattle.target_tables.proofs.pages.copy_all.Given as goal

abbrev pub invariant-loop-page : goal.invariant-loop-page
invariant-loop-page g l = l.copies.items ≡ take l.page-index l.pages
