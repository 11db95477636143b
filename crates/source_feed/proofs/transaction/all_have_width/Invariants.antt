use Rattle.std.proofs.Common.{◌≡◌, ℕ}
use Rattle.std.specs.List.{list_all}
use Rattle.vevent.specs.Columns.{have_columns}
use Rattle.source_feed.specs.Private.FeedTables.{counted}
use Rattle.source_feed.proofs.transaction.all_have_width.Given as goal

-- all rows fit if those still to come do
abbrev pub invariant-loop-change : goal.invariant-loop-change
invariant-loop-change l = (columns : ℕ) → l.width ≡ counted columns → list_all (have_columns columns) l.change-iterator ≡ list_all (have_columns columns) l.fn.rows
