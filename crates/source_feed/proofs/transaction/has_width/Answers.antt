use Rattle.std.proofs.Common.{◌≡◌, ◌≤◌, ◌==◌, ℕ, length, nat_eq, sym, ◌∙◌, ap, arith}
use Rattle.std.proofs.lemmas.Bool.Decides.{nat_tests}
use Rattle.source_feed.specs.Private.FeedTables.{counted}
use Rattle.vevent.specs.Columns.{has_columns}
use Rattle.source_feed.proofs.transaction.has_width.Goals as goal

-- a row's number of columns is far below where the count stops
width_test : (n columns width : ℕ) → n ≤ 256 → width ≡ counted columns → nat_eq n width ≡ (n == columns)
width_test n columns width few e = grind (arith, nat_tests)

pub returns-in-Some : goal.returns-in-Some
returns-in-Some c = λ columns e.
    ap (λ n. nat_eq n c.from.result) c.len.ensures.count
    ∙ width_test (length c.in-Some.row) columns c.from.result c.len.ensures.few (c.from.ensures ∙ e)
    ∙ sym (ap (has_columns columns) c.in-Some.is)
