use Rattle.std.proofs.Common.{◌≡◌, ℕ, ◌*◌, ◌^◌, ◌≤◌, List, length, ap, ◌∙◌, arith}
use Rattle.target_tables.specs.Pages.{entries_of}
use Rattle.target_tables.proofs.Rooms.{length_most}
use Rattle.target_tables.proofs.tables.Tables.count.Goals as goal

pub count_from-requires : goal.count_from-requires
count_from-requires g c =
    let pages : List (List (g.row.K.Denot × (ℕ × g.row.R.Denot))) = c.self.inside.pages.pages in
    let same : length c.scan_from.result ≡ length (entries_of pages) = ap length c.scan_from.ensures ∙ ap (λ (l : List (List (g.row.K.Denot × (ℕ × g.row.R.Denot)))). length (entries_of l)) c.as_slice-pages.ensures.pages in
    let most : length (entries_of pages) ≤ 128 * length pages = length_most pages c.as_slice-pages.ensures.full in
    let few : length pages ≤ 2 ^ 56 = c.as_slice-pages.ensures.few in
    omega (arith, same, most, few)
