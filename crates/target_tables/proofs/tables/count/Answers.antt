use Rattle.std.proofs.Common.{◌≡◌, ℕ, ◌+◌, ◌*◌, ◌^◌, ◌<◌, ◌≤◌, List, [], length, ap, ◌∙◌, take, arith}
use Rattle.std.proofs.lemmas.List.{get_or_default}
use Rattle.target_tables.specs.Pages.{entries_of, page_at, flat}
use Rattle.target_tables.proofs.Paging.{up_to}
use Rattle.target_tables.proofs.Rooms.{length_most}
use Rattle.target_tables.proofs.tables.count.Goals as goal

pub overflow_add-count : goal.overflow_add-count
overflow_add-count g c =
    let pages : (List (List (g.row.K.Denot × (ℕ × g.row.R.Denot)))) = c.args.pages.now in
    let i : ℕ = c.loop-page.page-index in
    let all : length (entries_of pages) ≤ 128 * length pages = length_most pages c.requires.full in
    let few : length pages ≤ 2 ^ 56 = c.requires.few in
    let inside : i < length pages = omega arith in
    let there : c.page-item.result ≡ page_at pages i = c.page-item.is ∙ get_or_default pages i _ [] inside in
    let len : c.len-count.result ≡ length (page_at pages i) = c.len-count.ensures ∙ ap length there in
    let seen : c.loop-page.count ≡ length (entries_of (take i pages)) = c.loop-page.invariant in
    let most : flat pages i (length (page_at pages i)) ≤ length (entries_of pages) = up_to pages i inside (length (page_at pages i)) (omega arith) in
    let sum : c.loop-page.count + c.len-count.result < 2 ^ 64 = omega arith in
    omega arith
