use Rattle.std.proofs.Common.{◌≡◌, ℕ, ◌<◌, List, [], length, refl, sym, ap, ◌∙◌, arith}
use Rattle.std.proofs.lemmas.List.{get_or_default}
use Rattle.target_tables.specs.Pages.{page_at}
use Rattle.target_tables.proofs.Hinting.{stands_there, would_stand_there, would_stand_last}
use Rattle.target_tables.proofs.hints.found_at.Goals as goal

pub returns-in-Equal : goal.returns-in-Equal
returns-in-Equal g c =
    let pages : List (List (g.row.K.Denot × (ℕ × g.row.R.Denot))) = c.args.pages.now in
    let inside : c.args.hint.page < length pages = omega arith in
    let there : c.index-pages-hint.result ≡ page_at pages c.args.hint.page = c.index-pages-hint.is ∙ get_or_default pages c.args.hint.page _ [] inside in
    let n : c.len-all.result ≡ length (page_at pages c.args.hint.page) = c.len-all.ensures ∙ ap length there in
    let within : c.args.hint.place < length (page_at pages c.args.hint.page) = omega arith in
    stands_there g.met.K.Ord.total c.args.key.now pages c.requires.rising c.args.hint.page c.args.hint.place inside c.entry_at.result.now within c.entry_at.ensures
    (sym c.order.ensures ∙ c.in-Equal.is)

pub returns-then-begins_behind : goal.returns-then-begins_behind
returns-then-begins_behind g c =
    let pages : List (List (g.row.K.Denot × (ℕ × g.row.R.Denot))) = c.args.pages.now in
    let inside : c.args.hint.page < length pages = omega arith in
    let there : c.index-pages-hint.result ≡ page_at pages c.args.hint.page = c.index-pages-hint.is ∙ get_or_default pages c.args.hint.page _ [] inside in
    let n : c.len-all.result ≡ length (page_at pages c.args.hint.page) = c.len-all.ensures ∙ ap length there in
    let within : c.args.hint.place < length (page_at pages c.args.hint.page) = omega arith in
    would_stand_there g.met.K.Ord.total c.args.key.now pages c.requires.rising c.args.hint.page c.args.hint.place inside c.entry_at.result.now within c.entry_at.ensures
    (sym c.order.ensures ∙ c.in-Greater.is) (c.if-begins_behind.ensures.below refl) (c.if-begins_behind.ensures.first refl)

pub returns-then-begins_behind-2 : goal.returns-then-begins_behind-2
returns-then-begins_behind-2 g c =
    let pages : List (List (g.row.K.Denot × (ℕ × g.row.R.Denot))) = c.args.pages.now in
    let inside : c.args.hint.page < length pages = omega arith in
    let there : c.index-pages-hint.result ≡ page_at pages c.args.hint.page = c.index-pages-hint.is ∙ get_or_default pages c.args.hint.page _ [] inside in
    let n : c.len-all.result ≡ length (page_at pages c.args.hint.page) = c.len-all.ensures ∙ ap length there in
    let end : c.args.hint.place ≡ length (page_at pages c.args.hint.page) = c.if-hint-all-2.true ∙ n in
    would_stand_last g.met.K.Ord.total c.args.key.now pages c.requires.rising c.args.hint.page c.args.hint.place inside end
    (c.if-ends_before.ensures refl) (c.if-begins_behind-2.ensures.below refl) (c.if-begins_behind-2.ensures.first refl)
