use Rattle.std.proofs.Common.{◌≡◌, ℕ, ◌+◌, ◌-◌, ◌<◌, ◌≤◌, List, length, set, refl, sym, ap, subst, ◌∙◌, arith}
use Rattle.std.specs.List.{insert}
use Rattle.target_tables.specs.Pages.{entries_of, page_at, room_of}
use Rattle.target_tables.proofs.Paging.{inserted}
use Rattle.target_tables.proofs.Falling.{size_at}
use Rattle.target_tables.proofs.Splitting.{page_inside, page_read, room_as, room_put, spare_for}
use Rattle.target_tables.proofs.changes.put_new.Goals as goal

pub returns-then-len-lt-FULL-clause-entries : goal.returns-then-len-lt-FULL-clause-entries
returns-then-len-lt-FULL-clause-entries g c =
    let inside : c.args.spot.page < length c.args.pages.now.pages = page_inside c.args.pages.now.pages c.as_slice.result.now c.args.spot.page c.as_slice.ensures.pages c.if-is_empty.ensures c.requires.inside in
    ap (λ (l : (List (List (g.row.K.Denot × (ℕ × g.row.R.Denot))))). entries_of l) c.put_in.ensures.pages ∙ inserted c.args.pages.now.pages c.args.spot.page inside c.args.spot.place c.requires.within c.args.entry

pub returns-then-len-lt-FULL-clause-room : goal.returns-then-len-lt-FULL-clause-room
returns-then-len-lt-FULL-clause-room g c = λ m few h.
    let inside : c.args.spot.page < length c.args.pages.now.pages = page_inside c.args.pages.now.pages c.as_slice.result.now c.args.spot.page c.as_slice.ensures.pages c.if-is_empty.ensures c.requires.inside in
    room_as c.put_in.new.self.pages (set c.args.pages.now.pages c.args.spot.page (insert (page_at c.args.pages.now.pages c.args.spot.page) c.args.spot.place c.args.entry)) c.put_in.new.self.spares c.args.pages.now.spares m c.put_in.ensures.pages c.put_in.ensures.spares
    (room_put c.args.pages.now.pages c.args.spot.page inside c.args.spot.place c.args.entry c.requires.within c.args.pages.now.spares m h)

pub put_on-requires-clause-full : goal.put_on-requires-clause-full
put_on-requires-clause-full g c =
    let inside : c.args.spot.page < length c.args.pages.now.pages = page_inside c.args.pages.now.pages c.as_slice.result.now c.args.spot.page c.as_slice.ensures.pages c.if-is_empty.ensures c.requires.inside in
    let there : c.index-as_slice-page.result ≡ page_at c.args.pages.now.pages c.args.spot.page = page_read c.args.pages.now.pages c.as_slice-2.result.now c.args.spot.page _ c.as_slice-2.ensures.pages inside c.index-as_slice-page.is in
    let n : c.len.result ≡ length (page_at c.args.pages.now.pages c.args.spot.page) = c.len.ensures ∙ ap length there in
    let most : length (page_at c.args.pages.now.pages c.args.spot.page) ≤ 128 = (size_at c.args.pages.now.pages c.args.spot.page inside c.as_slice-2.ensures.full).most in
    omega arith

pub put_on-requires-clause-within : goal.put_on-requires-clause-within
put_on-requires-clause-within g c =
    let inside : c.args.spot.page < length c.args.pages.now.pages = page_inside c.args.pages.now.pages c.as_slice.result.now c.args.spot.page c.as_slice.ensures.pages c.if-is_empty.ensures c.requires.inside in
    let there : c.index-as_slice-page.result ≡ page_at c.args.pages.now.pages c.args.spot.page = page_read c.args.pages.now.pages c.as_slice-2.result.now c.args.spot.page _ c.as_slice-2.ensures.pages inside c.index-as_slice-page.is in
    let n : c.len.result ≡ length (page_at c.args.pages.now.pages c.args.spot.page) = c.len.ensures ∙ ap length there in
    let most : length (page_at c.args.pages.now.pages c.args.spot.page) ≤ 128 = (size_at c.args.pages.now.pages c.args.spot.page inside c.as_slice-2.ensures.full).most in
    let within : c.args.spot.place ≤ length (page_at c.args.pages.now.pages c.args.spot.page) = c.requires.within in
    omega arith

pub put_in_half-requires-clause-full : goal.put_in_half-requires-clause-full
put_in_half-requires-clause-full g c =
    let inside : c.args.spot.page < length c.args.pages.now.pages = page_inside c.args.pages.now.pages c.as_slice.result.now c.args.spot.page c.as_slice.ensures.pages c.if-is_empty.ensures c.requires.inside in
    let there : c.index-as_slice-page.result ≡ page_at c.args.pages.now.pages c.args.spot.page = page_read c.args.pages.now.pages c.as_slice-2.result.now c.args.spot.page _ c.as_slice-2.ensures.pages inside c.index-as_slice-page.is in
    let n : c.len.result ≡ length (page_at c.args.pages.now.pages c.args.spot.page) = c.len.ensures ∙ ap length there in
    let most : length (page_at c.args.pages.now.pages c.args.spot.page) ≤ 128 = (size_at c.args.pages.now.pages c.args.spot.page inside c.as_slice-2.ensures.full).most in
    omega arith

pub put_in_half-requires-clause-within : goal.put_in_half-requires-clause-within
put_in_half-requires-clause-within g c =
    let inside : c.args.spot.page < length c.args.pages.now.pages = page_inside c.args.pages.now.pages c.as_slice.result.now c.args.spot.page c.as_slice.ensures.pages c.if-is_empty.ensures c.requires.inside in
    let there : c.index-as_slice-page.result ≡ page_at c.args.pages.now.pages c.args.spot.page = page_read c.args.pages.now.pages c.as_slice-2.result.now c.args.spot.page _ c.as_slice-2.ensures.pages inside c.index-as_slice-page.is in
    let n : c.len.result ≡ length (page_at c.args.pages.now.pages c.args.spot.page) = c.len.ensures ∙ ap length there in
    let most : length (page_at c.args.pages.now.pages c.args.spot.page) ≤ 128 = (size_at c.args.pages.now.pages c.args.spot.page inside c.as_slice-2.ensures.full).most in
    let within : c.args.spot.place ≤ length (page_at c.args.pages.now.pages c.args.spot.page) = c.requires.within in
    omega arith

pub put_in_half-requires-clause-spare : goal.put_in_half-requires-clause-spare
put_in_half-requires-clause-spare g c =
    let inside : c.args.spot.page < length c.args.pages.now.pages = page_inside c.args.pages.now.pages c.as_slice.result.now c.args.spot.page c.as_slice.ensures.pages c.if-is_empty.ensures c.requires.inside in
    let there : c.index-as_slice-page.result ≡ page_at c.args.pages.now.pages c.args.spot.page = page_read c.args.pages.now.pages c.as_slice-2.result.now c.args.spot.page _ c.as_slice-2.ensures.pages inside c.index-as_slice-page.is in
    let n : c.len.result ≡ length (page_at c.args.pages.now.pages c.args.spot.page) = c.len.ensures ∙ ap length there in
    let most : length (page_at c.args.pages.now.pages c.args.spot.page) ≤ 128 = (size_at c.args.pages.now.pages c.args.spot.page inside c.as_slice-2.ensures.full).most in
    let size : length (page_at c.args.pages.now.pages c.args.spot.page) ≡ 128 = omega arith in
    spare_for c.args.pages.now.pages c.args.spot.page inside size c.args.pages.now.spares c.requires.room

pub returns-then-can_go_on-clause-room : goal.returns-then-can_go_on-clause-room
returns-then-can_go_on-clause-room g c = λ m few h.
    let after : List (List (g.row.K.Denot × (ℕ × g.row.R.Denot))) = c.put_on.new.pages.pages in
    let some : c.args.left ≤ room_of after (c.args.pages.now.spares - 1) = c.if-can_go_on.ensures.room refl after c.put_on.ensures.full c.put_on.ensures.count in
    let spares : c.put_on.new.pages.spares ≡ c.args.pages.now.spares - 1 = (let one : c.put_on.new.pages.spares + 1 ≡ c.args.pages.now.spares = c.put_on.ensures.spares in omega arith) in
    subst (λ s. m ≤ room_of after s) (sym spares) (omega (arith, some, few))
