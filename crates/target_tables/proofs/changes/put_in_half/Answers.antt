use Rattle.std.proofs.Common.{◌≡◌, ℕ, ◌+◌, ◌-◌, ◌≤◌, List, length, set, refl, ap, ◌∙◌, arith}
use Rattle.std.specs.List.{insert}
use Rattle.target_tables.specs.Pages.{entries_of, page_at, split_in_two}
use Rattle.target_tables.proofs.Splitting.{room_as, lower_length, upper_length, split_inside, split_next, into_lower, into_upper, room_split}
use Rattle.target_tables.proofs.changes.put_in_half.Goals as goal

pub put_in-requires-clause-within : goal.put_in-requires-clause-within
put_in-requires-clause-within g c =
    let lower : length (page_at c.split.new.self.pages c.args.spot.page) ≡ 64 = ap (λ (l : List (List (g.row.K.Denot × (ℕ × g.row.R.Denot)))). length (page_at l c.args.spot.page)) c.split.ensures.pages ∙ lower_length c.args.pages.now.pages c.args.spot.page c.requires.inside c.requires.full 64 (omega arith) (omega arith) in
    omega arith

pub put_in-requires-clause-room : goal.put_in-requires-clause-room
put_in-requires-clause-room g c =
    let lower : length (page_at c.split.new.self.pages c.args.spot.page) ≡ 64 = ap (λ (l : List (List (g.row.K.Denot × (ℕ × g.row.R.Denot)))). length (page_at l c.args.spot.page)) c.split.ensures.pages ∙ lower_length c.args.pages.now.pages c.args.spot.page c.requires.inside c.requires.full 64 (omega arith) (omega arith) in
    omega arith

pub returns-then-place-lt-HALF-clause-entries : goal.returns-then-place-lt-HALF-clause-entries
returns-then-place-lt-HALF-clause-entries g c =
    ap (λ (l : List (List (g.row.K.Denot × (ℕ × g.row.R.Denot)))). entries_of l) (c.put_in.ensures.pages ∙ ap (λ (l : List (List (g.row.K.Denot × (ℕ × g.row.R.Denot)))). set l c.args.spot.page (insert (page_at l c.args.spot.page) c.args.spot.place c.args.entry)) c.split.ensures.pages)
    ∙ into_lower c.args.pages.now.pages c.args.spot.page c.requires.inside c.requires.full 64 (omega arith) (omega arith) c.args.spot.place c.args.entry (omega arith)

pub returns-then-place-lt-HALF-clause-room : goal.returns-then-place-lt-HALF-clause-room
returns-then-place-lt-HALF-clause-room g c = λ m h.
    room_as c.put_in.new.self.pages (set (split_in_two c.args.pages.now.pages c.args.spot.page 64) c.args.spot.page (insert (page_at (split_in_two c.args.pages.now.pages c.args.spot.page 64) c.args.spot.page) c.args.spot.place c.args.entry)) c.put_in.new.self.spares c.split.new.self.spares m
    (c.put_in.ensures.pages ∙ ap (λ (l : List (List (g.row.K.Denot × (ℕ × g.row.R.Denot)))). set l c.args.spot.page (insert (page_at l c.args.spot.page) c.args.spot.place c.args.entry)) c.split.ensures.pages) c.put_in.ensures.spares
    (room_split c.args.pages.now.pages c.args.spot.page c.requires.inside c.requires.full 64 (omega arith) (omega arith) refl c.args.spot.page c.args.spot.place c.args.entry (split_inside c.args.pages.now.pages c.args.spot.page c.requires.inside c.requires.full 64 (omega arith) (omega arith)) (lower_length c.args.pages.now.pages c.args.spot.page c.requires.inside c.requires.full 64 (omega arith) (omega arith)) (omega arith) c.args.pages.now.spares c.split.new.self.spares m c.split.ensures.spares h)

pub put_in-requires-2-clause-within : goal.put_in-requires-2-clause-within
put_in-requires-2-clause-within g c =
    let within : c.args.spot.place ≤ 128 = c.requires.within in
    let upper : length (page_at c.split.new.self.pages (c.args.spot.page + 1)) + 64 ≡ 128 = ap (λ (l : List (List (g.row.K.Denot × (ℕ × g.row.R.Denot)))). length (page_at l (c.args.spot.page + 1)) + 64) c.split.ensures.pages ∙ upper_length c.args.pages.now.pages c.args.spot.page c.requires.inside c.requires.full 64 (omega arith) (omega arith) in
    omega arith

pub put_in-requires-2-clause-room : goal.put_in-requires-2-clause-room
put_in-requires-2-clause-room g c =
    let upper : length (page_at c.split.new.self.pages (c.args.spot.page + 1)) + 64 ≡ 128 = ap (λ (l : List (List (g.row.K.Denot × (ℕ × g.row.R.Denot)))). length (page_at l (c.args.spot.page + 1)) + 64) c.split.ensures.pages ∙ upper_length c.args.pages.now.pages c.args.spot.page c.requires.inside c.requires.full 64 (omega arith) (omega arith) in
    omega arith

pub returns-clause-entries : goal.returns-clause-entries
returns-clause-entries g c =
    ap (λ (l : List (List (g.row.K.Denot × (ℕ × g.row.R.Denot)))). entries_of l) (c.put_in-2.ensures.pages ∙ ap (λ (l : List (List (g.row.K.Denot × (ℕ × g.row.R.Denot)))). set l (c.args.spot.page + 1) (insert (page_at l (c.args.spot.page + 1)) (c.args.spot.place - 64) c.args.entry)) c.split.ensures.pages)
    ∙ into_upper c.args.pages.now.pages c.args.spot.page c.requires.inside c.requires.full 64 (omega arith) (omega arith) c.args.spot.place c.args.entry (omega arith) c.requires.within

pub returns-clause-room : goal.returns-clause-room
returns-clause-room g c = λ m h.
    let upper : length (page_at (split_in_two c.args.pages.now.pages c.args.spot.page 64) (c.args.spot.page + 1)) + 64 ≡ 128 = upper_length c.args.pages.now.pages c.args.spot.page c.requires.inside c.requires.full 64 (omega arith) (omega arith) in
    let within : c.args.spot.place ≤ 128 = c.requires.within in
    room_as c.put_in-2.new.self.pages (set (split_in_two c.args.pages.now.pages c.args.spot.page 64) (c.args.spot.page + 1) (insert (page_at (split_in_two c.args.pages.now.pages c.args.spot.page 64) (c.args.spot.page + 1)) (c.args.spot.place - 64) c.args.entry)) c.put_in-2.new.self.spares c.split.new.self.spares m
    (c.put_in-2.ensures.pages ∙ ap (λ (l : List (List (g.row.K.Denot × (ℕ × g.row.R.Denot)))). set l (c.args.spot.page + 1) (insert (page_at l (c.args.spot.page + 1)) (c.args.spot.place - 64) c.args.entry)) c.split.ensures.pages) c.put_in-2.ensures.spares
    (room_split c.args.pages.now.pages c.args.spot.page c.requires.inside c.requires.full 64 (omega arith) (omega arith) refl (c.args.spot.page + 1) (c.args.spot.place - 64) c.args.entry (split_next c.args.pages.now.pages c.args.spot.page c.requires.inside c.requires.full 64 (omega arith) (omega arith)) (omega arith) (omega arith) c.args.pages.now.spares c.split.new.self.spares m c.split.ensures.spares h)
