use Rattle.std.proofs.Common.{◌≡◌, ℕ, ◌+◌, ◌^◌, ◌<◌, ◌≤◌, List, [], length, sym, ap, subst, ◌∙◌, vec_len, set, arith}
use Rattle.std.proofs.lemmas.List.{get_or_default, nil_from_length}
use Rattle.std.proofs.lemmas.List.Edits.{length-remove}
use Rattle.std.proofs.lemmas.List.Elements.{All-push}
use borrow.Author.Tests.{eqb-false}
use Rattle.std.specs.List.{remove, All}
use Rattle.std.specs.Vec.{vec_capacity}
use Rattle.target_tables.specs.Pages.{Book, entries_of, flat, room_of, page_at, AreFull}
use Rattle.target_tables.proofs.Paging.{taken_out, page_gone}
use Rattle.target_tables.proofs.Rooms.{room_set, room_removed, full_removed}
use Rattle.target_tables.proofs.pages.Pages.take_out.Goals as goal

pub returns-then-len-gt1-clause-entries : goal.returns-then-len-gt1-clause-entries
returns-then-len-gt1-clause-entries g c =
    let all : List (List (g.row.K.Denot × (ℕ × g.row.R.Denot))) = c.self.inside.list.items in
    let inside : c.args.page < length all = subst (λ (b : Book g.row.K.Denot g.row.R.Denot). c.args.page < length b.pages) (sym c.self.view_is) c.requires.inside in
    let within : c.args.place < length (page_at all c.args.page) = subst (λ (b : Book g.row.K.Denot g.row.R.Denot). c.args.place < length (page_at b.pages c.args.page)) (sym c.self.view_is) c.requires.within in
    let there : c.index_mut.result.now ≡ page_at all c.args.page = c.index_mut.ensures.value ∙ get_or_default all c.args.page _ [] inside in
    ap (λ (page : List (g.row.K.Denot × (ℕ × g.row.R.Denot))). entries_of (set all c.args.page page)) (c.take_out.ensures ∙ ap (λ (page : List (g.row.K.Denot × (ℕ × g.row.R.Denot))). remove page c.args.place) there)
    ∙ taken_out all c.args.page inside c.args.place within
    ∙ ap (λ (b : Book g.row.K.Denot g.row.R.Denot). remove (entries_of b.pages) (flat b.pages c.args.page c.args.place)) c.self.view_is

pub returns-then-len-gt1-clause-room : goal.returns-then-len-gt1-clause-room
returns-then-len-gt1-clause-room g c =
    let all : List (List (g.row.K.Denot × (ℕ × g.row.R.Denot))) = c.self.inside.list.items in
    let inside : c.args.page < length all = subst (λ (b : Book g.row.K.Denot g.row.R.Denot). c.args.page < length b.pages) (sym c.self.view_is) c.requires.inside in
    let there : c.index_mut.result.now ≡ page_at all c.args.page = c.index_mut.ensures.value ∙ get_or_default all c.args.page _ [] inside in
    let within : c.args.place < length (page_at all c.args.page) = subst (λ (b : Book g.row.K.Denot g.row.R.Denot). c.args.place < length (page_at b.pages c.args.page)) (sym c.self.view_is) c.requires.within in
    let less : length (remove (page_at all c.args.page) c.args.place) + 1 ≡ length (page_at all c.args.page) = length-remove (page_at all c.args.page) c.args.place within in
    let same : length c.take_out.new.self ≡ length (remove (page_at all c.args.page) c.args.place) = ap length c.take_out.ensures ∙ ap (λ (page : List (g.row.K.Denot × (ℕ × g.row.R.Denot))). length (remove page c.args.place)) there in
    let fewer : length c.take_out.new.self ≤ length (page_at all c.args.page) = omega arith in
    let kept : room_of all (vec_len c.self.inside.spares) ≤ room_of (set all c.args.page c.take_out.new.self) (vec_len c.self.inside.spares) = room_set all c.args.page inside c.take_out.new.self fewer (vec_len c.self.inside.spares) in
    subst (λ (b : Book g.row.K.Denot g.row.R.Denot). room_of b.pages b.spares ≤ room_of (set all c.args.page c.take_out.new.self) (vec_len c.self.inside.spares)) c.self.view_is kept

pub returns-then-is_empty-clause-entries : goal.returns-then-is_empty-clause-entries
returns-then-is_empty-clause-entries g c =
    let all : List (List (g.row.K.Denot × (ℕ × g.row.R.Denot))) = c.self.inside.list.items in
    let inside : c.args.page < length all = subst (λ (b : Book g.row.K.Denot g.row.R.Denot). c.args.page < length b.pages) (sym c.self.view_is) c.requires.inside in
    let within : c.args.place < length (page_at all c.args.page) = subst (λ (b : Book g.row.K.Denot g.row.R.Denot). c.args.place < length (page_at b.pages c.args.page)) (sym c.self.view_is) c.requires.within in
    let there : c.index.result.now ≡ page_at all c.args.page = c.index.ensures ∙ get_or_default all c.args.page _ [] inside in
    let size : length c.index.result.now ≡ length (page_at all c.args.page) = ap length there in
    let len : c.len.result ≡ length c.index.result.now = c.len.ensures in
    ap (λ (l : List (List (g.row.K.Denot × (ℕ × g.row.R.Denot)))). entries_of l) c.remove-emptied.ensures.items
    ∙ page_gone all c.args.page inside c.args.place within (omega arith)
    ∙ ap (λ (b : Book g.row.K.Denot g.row.R.Denot). remove (entries_of b.pages) (flat b.pages c.args.page c.args.place)) c.self.view_is

pub returns-else-is_empty-clause-entries : goal.returns-else-is_empty-clause-entries
returns-else-is_empty-clause-entries g c =
    let all : List (List (g.row.K.Denot × (ℕ × g.row.R.Denot))) = c.self.inside.list.items in
    let inside : c.args.page < length all = subst (λ (b : Book g.row.K.Denot g.row.R.Denot). c.args.page < length b.pages) (sym c.self.view_is) c.requires.inside in
    let within : c.args.place < length (page_at all c.args.page) = subst (λ (b : Book g.row.K.Denot g.row.R.Denot). c.args.place < length (page_at b.pages c.args.page)) (sym c.self.view_is) c.requires.within in
    let there : c.index.result.now ≡ page_at all c.args.page = c.index.ensures ∙ get_or_default all c.args.page _ [] inside in
    let size : length c.index.result.now ≡ length (page_at all c.args.page) = ap length there in
    let len : c.len.result ≡ length c.index.result.now = c.len.ensures in
    ap (λ (l : List (List (g.row.K.Denot × (ℕ × g.row.R.Denot)))). entries_of l) c.remove-emptied.ensures.items
    ∙ page_gone all c.args.page inside c.args.place within (omega arith)
    ∙ ap (λ (b : Book g.row.K.Denot g.row.R.Denot). remove (entries_of b.pages) (flat b.pages c.args.page c.args.place)) c.self.view_is

pub invariant_of-self-then-is_empty : goal.invariant_of-self-then-is_empty
invariant_of-self-then-is_empty g c =
    let all : List (List (g.row.K.Denot × (ℕ × g.row.R.Denot))) = c.self.inside.list.items in
    let inside : c.args.page < length all = subst (λ (b : Book g.row.K.Denot g.row.R.Denot). c.args.page < length b.pages) (sym c.self.view_is) c.requires.inside in
    let within : c.args.place < length (page_at all c.args.page) = subst (λ (b : Book g.row.K.Denot g.row.R.Denot). c.args.place < length (page_at b.pages c.args.page)) (sym c.self.view_is) c.requires.within in
    let there : c.index.result.now ≡ page_at all c.args.page = c.index.ensures ∙ get_or_default all c.args.page _ [] inside in
    let size : length c.index.result.now ≡ length (page_at all c.args.page) = ap length there in
    let len : c.len.result ≡ length c.index.result.now = c.len.ensures in
    let emptied : c.remove-emptied.result ≡ page_at all c.args.page = c.remove-emptied.ensures.value ∙ get_or_default all c.args.page _ [] inside in
    let less : length (remove (page_at all c.args.page) c.args.place) + 1 ≡ length (page_at all c.args.page) = length-remove (page_at all c.args.page) c.args.place within in
    let same : length c.take_out-entry.new.self ≡ length (remove (page_at all c.args.page) c.args.place) = ap length c.take_out-entry.ensures ∙ ap (λ (page : List (g.row.K.Denot × (ℕ × g.row.R.Denot))). length (remove page c.args.place)) emptied in
    let P : List (g.row.K.Denot × (ℕ × g.row.R.Denot)) → Type 0 = λ page. page ≡ [] in
    let Q : List (List (g.row.K.Denot × (ℕ × g.row.R.Denot))) → Type 0 = All P in
    let gone : c.take_out-entry.new.self ≡ [] = nil_from_length c.take_out-entry.new.self (omega arith) in
    record {
      full = subst AreFull (sym c.remove-emptied.ensures.items) (full_removed all c.args.page inside c.self.invariant.full);
      empty = subst Q (sym c.push_reserved.ensures.items) (All-push P c.self.inside.spares.items _ c.self.invariant.empty gone);
      listed = let l : vec_len c.self.inside.list + vec_len c.self.inside.spares ≤ vec_capacity c.self.inside.list = c.self.invariant.listed in omega arith;
      spared = let l : vec_len c.self.inside.list + vec_len c.self.inside.spares ≤ vec_capacity c.self.inside.spares = c.self.invariant.spared in omega arith;
      few = let l : vec_len c.self.inside.list + vec_len c.self.inside.spares ≤ 2 ^ 56 = c.self.invariant.few in omega arith;
    }

pub invariant_of-self-else-is_empty : goal.invariant_of-self-else-is_empty
invariant_of-self-else-is_empty g c =
    let all : List (List (g.row.K.Denot × (ℕ × g.row.R.Denot))) = c.self.inside.list.items in
    let inside : c.args.page < length all = subst (λ (b : Book g.row.K.Denot g.row.R.Denot). c.args.page < length b.pages) (sym c.self.view_is) c.requires.inside in
    record {
      full = subst AreFull (sym c.remove-emptied.ensures.items) (full_removed all c.args.page inside c.self.invariant.full);
      empty = c.self.invariant.empty;
      listed = let l : vec_len c.self.inside.list + vec_len c.self.inside.spares ≤ vec_capacity c.self.inside.list = c.self.invariant.listed in omega arith;
      spared = let l : vec_len c.self.inside.list + vec_len c.self.inside.spares ≤ vec_capacity c.self.inside.spares = c.self.invariant.spared in omega arith;
      few = let l : vec_len c.self.inside.list + vec_len c.self.inside.spares ≤ 2 ^ 56 = c.self.invariant.few in omega arith;
    }

pub returns-else-is_empty-clause-room : goal.returns-else-is_empty-clause-room
returns-else-is_empty-clause-room g c =
    let all : List (List (g.row.K.Denot × (ℕ × g.row.R.Denot))) = c.self.inside.list.items in
    let inside : c.args.page < length all = subst (λ (b : Book g.row.K.Denot g.row.R.Denot). c.args.page < length b.pages) (sym c.self.view_is) c.requires.inside in
    let n : vec_len c.remove-emptied.new.self ≡ length c.remove-emptied.new.self.items = c.remove-emptied.new.self.ok.0 in
    let some : vec_len c.remove-emptied.new.self ≡ 0 → ⊥ = eqb-false (vec_len c.remove-emptied.new.self) 0 (sym c.if-is_empty.ensures) in
    let items : length c.remove-emptied.new.self.items ≡ length (remove all c.args.page) = ap length c.remove-emptied.ensures.items in
    let kept : room_of all (vec_len c.self.inside.spares) ≤ room_of (remove all c.args.page) (vec_len c.self.inside.spares) = room_removed all c.args.page inside (omega arith) (vec_len c.self.inside.spares) in
    let there : room_of all (vec_len c.self.inside.spares) ≤ room_of c.remove-emptied.new.self.items (vec_len c.self.inside.spares) =
    subst (λ (l : List (List (g.row.K.Denot × (ℕ × g.row.R.Denot)))). room_of all (vec_len c.self.inside.spares) ≤ room_of l (vec_len c.self.inside.spares)) (sym c.remove-emptied.ensures.items) kept in
    subst (λ (b : Book g.row.K.Denot g.row.R.Denot). room_of b.pages b.spares ≤ room_of c.remove-emptied.new.self.items (vec_len c.self.inside.spares)) c.self.view_is there
