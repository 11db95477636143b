use Rattle.std.proofs.Common.{◌≡◌, ℕ, ◌+◌, ◌^◌, ◌<◌, ◌≤◌, List, [], ◌∷◌, ◌++◌, Option, length, take, drop, set, reverse, vec_len, refl, sym, ap, subst, ◌∙◌, arith}
use Rattle.std.proofs.lemmas.List.{get_or_default, take_at}
use Rattle.std.proofs.lemmas.List.Elements.{All-take, All-same, All-push}
use Rattle.std.specs.List.{All, AllByRecursion}
use Rattle.std.specs.Vec.{vec_capacity}
use Rattle.target_tables.specs.Rising.{IsRising, AreAbove}
use Rattle.target_tables.specs.Pages.{Book, entries_of, page_at, flat, room_of, AreFull}
use Rattle.target_tables.specs.Touches.{new_keys}
use Rattle.target_tables.specs.Private.Runs.{Leads, IsOpen, MergesOn}
use Rattle.target_tables.proofs.Falling.{size_at}
use Rattle.target_tables.proofs.Closing.{opened_fit, shut_rising, shut_leads, shut_full, shut_room}
use Rattle.target_tables.proofs.Running.{read_back, set_back}
use Rattle.target_tables.proofs.pages.Pages.merge.Goals as goal

pub put_run-left-requires-clause-fit : goal.put_run-left-requires-clause-fit
put_run-left-requires-clause-fit g c =
    let all : List (List (g.row.K.Denot × (ℕ × g.row.R.Denot))) = c.self.inside.list.items in
    let i : ℕ = c.args.spot.page in
    let p : ℕ = c.args.spot.place in
    let changes : List (g.row.K.Denot × Option g.row.R.Denot) = take c.args.left c.args.changes.now.items in
    let inside : i < length all = subst (λ (b : Book g.row.K.Denot g.row.R.Denot). i < length b.pages) (sym c.self.view_is) c.requires.start.inside in
    let within : p ≤ length (page_at all i) = subst (λ (b : Book g.row.K.Denot g.row.R.Denot). p ≤ length (page_at b.pages i)) (sym c.self.view_is) c.requires.start.within in
    let there : c.index_mut.result.now ≡ page_at all i = c.index_mut.ensures.value ∙ get_or_default all i _ [] inside in
    let aside : reverse c.open.new.above ≡ drop p (page_at all i) = c.open.ensures.above ∙ ap (λ (l : List (g.row.K.Denot × (ℕ × g.row.R.Denot))). drop p l) there in
    let lent : c.deref_mut.result.now ≡ set all i (take p (page_at all i)) =
    c.deref_mut.ensures.value ∙ ap (λ (l : List (g.row.K.Denot × (ℕ × g.row.R.Denot))). set all i l) (c.open.ensures.lower ∙ ap (λ (l : List (g.row.K.Denot × (ℕ × g.row.R.Denot))). take p l) there) in
    let rising : IsRising g.K.Ord.cmp (entries_of all) = subst (λ (b : Book g.row.K.Denot g.row.R.Denot). IsRising g.K.Ord.cmp (entries_of b.pages)) (sym c.self.view_is) c.requires.rising in
    let front : AllByRecursion (λ (e : g.row.K.Denot × (ℕ × g.row.R.Denot)). AreAbove g.K.Ord.cmp e.0 changes) (take (flat all i p) (entries_of all)) =
    subst (λ (b : Book g.row.K.Denot g.row.R.Denot). AllByRecursion (λ (e : g.row.K.Denot × (ℕ × g.row.R.Denot)). AreAbove g.K.Ord.cmp e.0 changes) (take (flat b.pages i p) (entries_of b.pages))) (sym c.self.view_is) c.requires.start.front in
    let P : List (List (g.row.K.Denot × (ℕ × g.row.R.Denot))) → Type 0 = λ l. IsOpen g.K.Ord.cmp l i c.open.new.above changes in
    subst P (sym lent) (opened_fit g.K.Ord.cmp all i inside p within c.open.new.above aside changes rising c.requires.falling (size_at all i inside c.self.invariant.full).most front)

pub close-requires : goal.close-requires
close-requires g c =
    let all : List (List (g.row.K.Denot × (ℕ × g.row.R.Denot))) = c.self.inside.list.items in
    let i : ℕ = c.args.spot.page in
    let p : ℕ = c.args.spot.place in
    let changes : List (g.row.K.Denot × Option g.row.R.Denot) = take c.args.left c.args.changes.now.items in
    let inside : i < length all = subst (λ (b : Book g.row.K.Denot g.row.R.Denot). i < length b.pages) (sym c.self.view_is) c.requires.start.inside in
    let within : p ≤ length (page_at all i) = subst (λ (b : Book g.row.K.Denot g.row.R.Denot). p ≤ length (page_at b.pages i)) (sym c.self.view_is) c.requires.start.within in
    let there : c.index_mut.result.now ≡ page_at all i = c.index_mut.ensures.value ∙ get_or_default all i _ [] inside in
    let aside : reverse c.open.new.above ≡ drop p (page_at all i) = c.open.ensures.above ∙ ap (λ (l : List (g.row.K.Denot × (ℕ × g.row.R.Denot))). drop p l) there in
    let lent : c.deref_mut.result.now ≡ set all i (take p (page_at all i)) =
    c.deref_mut.ensures.value ∙ ap (λ (l : List (g.row.K.Denot × (ℕ × g.row.R.Denot))). set all i l) (c.open.ensures.lower ∙ ap (λ (l : List (g.row.K.Denot × (ℕ × g.row.R.Denot))). take p l) there) in
    let now : List (List (g.row.K.Denot × (ℕ × g.row.R.Denot))) = c.put_run-left.new.list in
    let above : List (g.row.K.Denot × (ℕ × g.row.R.Denot)) = c.put_run-left.new.above in
    let left : List (g.row.K.Denot × Option g.row.R.Denot) = take c.put_run-left.result c.put_run-left.new.changes.items in
    let many : vec_len c.self.inside.list ≡ length all = c.self.inside.list.ok.0 in
    let M : List (List (g.row.K.Denot × (ℕ × g.row.R.Denot))) → Type 0 = λ l. MergesOn g.K.Ord.cmp c.args.stream i l c.open.new.above changes now above left in
    let merges : MergesOn g.K.Ord.cmp c.args.stream i (set all i (take p (page_at all i))) c.open.new.above changes now above left = subst M lent c.put_run-left.ensures.merges in
    let read : c.index_mut-2.result.now ≡ page_at now i =
    read_back g.K.Ord.cmp c.args.stream i all c.deref_mut.result.now now (take p (page_at all i)) c.open.new.above above changes left lent c.put_run-left.ensures.merges (vec_len c.self.inside.list) many _ inside c.index_mut-2.result.now c.index_mut-2.ensures.value in
    let size : length c.index_mut-2.result.now ≡ length (page_at now i) = ap length read in
    let most : length (page_at now i) + length above ≤ 128 = merges.fit.most in
    record { most = omega (arith, size, most) }

pub returns-clause-rising : goal.returns-clause-rising
returns-clause-rising g c =
    let all : List (List (g.row.K.Denot × (ℕ × g.row.R.Denot))) = c.self.inside.list.items in
    let i : ℕ = c.args.spot.page in
    let p : ℕ = c.args.spot.place in
    let changes : List (g.row.K.Denot × Option g.row.R.Denot) = take c.args.left c.args.changes.now.items in
    let inside : i < length all = subst (λ (b : Book g.row.K.Denot g.row.R.Denot). i < length b.pages) (sym c.self.view_is) c.requires.start.inside in
    let within : p ≤ length (page_at all i) = subst (λ (b : Book g.row.K.Denot g.row.R.Denot). p ≤ length (page_at b.pages i)) (sym c.self.view_is) c.requires.start.within in
    let there : c.index_mut.result.now ≡ page_at all i = c.index_mut.ensures.value ∙ get_or_default all i _ [] inside in
    let aside : reverse c.open.new.above ≡ drop p (page_at all i) = c.open.ensures.above ∙ ap (λ (l : List (g.row.K.Denot × (ℕ × g.row.R.Denot))). drop p l) there in
    let lent : c.deref_mut.result.now ≡ set all i (take p (page_at all i)) =
    c.deref_mut.ensures.value ∙ ap (λ (l : List (g.row.K.Denot × (ℕ × g.row.R.Denot))). set all i l) (c.open.ensures.lower ∙ ap (λ (l : List (g.row.K.Denot × (ℕ × g.row.R.Denot))). take p l) there) in
    let now : List (List (g.row.K.Denot × (ℕ × g.row.R.Denot))) = c.put_run-left.new.list in
    let above : List (g.row.K.Denot × (ℕ × g.row.R.Denot)) = c.put_run-left.new.above in
    let left : List (g.row.K.Denot × Option g.row.R.Denot) = take c.put_run-left.result c.put_run-left.new.changes.items in
    let many : vec_len c.self.inside.list ≡ length all = c.self.inside.list.ok.0 in
    let M : List (List (g.row.K.Denot × (ℕ × g.row.R.Denot))) → Type 0 = λ l. MergesOn g.K.Ord.cmp c.args.stream i l c.open.new.above changes now above left in
    let merges : MergesOn g.K.Ord.cmp c.args.stream i (set all i (take p (page_at all i))) c.open.new.above changes now above left = subst M lent c.put_run-left.ensures.merges in
    let back : _ ≡ set now i (page_at now i ++ reverse above) =
    set_back g.K.Ord.cmp c.args.stream i all c.deref_mut.result.now now (take p (page_at all i)) c.open.new.above above changes left lent c.put_run-left.ensures.merges (vec_len c.self.inside.list) many _ inside c.index_mut-2.result.now c.close.new.self c.index_mut-2.ensures.value c.close.ensures.entries in
    let P : List (List (g.row.K.Denot × (ℕ × g.row.R.Denot))) → Type 0 = λ l. IsRising g.K.Ord.cmp (entries_of l) in
    subst P (sym back) (shut_rising g.K.Ord.cmp all i inside p within c.open.new.above aside c.args.stream changes left now above merges)

pub returns-clause-leads : goal.returns-clause-leads
returns-clause-leads g c =
    let all : List (List (g.row.K.Denot × (ℕ × g.row.R.Denot))) = c.self.inside.list.items in
    let i : ℕ = c.args.spot.page in
    let p : ℕ = c.args.spot.place in
    let changes : List (g.row.K.Denot × Option g.row.R.Denot) = take c.args.left c.args.changes.now.items in
    let inside : i < length all = subst (λ (b : Book g.row.K.Denot g.row.R.Denot). i < length b.pages) (sym c.self.view_is) c.requires.start.inside in
    let within : p ≤ length (page_at all i) = subst (λ (b : Book g.row.K.Denot g.row.R.Denot). p ≤ length (page_at b.pages i)) (sym c.self.view_is) c.requires.start.within in
    let there : c.index_mut.result.now ≡ page_at all i = c.index_mut.ensures.value ∙ get_or_default all i _ [] inside in
    let aside : reverse c.open.new.above ≡ drop p (page_at all i) = c.open.ensures.above ∙ ap (λ (l : List (g.row.K.Denot × (ℕ × g.row.R.Denot))). drop p l) there in
    let lent : c.deref_mut.result.now ≡ set all i (take p (page_at all i)) =
    c.deref_mut.ensures.value ∙ ap (λ (l : List (g.row.K.Denot × (ℕ × g.row.R.Denot))). set all i l) (c.open.ensures.lower ∙ ap (λ (l : List (g.row.K.Denot × (ℕ × g.row.R.Denot))). take p l) there) in
    let now : List (List (g.row.K.Denot × (ℕ × g.row.R.Denot))) = c.put_run-left.new.list in
    let above : List (g.row.K.Denot × (ℕ × g.row.R.Denot)) = c.put_run-left.new.above in
    let left : List (g.row.K.Denot × Option g.row.R.Denot) = take c.put_run-left.result c.put_run-left.new.changes.items in
    let many : vec_len c.self.inside.list ≡ length all = c.self.inside.list.ok.0 in
    let M : List (List (g.row.K.Denot × (ℕ × g.row.R.Denot))) → Type 0 = λ l. MergesOn g.K.Ord.cmp c.args.stream i l c.open.new.above changes now above left in
    let merges : MergesOn g.K.Ord.cmp c.args.stream i (set all i (take p (page_at all i))) c.open.new.above changes now above left = subst M lent c.put_run-left.ensures.merges in
    let back : _ ≡ set now i (page_at now i ++ reverse above) =
    set_back g.K.Ord.cmp c.args.stream i all c.deref_mut.result.now now (take p (page_at all i)) c.open.new.above above changes left lent c.put_run-left.ensures.merges (vec_len c.self.inside.list) many _ inside c.index_mut-2.result.now c.close.new.self c.index_mut-2.ensures.value c.close.ensures.entries in
    let P : List (List (g.row.K.Denot × (ℕ × g.row.R.Denot))) → Type 0 = λ l. Leads g.K.Ord.cmp (entries_of all) c.args.stream changes left (entries_of l) in
    let Q : Book g.row.K.Denot g.row.R.Denot → Type 0 = λ b. Leads g.K.Ord.cmp (entries_of b.pages) c.args.stream changes left (entries_of (set (take (vec_len c.self.inside.list) (now ++ drop (length now) (set all i c.open.new.self))) i c.close.new.self)) in
    subst Q c.self.view_is (subst P (sym back) (shut_leads g.K.Ord.cmp all i inside p within c.open.new.above aside c.args.stream changes left now above merges))

pub returns-clause-room : goal.returns-clause-room
returns-clause-room g c = λ h.
    let all : List (List (g.row.K.Denot × (ℕ × g.row.R.Denot))) = c.self.inside.list.items in
    let i : ℕ = c.args.spot.page in
    let p : ℕ = c.args.spot.place in
    let changes : List (g.row.K.Denot × Option g.row.R.Denot) = take c.args.left c.args.changes.now.items in
    let inside : i < length all = subst (λ (b : Book g.row.K.Denot g.row.R.Denot). i < length b.pages) (sym c.self.view_is) c.requires.start.inside in
    let within : p ≤ length (page_at all i) = subst (λ (b : Book g.row.K.Denot g.row.R.Denot). p ≤ length (page_at b.pages i)) (sym c.self.view_is) c.requires.start.within in
    let there : c.index_mut.result.now ≡ page_at all i = c.index_mut.ensures.value ∙ get_or_default all i _ [] inside in
    let aside : reverse c.open.new.above ≡ drop p (page_at all i) = c.open.ensures.above ∙ ap (λ (l : List (g.row.K.Denot × (ℕ × g.row.R.Denot))). drop p l) there in
    let lent : c.deref_mut.result.now ≡ set all i (take p (page_at all i)) =
    c.deref_mut.ensures.value ∙ ap (λ (l : List (g.row.K.Denot × (ℕ × g.row.R.Denot))). set all i l) (c.open.ensures.lower ∙ ap (λ (l : List (g.row.K.Denot × (ℕ × g.row.R.Denot))). take p l) there) in
    let now : List (List (g.row.K.Denot × (ℕ × g.row.R.Denot))) = c.put_run-left.new.list in
    let above : List (g.row.K.Denot × (ℕ × g.row.R.Denot)) = c.put_run-left.new.above in
    let left : List (g.row.K.Denot × Option g.row.R.Denot) = take c.put_run-left.result c.put_run-left.new.changes.items in
    let many : vec_len c.self.inside.list ≡ length all = c.self.inside.list.ok.0 in
    let M : List (List (g.row.K.Denot × (ℕ × g.row.R.Denot))) → Type 0 = λ l. MergesOn g.K.Ord.cmp c.args.stream i l c.open.new.above changes now above left in
    let merges : MergesOn g.K.Ord.cmp c.args.stream i (set all i (take p (page_at all i))) c.open.new.above changes now above left = subst M lent c.put_run-left.ensures.merges in
    let back : _ ≡ set now i (page_at now i ++ reverse above) =
    set_back g.K.Ord.cmp c.args.stream i all c.deref_mut.result.now now (take p (page_at all i)) c.open.new.above above changes left lent c.put_run-left.ensures.merges (vec_len c.self.inside.list) many _ inside c.index_mut-2.result.now c.close.new.self c.index_mut-2.ensures.value c.close.ensures.entries in
    let shut : List (List (g.row.K.Denot × (ℕ × g.row.R.Denot))) = set now i (page_at now i ++ reverse above) in
    let spares : vec_len c.push_reserved.new.self ≡ vec_len c.self.inside.spares = omega arith in
    let room : new_keys g.K.Ord.cmp (entries_of all) changes ≤ room_of all (vec_len c.self.inside.spares) =
    subst (λ (b : Book g.row.K.Denot g.row.R.Denot). new_keys g.K.Ord.cmp (entries_of b.pages) changes ≤ room_of b.pages b.spares) (sym c.self.view_is) h in
    let P : List (List (g.row.K.Denot × (ℕ × g.row.R.Denot))) → Type 0 = λ l. new_keys g.K.Ord.cmp (entries_of l) left ≤ room_of l (vec_len c.push_reserved.new.self) in
    let Q : ℕ → Type 0 = λ s. new_keys g.K.Ord.cmp (entries_of shut) left ≤ room_of shut s in
    subst P (sym back) (subst Q (sym spares) (shut_room g.K.Ord.cmp all i inside p within c.open.new.above aside c.args.stream changes left now above merges (vec_len c.self.inside.spares) room))

pub invariant_of-self : goal.invariant_of-self
invariant_of-self g c =
    let all : List (List (g.row.K.Denot × (ℕ × g.row.R.Denot))) = c.self.inside.list.items in
    let i : ℕ = c.args.spot.page in
    let p : ℕ = c.args.spot.place in
    let changes : List (g.row.K.Denot × Option g.row.R.Denot) = take c.args.left c.args.changes.now.items in
    let inside : i < length all = subst (λ (b : Book g.row.K.Denot g.row.R.Denot). i < length b.pages) (sym c.self.view_is) c.requires.start.inside in
    let within : p ≤ length (page_at all i) = subst (λ (b : Book g.row.K.Denot g.row.R.Denot). p ≤ length (page_at b.pages i)) (sym c.self.view_is) c.requires.start.within in
    let there : c.index_mut.result.now ≡ page_at all i = c.index_mut.ensures.value ∙ get_or_default all i _ [] inside in
    let aside : reverse c.open.new.above ≡ drop p (page_at all i) = c.open.ensures.above ∙ ap (λ (l : List (g.row.K.Denot × (ℕ × g.row.R.Denot))). drop p l) there in
    let lent : c.deref_mut.result.now ≡ set all i (take p (page_at all i)) =
    c.deref_mut.ensures.value ∙ ap (λ (l : List (g.row.K.Denot × (ℕ × g.row.R.Denot))). set all i l) (c.open.ensures.lower ∙ ap (λ (l : List (g.row.K.Denot × (ℕ × g.row.R.Denot))). take p l) there) in
    let now : List (List (g.row.K.Denot × (ℕ × g.row.R.Denot))) = c.put_run-left.new.list in
    let above : List (g.row.K.Denot × (ℕ × g.row.R.Denot)) = c.put_run-left.new.above in
    let left : List (g.row.K.Denot × Option g.row.R.Denot) = take c.put_run-left.result c.put_run-left.new.changes.items in
    let many : vec_len c.self.inside.list ≡ length all = c.self.inside.list.ok.0 in
    let M : List (List (g.row.K.Denot × (ℕ × g.row.R.Denot))) → Type 0 = λ l. MergesOn g.K.Ord.cmp c.args.stream i l c.open.new.above changes now above left in
    let merges : MergesOn g.K.Ord.cmp c.args.stream i (set all i (take p (page_at all i))) c.open.new.above changes now above left = subst M lent c.put_run-left.ensures.merges in
    let back : _ ≡ set now i (page_at now i ++ reverse above) =
    set_back g.K.Ord.cmp c.args.stream i all c.deref_mut.result.now now (take p (page_at all i)) c.open.new.above above changes left lent c.put_run-left.ensures.merges (vec_len c.self.inside.list) many _ inside c.index_mut-2.result.now c.close.new.self c.index_mut-2.ensures.value c.close.ensures.entries in
    let kept : List (List (g.row.K.Denot × (ℕ × g.row.R.Denot))) = c.take_last-above.new.self.items in
    let P : List (g.row.K.Denot × (ℕ × g.row.R.Denot)) → Type 0 = λ page. page ≡ [] in
    let Q : List (List (g.row.K.Denot × (ℕ × g.row.R.Denot))) → Type 0 = All P in
    let empty : All P kept = All-same P kept (take (length kept) (kept ++ c.take_last-above.result ∷ [])) (sym (take_at kept (c.take_last-above.result ∷ []) (length kept) refl)) (All-take P (length kept) (kept ++ c.take_last-above.result ∷ []) (subst Q c.take_last-above.ensures.items c.self.invariant.empty)) in
    record {
      full = subst AreFull (sym back) (shut_full g.K.Ord.cmp all i inside p within c.open.new.above aside c.args.stream changes left now above merges c.self.invariant.full (size_at all i inside c.self.invariant.full).least);
      empty = subst Q (sym c.push_reserved.ensures.items) (All-push P kept c.close.new.above empty c.close.ensures.above);
      listed = let l : vec_len c.self.inside.list + vec_len c.self.inside.spares ≤ vec_capacity c.self.inside.list = c.self.invariant.listed in omega arith;
      spared = let l : vec_len c.self.inside.list + vec_len c.self.inside.spares ≤ vec_capacity c.self.inside.spares = c.self.invariant.spared in omega arith;
      few = let l : vec_len c.self.inside.list + vec_len c.self.inside.spares ≤ 2 ^ 56 = c.self.invariant.few in omega arith;
    }
