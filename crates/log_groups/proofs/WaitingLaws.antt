-- What waits, one place on.
use Rattle.std.proofs.Common.{◌≡◌, ℕ, suc, ◌+◌, ◌<◌, ◌≤◌, true, false, List, [], ◌∷◌, ◌++◌, length, map, take, drop, get_or, append_assoc, Option, None, Some, Result, Ok, Err, refl, sym, ap, ◌∙◌, arith}
use Rattle.std.specs.Prelude.{remove}
use Rattle.std.specs.Option.{option_map}
use Rattle.std.specs.Result.{result_map_both}
use Rattle.std.proofs.lemmas.List.{drop_more, drop_all, map-append, map_more, get_or_default}
use Rattle.item_readers.specs.Reading.{Reading}
use Rattle.log_groups.specs.declared.fault.GroupFault.{GroupFault}
use Rattle.log_groups.specs.declared.fault.GroupError.{GroupError}
use Rattle.log_groups.specs.declared.fault.GroupError.TheVariants.{Memory, Fault}
use Rattle.log_groups.specs.Fault.{meant}
use Rattle.log_groups.specs.Calls.{NextTransaction}
use Rattle.log_groups.specs.GroupCalls.{FindsWaiting, SettlesAs, FindsGroup, unless_refused, NextGroup}
use Rattle.log_groups.specs.Body.{XidValue}
use Rattle.log_groups.specs.Transaction.{DoneValue, TransactionValue}
use Rattle.log_groups.specs.Group.{GroupValue, WaitingValue, same_xid, waiting_at, without, Settled, settle, GroupsRead, put_group, groups_in, groups_behind}

-- what a loop over places keeps: nothing before this place waits under the id
pub record Looked {W : Type 0} (view : W → WaitingValue) (ws : List W) (x : XidValue) (i : ℕ) : Type 0 where
  pub at : waiting_at x (map view (drop i ws)) ≡ waiting_at x (map view ws)
  pub rest : map view (take i ws) ++ without x (map view (drop i ws)) ≡ without x (map view ws)

pub looked_none : {W : Type 0} (view : W → WaitingValue) (ws : List W) (x : XidValue) → Looked view ws x 0
looked_none view ws x = record { at = refl; rest = refl }

pub looked_more : {W : Type 0} (view : W → WaitingValue) (ws : List W) (x : XidValue) (i : ℕ) (d : W) → i < length ws → same_xid (view (get_or ws i d)).xid x ≡ false → Looked view ws x i → Looked view ws x (i + 1)
looked_more {W} view ws x i d less other h =
    let w = view (get_or ws i d) in
    let parts : map view (drop i ws) ≡ w ∷ map view (drop (i + 1) ws) = ap (map view) (drop_more ws i d less) in
    let at_is : waiting_at x (w ∷ map view (drop (i + 1) ws)) ≡ waiting_at x (map view (drop (i + 1) ws)) = rw other refl in
    let rest_is : without x (w ∷ map view (drop (i + 1) ws)) ≡ w ∷ without x (map view (drop (i + 1) ws)) = rw other refl in
    record {
      at = sym at_is ∙ ap (waiting_at x) (sym parts) ∙ h.at;
      rest = ap (λ (front : List WaitingValue). front ++ without x (map view (drop (i + 1) ws))) (map_more view ws i d less)
          ∙ append_assoc (map view (take i ws)) (w ∷ []) (without x (map view (drop (i + 1) ws)))
          ∙ ap (λ (back : List WaitingValue). map view (take i ws) ++ back) (sym rest_is ∙ ap (without x) (sym parts))
          ∙ h.rest;
    }

pub found_at : {W : Type 0} (view : W → WaitingValue) (ws : List W) (x : XidValue) (i : ℕ) (d e : W) → i < length ws → same_xid (view (get_or ws i d)).xid x ≡ true → Looked view ws x i → waiting_at x (map view ws) ≡ Some (view (get_or ws i e)).changes
found_at {W} view ws x i d e less same h =
    let w = view (get_or ws i d) in
    let parts : map view (drop i ws) ≡ w ∷ map view (drop (i + 1) ws) = ap (map view) (drop_more ws i d less) in
    let at_is : waiting_at x (w ∷ map view (drop (i + 1) ws)) ≡ Some w.changes = rw same refl in
    sym h.at ∙ ap (waiting_at x) parts ∙ at_is ∙ ap (λ (v : W). Some (view v).changes) (get_or_default ws i d e less)

pub found_rest : {W : Type 0} (view : W → WaitingValue) (ws : List W) (x : XidValue) (i : ℕ) (d : W) → i < length ws → same_xid (view (get_or ws i d)).xid x ≡ true → Looked view ws x i → without x (map view ws) ≡ map view (remove ws i)
found_rest {W} view ws x i d less same h =
    let w = view (get_or ws i d) in
    let parts : map view (drop i ws) ≡ w ∷ map view (drop (i + 1) ws) = ap (map view) (drop_more ws i d less) in
    let rest_is : without x (w ∷ map view (drop (i + 1) ws)) ≡ map view (drop (i + 1) ws) = rw same refl in
    let one : i + 1 ≡ suc i = omega arith in
    sym h.rest ∙ ap (λ (back : List WaitingValue). map view (take i ws) ++ back) (ap (without x) parts ∙ rest_is ∙ ap (λ (n : ℕ). map view (drop n ws)) one)
    ∙ sym (map-append view (take i ws) (drop (suc i) ws))

pub found_none : {W : Type 0} (view : W → WaitingValue) (ws : List W) (x : XidValue) (i : ℕ) → length ws ≤ i → Looked view ws x i → waiting_at x (map view ws) ≡ None
found_none view ws x i le h = sym h.at ∙ ap (λ ws. waiting_at x (map view ws)) (drop_all i ws le)

-- what waits somewhere waits under the id
pub there_is : {W : Type 0} (view : W → WaitingValue) (ws : List W) (x : XidValue) (i : ℕ) → FindsWaiting view ws x (Some i) → (changes : List DoneValue) × (waiting_at x (map view ws) ≡ Some changes)
there_is view [] x i h = absurd (omega (arith, h.0))
there_is view (w ∷ ws) x i h = ((view (get_or (w ∷ ws) i w)).changes, h.1 w)

-- ---- groups

pub group_there : (waiting left : List WaitingValue) (old new : Reading TransactionValue GroupFault) (t : TransactionValue) (changes : List DoneValue) → old.items ≡ t ∷ new.items → old.fault ≡ new.fault → settle waiting t ≡ Ok (changes, left)
    → FindsGroup (groups_behind waiting old) (Ok (Some (record { gtid = t.gtid; changes = changes }))) left new
unfolding groups_in
group_there waiting left old new t changes items fault settled = rw (items, fault, settled) (refl, refl, refl)

group_refused : (waiting : List WaitingValue) (old new : Reading TransactionValue GroupFault) (t : TransactionValue) (wrong : GroupFault) → old.items ≡ t ∷ new.items → settle waiting t ≡ Err wrong → FindsGroup (groups_behind waiting old) (Err (Fault wrong)) waiting new
unfolding groups_in
group_refused waiting old new t wrong items settled = rw (items, settled) (refl, refl, refl)

groups_faulty : (waiting : List WaitingValue) (old new : Reading TransactionValue GroupFault) (wrong : GroupFault) → old.items ≡ [] → old.fault ≡ Some wrong → FindsGroup (groups_behind waiting old) (Err (Fault wrong)) waiting new
unfolding groups_in
groups_faulty waiting old new wrong none fault = rw (none, fault) (refl, refl, refl)

-- the group of a transaction that was settled so, or not
pub group_by : (waiting left : List WaitingValue) (old new : Reading TransactionValue GroupFault) (t : TransactionValue) (error : GroupError) → old.items ≡ t ∷ new.items → SettlesAs (settle waiting t) waiting (Err error) left
    → FindsGroup (groups_behind waiting old) (Err error) left new
group_by waiting left old new t Memory items settled = tt
group_by waiting left old new t (Fault wrong) items settled = rw settled.1 (group_refused waiting old new t wrong items settled.0)

pub none_by : (waiting : List WaitingValue) (old new : Reading TransactionValue GroupFault) (error : GroupError) → NextTransaction old (Err error) new → FindsGroup (groups_behind waiting old) (Err error) waiting new
none_by waiting old new Memory next = tt
none_by waiting old new (Fault wrong) next = groups_faulty waiting old new wrong next.0 next.1

-- what a call says that gave a transaction, or none
pub transaction_there : {X : Type 0} (view : X → TransactionValue) (old new : Reading TransactionValue GroupFault) (r : Result (Option X) GroupError) (x : X) → NextTransaction old (result_map_both (λ t. option_map view t) (λ e. e) r) new → r ≡ Ok (Some x)
    → (old.items ≡ view x ∷ new.items) × (old.fault ≡ new.fault)
transaction_there view old new r x next e = rw e at next

no_transaction : {X : Type 0} (view : X → TransactionValue) (old new : Reading TransactionValue GroupFault) (r : Result (Option X) GroupError) → NextTransaction old (result_map_both (λ t. option_map view t) (λ e. e) r) new → r ≡ Ok None
    → (old.items ≡ []) × (old.fault ≡ None) × (new ≡ old)
no_transaction view old new r next e = rw e at next

pub end_there : {X : Type 0} (view : X → TransactionValue) (waiting : List WaitingValue) (old new : Reading TransactionValue GroupFault) (r : Result (Option X) GroupError) → NextTransaction old (result_map_both (λ t. option_map view t) (λ e. e) r) new → r ≡ Ok None
    → FindsGroup (groups_behind waiting old) (Ok None) waiting new
unfolding groups_in
end_there view waiting old new r next e =
    let none = no_transaction view old new r next e in
    rw none.2 (rw (none.0, none.1) (refl, refl, refl))

-- the next group of a reader, of which none was refused so far
pub next_found : (failed : Option GroupFault) (waiting left : List WaitingValue) (r rest : Reading TransactionValue GroupFault) (old : GroupsRead) (g : Option GroupValue) → failed ≡ None → unless_refused failed waiting r ≡ old
    → FindsGroup (groups_behind waiting r) (Ok g) left rest → NextGroup old (Ok g) (unless_refused failed left rest)
next_found (Some fault) waiting left r rest old g is seen h = cc
next_found None waiting left r rest old None is seen h = rw (sym seen) h
next_found None waiting left r rest old (Some g) is seen h = rw (sym seen) h

whole : (r : GroupsRead) (left : List WaitingValue) (fault : GroupFault) → r.reading.items ≡ [] → r.reading.fault ≡ Some fault → left ≡ r.waiting
    → ◌≡◌ {A = GroupsRead} (record { reading = record { items = []; fault = Some fault }; waiting = left }) r
whole r left fault none is same = rw (sym none, sym is, same) refl

pub next_refused : (failed left_failed : Option GroupFault) (waiting left : List WaitingValue) (r rest : Reading TransactionValue GroupFault) (old : GroupsRead) (error : GroupError) → failed ≡ None → unless_refused failed waiting r ≡ old → left_failed ≡ meant error
    → FindsGroup (groups_behind waiting r) (Err error) left rest → NextGroup old (Err error) (unless_refused left_failed left rest)
next_refused failed left_failed waiting left r rest old Memory is seen by h = tt
next_refused (Some wrong) left_failed waiting left r rest old (Fault fault) is seen by h = cc
next_refused None left_failed waiting left r rest old (Fault fault) is seen by h =
    let there : FindsGroup old (Err (Fault fault)) left rest = (rw seen at h) in
    (there.0, there.1, ap (λ (f : Option GroupFault). unless_refused f left rest) by ∙ whole old left fault there.0 there.1 there.2)

-- where no group is to come, what waits is what waits at the end
pub waits_there : (failed : Option GroupFault) (waiting : List WaitingValue) (r : Reading TransactionValue GroupFault) (all : GroupsRead) → unless_refused failed waiting r ≡ all → all.reading.items ≡ [] → waiting ≡ all.waiting
unfolding groups_in
waits_there (Some fault) waiting r all seen none = ap (λ (g : GroupsRead). g.waiting) seen
waits_there None waiting r all seen none = by r.items (ap (λ (g : GroupsRead). g.reading.items) seen ∙ none) ∙ ap (λ (g : GroupsRead). g.waiting) seen
  where
    by_settled : (t : TransactionValue) (transactions : List TransactionValue) (s : Settled) → (put_group t.gtid waiting s (λ left. groups_in left transactions r.fault)).reading.items ≡ []
        → waiting ≡ (put_group t.gtid waiting s (λ left. groups_in left transactions r.fault)).waiting
    by_settled t transactions (Ok x) e = cc
    by_settled t transactions (Err fault) e = refl

    by : (transactions : List TransactionValue) → (groups_in waiting transactions r.fault).reading.items ≡ [] → waiting ≡ (groups_in waiting transactions r.fault).waiting
    by [] e = refl
    by (t ∷ transactions) e = by_settled t transactions (settle waiting t) e
