-- What a stream keeps behind its steps.
use Rattle.std.proofs.Common.{◌≡◌, ℕ, zero, suc, ◌+◌, ◌<◌, ◌≤◌, ◌⊎◌, inl, inr, false, cond, List, [], ◌∷◌, ◌++◌, length, map, take, get_or, Some, None, slice_get, refl, sym, ap, subst, ◌∙◌, arith}
use Rattle.std.proofs.lemmas.List.{length-append, length-take-le, take-append-le}
use Rattle.std.proofs.lemmas.Option.{slice_get-map, slice_get_read}
use Rattle.std.proofs.lemmas.Bool.{lt-leb}
use Rattle.std.specs.Prelude.{nat_le}
use Rattle.std.specs.Option.{option_map}
use Rattle.filter_rule.specs.PlanValue.{PlanValue}
use Rattle.pk_copy.specs.Marks.{Marks}
use Rattle.stream_core.specs.declared.step.CoreAnswer.TheVariants.{Read, Repeat}
use Rattle.stream_core.specs.declared.step.Step.TheVariants.{Offer, Restart}
use Rattle.stream_core.specs.Standing.{Standing}
use Rattle.stream_core.specs.StepTable.{made, row_of}
use Rattle.source_feed.specs.Prepared.{IsPrepared}
use Rattle.source_feed.specs.Touches.{PreparedValue}
use Rattle.source_feed.specs.History.{IsPassed}
use Rattle.source_feed.specs.Image.{ImageRows}
use Rattle.board_laws.specs.Meaning.{State}
use Rattle.board_laws.specs.Lawful.{standing_of, IsSoundState}
use Rattle.board_laws.specs.Event.{offer, restart, advance}
use Rattle.board_laws.specs.StateAfter.{state_after}
use Rattle.board_laws.specs.Allowed.{IsRead, IsNext, IsAllowed}
use Rattle.board_laws.specs.Laws.{StatesStaySound, FirstGroupsKeep}
use Rattle.apply_core.specs.Private.StreamState.{IsStream, IsStreamAt}

-- what is read at a place of a list, seen by f
pub item_at : {X Y : Type 0} (f : X → Y) (xs : List X) (i : ℕ) (x : X) (y : Y) → i < length xs → x ≡ get_or xs i x → y ≡ f x → slice_get (map f xs) i ≡ Some y
item_at f xs i x y inside is seen = slice_get-map f xs i ∙ ap (option_map f) (slice_get_read xs (length xs) i x refl inside is) ∙ ap Some (sym seen)

-- a restart is always allowed
pub may-restart : (state : State) → IsAllowed state restart
may-restart state = record { plan = tt; place = tt; table = refl }

-- ---- a stream that is put behind groups

take-most : {A : Type 0} (n : ℕ) (xs : List A) → length (take n xs) ≤ n
take-most zero [] = omega arith
take-most zero (x ∷ xs) = omega arith
take-most (suc n) [] = omega arith
take-most (suc n) (x ∷ xs) = let rest = take-most n xs in omega (arith, rest)

-- it has read as many groups as it has applied, and stands so
pub stands-behind : (plan : PlanValue) (list all : List PreparedValue) (applied : ℕ) (marks : Marks) (imaged : ℕ) (image : ImageRows) → list ≡ take applied all
    → IsStream (record { plan = plan; list = list; applied = applied; marks = marks; snapshot = None }) imaged image
    → (cursor : Standing) → cursor ≡ record { read = applied; applied = applied; tables = marks.tables; done = marks.done; snapshot = None }
    → IsStreamAt (record { plan = plan; list = list; applied = cursor.applied; marks = marks; snapshot = cursor.snapshot }) cursor imaged image
stands-behind plan list all applied marks imaged image first stream cursor e =
    let most : length list ≤ applied = subst (λ (xs : List PreparedValue). length xs ≤ applied) (sym first) (take-most applied all) in
    let count : applied ≡ length list = omega (arith, most, stream.sound.standing.applied) in
    subst (λ (c : Standing). IsStreamAt (record { plan = plan; list = list; applied = c.applied; marks = marks; snapshot = c.snapshot }) c imaged image) (sym e)
    (record { stands = ap (λ (n : ℕ). record { read = n; applied = applied; tables = marks.tables; done = marks.done; snapshot = None }) count; stream = stream })

module _ (sound : StatesStaySound) (old now : State) (is : old ≡ now) (imaged : ℕ) (image : ImageRows) (inv : IsStream old imaged image) where
  allowed_here : (P : State → Type 0) → P now → P old
  allowed_here P p = subst P (sym is) p

  -- ---- an offer

  module _ (group : PreparedValue) (list : List PreparedValue) (pushed : list ≡ old.list ++ group ∷ []) (new : length now.list < group.number) where
    above : nat_le group.number (length old.list) ≡ false
    above = lt-leb group.number (length old.list) (subst (λ (s : State). length s.list < group.number) (sym is) new)

    offered-value : ◌≡◌ {A = State} (record { plan = old.plan; list = list; applied = old.applied; marks = old.marks; snapshot = old.snapshot }) (state_after now (offer group))
    offered-value =
        ap (λ (gs : List PreparedValue). record { plan = old.plan; list = gs; applied = old.applied; marks = old.marks; snapshot = old.snapshot }) pushed
        ∙ sym (ap (λ b. cond b old (record { plan = old.plan; list = old.list ++ group ∷ []; applied = old.applied; marks = old.marks; snapshot = old.snapshot })) above)
        ∙ ap (λ (s : State). state_after s (offer group)) is

    offered-stream : FirstGroupsKeep → IsAllowed now (offer group) → IsPrepared group
        → IsStream (record { plan = old.plan; list = list; applied = old.applied; marks = old.marks; snapshot = old.snapshot }) imaged image
    offered-stream first allowed prepared = record {
      sound = subst (λ (s : State). IsSoundState s) (sym offered-value) (sound now (offer group) (subst (λ (s : State). IsSoundState s) is inv.sound) allowed prepared);
      kept = first old.list list imaged image (sym (ap (take imaged) pushed ∙ take-append-le imaged old.list (group ∷ []) inv.within)) inv.kept;
      within = let longer : length list ≡ length old.list + 1 = ap length pushed ∙ length-append old.list (group ∷ []) in omega (arith, longer, inv.within);
      opened = inv.opened;
    }

    next_number : IsAllowed now (offer group) → group.number ≡ length now.list + 1
    next_number allowed = by allowed.place
      where
        by : IsRead now.list group ⊎ IsNext now.list group → group.number ≡ length now.list + 1
        by (inl read) = absurd (omega (arith, read.within, new))
        by (inr next) = next.number

    module _ (cursor : Standing) (stands : cursor ≡ (row_of (standing_of now) (Offer group.number)).otherwise.cursor) (allowed : IsAllowed now (offer group)) where
      -- the move of the step table is behind the list with the group
      behind_read : cursor ≡ record { read = length list; applied = old.applied; tables = old.marks.tables; done = old.marks.done; snapshot = old.snapshot }
      behind_read =
          let next : group.number ≡ length now.list + 1 = next_number allowed in
          let longer : length list ≡ length old.list + 1 = ap length pushed ∙ length-append old.list (group ∷ []) in
          let same : length old.list ≡ length now.list = ap (λ (s : State). length s.list) is in
          let count : group.number ≡ length list = omega (arith, next, longer, same) in
          stands
          ∙ ap (λ (s : State). (row_of (standing_of s) (Offer group.number)).otherwise.cursor) (sym is)
          ∙ ap (λ b. (cond b (made (Repeat group.number) (standing_of old)) (made (Read group.number) (record { read = group.number; applied = old.applied; tables = old.marks.tables; done = old.marks.done; snapshot = old.snapshot }))).cursor) above
          ∙ ap (λ (n : ℕ). record { read = n; applied = old.applied; tables = old.marks.tables; done = old.marks.done; snapshot = old.snapshot }) count

      pub read-value : ◌≡◌ {A = State} (record { plan = old.plan; list = list; applied = cursor.applied; marks = old.marks; snapshot = cursor.snapshot }) (state_after now (offer group))
      read-value = ap (λ (c : Standing). record { plan = old.plan; list = list; applied = c.applied; marks = old.marks; snapshot = c.snapshot }) behind_read ∙ offered-value

      pub read-stream : FirstGroupsKeep → IsPrepared group → IsStreamAt (record { plan = old.plan; list = list; applied = cursor.applied; marks = old.marks; snapshot = cursor.snapshot }) cursor imaged image
      read-stream first prepared =
          subst (λ (c : Standing). IsStreamAt (record { plan = old.plan; list = list; applied = c.applied; marks = old.marks; snapshot = c.snapshot }) c imaged image) (sym behind_read)
          (record { stands = refl; stream = offered-stream first allowed prepared })

  -- ---- a restart

  module _ (list : List PreparedValue) (cut : list ≡ take old.applied old.list) where
    restarted-value : ◌≡◌ {A = State} (record { plan = old.plan; list = list; applied = old.applied; marks = old.marks; snapshot = None }) (state_after now restart)
    restarted-value =
        ap (λ (gs : List PreparedValue). record { plan = old.plan; list = gs; applied = old.applied; marks = old.marks; snapshot = None }) cut
        ∙ ap (λ (s : State). state_after s restart) is

    restarted-stream : (empty : ImageRows) → IsPassed list 0 empty → IsStream (record { plan = old.plan; list = list; applied = old.applied; marks = old.marks; snapshot = None }) 0 empty
    restarted-stream empty kept = record {
      sound = subst (λ (s : State). IsSoundState s) (sym restarted-value) (sound now restart (subst (λ (s : State). IsSoundState s) is inv.sound) (may-restart now) tt);
      kept = kept;
      within = omega arith;
      opened = tt;
    }

    module _ (cursor : Standing) (stands : cursor ≡ (row_of (standing_of now) Restart).otherwise.cursor) where
      -- the move of the step table is behind the applied groups
      behind_applied : cursor ≡ record { read = length list; applied = old.applied; tables = old.marks.tables; done = old.marks.done; snapshot = None }
      behind_applied =
          let count : length list ≡ old.applied = ap length cut ∙ length-take-le old.applied old.list inv.sound.standing.applied in
          stands
          ∙ ap (λ (s : State). (row_of (standing_of s) Restart).otherwise.cursor) (sym is)
          ∙ ap (λ (n : ℕ). record { read = n; applied = old.applied; tables = old.marks.tables; done = old.marks.done; snapshot = None }) (sym count)

      pub restart-value : ◌≡◌ {A = State} (record { plan = old.plan; list = list; applied = cursor.applied; marks = old.marks; snapshot = cursor.snapshot }) (state_after now restart)
      restart-value = ap (λ (c : Standing). record { plan = old.plan; list = list; applied = c.applied; marks = old.marks; snapshot = c.snapshot }) behind_applied ∙ restarted-value

      pub restart-stream : (empty : ImageRows) → IsPassed list 0 empty → IsStreamAt (record { plan = old.plan; list = list; applied = cursor.applied; marks = old.marks; snapshot = cursor.snapshot }) cursor 0 empty
      restart-stream empty kept =
          subst (λ (c : Standing). IsStreamAt (record { plan = old.plan; list = list; applied = c.applied; marks = old.marks; snapshot = c.snapshot }) c 0 empty) (sym behind_applied)
          (record { stands = refl; stream = restarted-stream empty kept })

  -- ---- an applied group

  -- the next group is read
  pub next-within : IsAllowed now advance → old.applied + 1 ≤ length old.list
  next-within allowed = (sound old advance inv.sound (allowed_here (λ s. IsAllowed s advance) allowed) tt).standing.applied
