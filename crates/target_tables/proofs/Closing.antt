-- A page that is opened at a place, and closed again behind the rows that were put into it.
use Rattle.std.proofs.Common.{◌≡◌, ℕ, ◌+◌, ◌-◌, ◌<◌, ◌≤◌, List, [], ◌++◌, Option, length, take, drop, set, reverse, sym, ap, subst, ◌∙◌, arith}
use Rattle.std.proofs.lemmas.List.{get_or-set_same, set-set, length-set, length-append, length-reverse, length-take-le, length-drop}
use Rattle.std.proofs.lemmas.List.Elements.{All-set}
use Rattle.std.specs.declared.cmp.Ordering.{Ordering}
use Rattle.std.specs.declared.cmp.Ordering.TheVariants.{Less}
use Rattle.std.specs.List.{AllByRecursion}
use Rattle.std.specs.Ordering.{flip_args}
use Rattle.target_tables.specs.Rising.{IsRising, AreAbove}
use Rattle.target_tables.specs.Pages.{entries_of, page_at, flat, owed, room_of, IsFull, AreFull}
use Rattle.target_tables.specs.Touches.{new_keys}
use Rattle.target_tables.specs.Private.Runs.{lower_part, opened, Leads, IsOpen, MergesOn}
use Rattle.target_tables.proofs.Falling.{ordered_right}
use Rattle.target_tables.proofs.Paging.{before, behind, front}
use Rattle.target_tables.proofs.Rooms.{owed_set}
use Rattle.target_tables.proofs.Opening.{opened_at, lower_set, closed, halves}

module _ {K R : Type 0} (cmp : K → K → Ordering) where
  -- what lies apart rises, with the later pages
  pub rising_apart : (pages : List (List (K × (ℕ × R)))) (i : ℕ) (above : List (K × (ℕ × R))) (left : List (K × Option R)) → IsOpen cmp pages i above left → IsRising cmp (reverse above ++ behind pages i)
  rising_apart pages i above left fit = ordered_right (λ a b. cmp a b ≡ Less) (lower_part pages i) (reverse above ++ behind pages i) (subst (IsRising cmp) (halves pages i above) fit.rising)

  module _ (pages : List (List (K × (ℕ × R)))) (i : ℕ) (inside : i < length pages) (p : ℕ) (within : p ≤ length (page_at pages i)) (aside : List (K × (ℕ × R))) (is : reverse aside ≡ drop p (page_at pages i)) where
    abbrev cut : List (List (K × (ℕ × R)))
    cut = set pages i (take p (page_at pages i))

    cut_size : length (page_at cut i) + length aside ≡ length (page_at pages i)
    cut_size =
        let a : length (page_at cut i) ≡ length (take p (page_at pages i)) = ap length (get_or-set_same pages i (take p (page_at pages i)) [] inside) in
        let b : length (take p (page_at pages i)) ≡ p = length-take-le p (page_at pages i) within in
        let c : length aside ≡ length (drop p (page_at pages i)) = sym (length-reverse aside) ∙ ap length is in
        let d : length (drop p (page_at pages i)) ≡ length (page_at pages i) - p = length-drop p (page_at pages i) in
        omega (arith, a, b, c, d, within)

    -- changes whose keys are greater than all before the place
    pub opened_fit : (changes : List (K × Option R)) → IsRising cmp (entries_of pages) → IsRising (flip_args cmp) changes → length (page_at pages i) ≤ 128
        → AllByRecursion (λ e. AreAbove cmp e.0 changes) (take (flat pages i p) (entries_of pages)) → IsOpen cmp cut i aside changes
    opened_fit changes rising falling size lower =
        let many : length cut ≡ length pages = length-set pages i (take p (page_at pages i)) in
        let all : length (page_at cut i) + length aside ≡ length (page_at pages i) = cut_size in
        let Q : List (K × (ℕ × R)) → Type 0 = AllByRecursion (λ e. AreAbove cmp e.0 changes) in
        record {
          inside = omega (arith, inside, many);
          rising = subst (IsRising cmp) (sym (opened_at pages i inside p aside is)) rising;
          falling = falling;
          front = subst Q (front pages i inside p within ∙ sym (lower_set pages i inside (take p (page_at pages i)))) lower;
          most = omega (arith, all, size);
        }

    module _ (stream : ℕ) (changes left : List (K × Option R)) (now : List (List (K × (ℕ × R)))) (above : List (K × (ℕ × R))) (merges : MergesOn cmp stream i cut aside changes now above left) where
      abbrev whole : List (K × (ℕ × R))
      whole = page_at now i ++ reverse above

      abbrev shut : List (List (K × (ℕ × R)))
      shut = set now i whole

      kept : entries_of shut ≡ opened now i above
      kept = closed now i merges.fit.inside above

      pub shut_is : shut ≡ set pages i whole
      shut_is =
          ap (λ (l : List (List (K × (ℕ × R)))). set l i whole) merges.same
          ∙ set-set cut i (page_at now i) whole
          ∙ set-set pages i (take p (page_at pages i)) whole

      size : length whole ≡ length (page_at now i) + length above
      size = length-append (page_at now i) (reverse above) ∙ ap (λ n. length (page_at now i) + n) (length-reverse above)

      pub shut_rising : IsRising cmp (entries_of shut)
      shut_rising = subst (IsRising cmp) (sym kept) merges.fit.rising

      pub shut_leads : Leads cmp (entries_of pages) stream changes left (entries_of shut)
      shut_leads =
          let P : List (K × (ℕ × R)) → Type 0 = λ es. Leads cmp es stream changes left (opened now i above) in
          let Q : List (K × (ℕ × R)) → Type 0 = λ es. Leads cmp (entries_of pages) stream changes left es in
          subst Q (sym kept) (subst P (opened_at pages i inside p aside is) merges.leads)

      pub shut_full : AreFull pages → 1 ≤ length (page_at pages i) → AreFull shut
      shut_full full least =
          let n : length whole ≡ length (page_at now i) + length above = size in
          let m : length (page_at cut i) + length aside ≡ length (page_at pages i) = cut_size in
          let more : length (page_at cut i) + length aside ≤ length (page_at now i) + length above = merges.more in
          let most : length (page_at now i) + length above ≤ 128 = merges.fit.most in
          subst AreFull (sym shut_is) (All-set IsFull pages i whole (record { least = omega (arith, n, m, more, least); most = omega (arith, n, most) }) full)

      pub shut_room : (s : ℕ) → new_keys cmp (entries_of pages) changes ≤ room_of pages s → new_keys cmp (entries_of shut) left ≤ room_of shut s
      shut_room s h =
          let n : length whole ≡ length (page_at now i) + length above = size in
          let m : length (page_at cut i) + length aside ≡ length (page_at pages i) = cut_size in
          let a : new_keys cmp (entries_of shut) left ≡ new_keys cmp (opened now i above) left = ap (λ (es : List (K × (ℕ × R))). new_keys cmp es left) kept in
          let b : new_keys cmp (opened cut i aside) changes ≡ new_keys cmp (entries_of pages) changes = ap (λ (es : List (K × (ℕ × R))). new_keys cmp es changes) (opened_at pages i inside p aside is) in
          let c : new_keys cmp (opened now i above) left + (length (page_at now i) + length above) ≡ new_keys cmp (opened cut i aside) changes + (length (page_at cut i) + length aside) = merges.count in
          let e : owed (set pages i whole) + (length (page_at pages i) - 64) ≡ owed pages + (length whole - 64) = owed_set pages i inside whole in
          let r : room_of shut s ≡ room_of (set pages i whole) s = ap (λ (l : List (List (K × (ℕ × R)))). room_of l s) shut_is in
          let most : length (page_at now i) + length above ≤ 128 = merges.fit.most in
          let more : length (page_at cut i) + length aside ≤ length (page_at now i) + length above = merges.more in
          let left_most : new_keys cmp (entries_of shut) left ≤ room_of (set pages i whole) s = omega (arith, n, m, a, b, c, e, h, more) in
          omega (arith, left_most, r)
