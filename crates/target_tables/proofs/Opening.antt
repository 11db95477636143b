-- Rising changes that are put into an open page, whose entries behind a place lie apart.
use Rattle.std.proofs.Common.{◌≡◌, ℕ, ◌+◌, ◌-◌, ◌<◌, ◌≤◌, true, cond, List, [], ◌∷◌, ◌++◌, Option, Some, None, length, take, drop, get_or, set, reverse, refl, sym, ap, subst, ◌∙◌, arith}
use mathlib.Core.Bool.{true≢false}
use Rattle.std.proofs.lemmas.List.{take_all, drop_more, append_assoc, take-append-drop, take-set, drop-set-lt, get_or-set_same, set-set, set-get_or, length-set, length_push, reverse-append}
use Rattle.std.proofs.lemmas.Cmp.{tied_itself}
use Rattle.std.specs.declared.cmp.Ordering.{Ordering}
use Rattle.std.specs.declared.cmp.Ordering.TheVariants.{Less, Equal, Greater}
use Rattle.std.specs.Cmp.{IsTotalOrder}
use Rattle.std.specs.List.{AllByRecursion}
use Rattle.std.specs.Ordering.{ordering_reverse, is_gt, eq_by_cmp, flip_args}
use Rattle.list_laws.proofs.Fronts.{each}
use Rattle.target_tables.specs.Rising.{IsRising, AreBelow, AreAbove}
use Rattle.target_tables.specs.Contents.{value_at}
use Rattle.target_tables.specs.Pages.{entries_of, page_at, begins_past}
use Rattle.target_tables.specs.Touches.{change_at, touched, is_new, new_keys, IsChanged}
use Rattle.target_tables.specs.Private.Runs.{lower_part, opened, Leads, IsOpen, MergesOn}
use Rattle.target_tables.proofs.Order.{all_left, all_right, all_join, before_middle, behind_middle, ordered_left, ordered_with}
use Rattle.target_tables.proofs.Paging.{before, behind, parts, parts_set}
use Rattle.target_tables.proofs.Values.{put_in, absent}
use Rattle.target_tables.proofs.Committing.{taken_apart, leads_at_first, leads_on, new_left}
use Rattle.target_tables.proofs.Falling.{above_page}

module _ {X : Type 0} (pages : List (List X)) (i : ℕ) (inside : i < length pages) where
  -- what lies open where a page is put in place of another
  pub opened_set : (q above : List X) → opened (set pages i q) i above ≡ before pages i ++ (q ++ (reverse above ++ behind pages i))
  opened_set q above =
      ap (λ (l : List (List X)). entries_of l ++ (page_at (set pages i q) i ++ (reverse above ++ entries_of (drop (i + 1) (set pages i q))))) (take-set pages i q)
      ∙ ap (λ (l : List X). before pages i ++ (l ++ (reverse above ++ entries_of (drop (i + 1) (set pages i q))))) (get_or-set_same pages i q [] inside)
      ∙ ap (λ (l : List (List X)). before pages i ++ (q ++ (reverse above ++ entries_of l))) (drop-set-lt (i + 1) pages i q (omega arith))

  pub lower_set : (q : List X) → lower_part (set pages i q) i ≡ before pages i ++ q
  lower_set q =
      ap (λ (l : List (List X)). entries_of l ++ page_at (set pages i q) i) (take-set pages i q)
      ∙ ap (λ (l : List X). before pages i ++ l) (get_or-set_same pages i q [] inside)

  -- opening a page keeps the entries
  pub opened_at : (p : ℕ) (above : List X) → reverse above ≡ drop p (page_at pages i) → opened (set pages i (take p (page_at pages i))) i above ≡ entries_of pages
  opened_at p above is =
      opened_set (take p (page_at pages i)) above
      ∙ ap (λ (l : List X). before pages i ++ (take p (page_at pages i) ++ (l ++ behind pages i))) is
      ∙ ap (λ (l : List X). before pages i ++ l) (sym (append_assoc (take p (page_at pages i)) (drop p (page_at pages i)) (behind pages i)))
      ∙ ap (λ (l : List X). before pages i ++ (l ++ behind pages i)) (take-append-drop p (page_at pages i))
      ∙ sym (parts pages i inside)

  -- and so does closing it
  pub closed : (above : List X) → entries_of (set pages i (page_at pages i ++ reverse above)) ≡ opened pages i above
  closed above =
      parts_set pages i inside (page_at pages i ++ reverse above)
      ∙ ap (λ (l : List X). before pages i ++ l) (append_assoc (page_at pages i) (reverse above) (behind pages i))

  -- entries that are moved back keep their order
  pub opened_passed : (q above over : List X) → q ++ reverse above ≡ page_at pages i ++ reverse over → opened (set pages i q) i above ≡ opened pages i over
  opened_passed q above over same =
      opened_set q above
      ∙ ap (λ (l : List X). before pages i ++ l) (sym (append_assoc q (reverse above) (behind pages i)))
      ∙ ap (λ (l : List X). before pages i ++ (l ++ behind pages i)) same
      ∙ ap (λ (l : List X). before pages i ++ l) (append_assoc (page_at pages i) (reverse over) (behind pages i))

-- the entries before the place and those behind it
pub halves : {X : Type 0} (pages : List (List X)) (i : ℕ) (above : List X) → opened pages i above ≡ lower_part pages i ++ (reverse above ++ behind pages i)
halves pages i above = sym (append_assoc (before pages i) (page_at pages i) (reverse above ++ behind pages i))

-- one for a row at a new key
abbrev counted : {R : Type 0} → Option R → Option (ℕ × R) → ℕ
counted row there = cond (is_new row there) 1 0

-- one entry more before the place
with_one : {X : Type 0} (front page back : List X) (e : X) → front ++ ((page ++ e ∷ []) ++ back) ≡ (front ++ page) ++ e ∷ back
with_one {X} front page back e = ap (λ (l : List X). front ++ l) (append_assoc page (e ∷ []) back) ∙ sym (append_assoc front page (e ∷ back))

module _ {K R : Type 0} {cmp : K → K → Ordering} (o : IsTotalOrder cmp) where
  above_less : (d k : K) (xs : List (K × Option R)) → cmp d k ≡ Less → AreAbove cmp k xs → AreAbove cmp d xs
  above_less d k xs less h = each (λ x. cmp k x.0 ≡ Less) (λ x. cmp d x.0 ≡ Less) (λ x l. o.trans d k x.0 less l) xs h

  module _ (left : List (K × Option R)) (x : K × Option R) (falling : IsRising (flip_args cmp) (left ++ x ∷ [])) where
    pub greater : AreAbove cmp x.0 left
    greater = before_middle (λ a b. flip_args cmp a b ≡ Less) left x [] falling

    -- what lies below the next change lies below all that are left
    pub front_all : (es : List (K × (ℕ × R))) → AreBelow cmp x.0 es → AllByRecursion (λ e. AreAbove cmp e.0 (left ++ x ∷ [])) es
    front_all es below =
        each (λ e. cmp e.0 x.0 ≡ Less) (λ e. AreAbove cmp e.0 (left ++ x ∷ []))
        (λ e less. all_join (λ y. cmp e.0 y.0 ≡ Less) left (x ∷ []) (above_less e.0 x.0 left less greater) (less, tt)) es below

    front_left : (es : List (K × (ℕ × R))) → AreBelow cmp x.0 es → AllByRecursion (λ e. AreAbove cmp e.0 left) es
    front_left es below = each (λ e. cmp e.0 x.0 ≡ Less) (λ e. AreAbove cmp e.0 left) (λ e less. above_less e.0 x.0 left less greater) es below

  front_next : (left : List (K × Option R)) (x : K × Option R) (es : List (K × (ℕ × R))) → AllByRecursion (λ e. AreAbove cmp e.0 (left ++ x ∷ [])) es → AreBelow cmp x.0 es
  front_next left x es h = each (λ e. AreAbove cmp e.0 (left ++ x ∷ [])) (λ e. cmp e.0 x.0 ≡ Less) (λ e above. (all_right (λ y. cmp e.0 y.0 ≡ Less) left (x ∷ []) above).0) es h

  -- ---- one step after another

  pub merges_none : (stream i : ℕ) (pages : List (List (K × (ℕ × R)))) (above : List (K × (ℕ × R))) (left : List (K × Option R)) → IsOpen cmp pages i above left
      → MergesOn cmp stream i pages above left pages above left
  merges_none stream i pages above left fit = record {
    fit = fit;
    leads = record { falling = fit.falling; same = λ k. refl };
    count = refl;
    more = omega arith;
    same = sym (set-get_or pages i []);
  }

  pub leads_then : (stream : ℕ) (old mid now : List (K × (ℕ × R))) (all some left : List (K × Option R)) → Leads cmp old stream all some mid → Leads cmp mid stream some left now → Leads cmp old stream all left now
  leads_then stream old mid now all some left h later = record { falling = later.falling; same = λ k. later.same k ∙ h.same k }

  pub merges_then : (stream i : ℕ) (old mid now : List (List (K × (ℕ × R)))) (over aside above : List (K × (ℕ × R))) (all some left : List (K × Option R))
      → MergesOn cmp stream i old over all mid aside some → MergesOn cmp stream i mid aside some now above left → MergesOn cmp stream i old over all now above left
  merges_then stream i old mid now over aside above all some left h later = record {
    fit = later.fit;
    leads = leads_then stream (opened old i over) (opened mid i aside) (opened now i above) all some left h.leads later.leads;
    count = later.count ∙ h.count;
    more = let a : length (page_at old i) + length over ≤ length (page_at mid i) + length aside = h.more in let b : length (page_at mid i) + length aside ≤ length (page_at now i) + length above = later.more in omega (arith, a, b);
    same = later.same ∙ ap (λ (l : List (List (K × (ℕ × R)))). set l i (page_at now i)) h.same ∙ set-set old i (page_at mid i) (page_at now i);
  }

  module _ (stream i : ℕ) (pages : List (List (K × (ℕ × R)))) (left : List (K × Option R)) (x : K × Option R) where
    abbrev changes : List (K × Option R)
    changes = left ++ x ∷ []

    -- entries with lesser keys than the next change's are moved back
    pub merges_passed : (over : List (K × (ℕ × R))) → IsOpen cmp pages i over changes → (q above : List (K × (ℕ × R))) → q ++ reverse above ≡ page_at pages i ++ reverse over
        → length q + length above ≡ length (page_at pages i) + length over → (AreBelow cmp x.0 (page_at pages i) → AreBelow cmp x.0 q) → MergesOn cmp stream i pages over changes (set pages i q) above changes
    merges_passed over fit q above same count below =
        let there : page_at (set pages i q) i ≡ q = get_or-set_same pages i q [] fit.inside in
        let size : length (page_at (set pages i q) i) ≡ length q = ap length there in
        let many : length (set pages i q) ≡ length pages = length-set pages i q in
        let inside : i < length pages = fit.inside in
        let most : length (page_at pages i) + length over ≤ 128 = fit.most in
        let all : opened (set pages i q) i above ≡ opened pages i over = opened_passed pages i fit.inside q above over same in
        let Q : List (K × (ℕ × R)) → Type 0 = λ es. AllByRecursion (λ e. AreAbove cmp e.0 changes) es in
        let lesser : AreBelow cmp x.0 (lower_part pages i) = front_next left x (lower_part pages i) fit.front in
        record {
          fit = record {
            inside = omega (arith, inside, many);
            rising = subst (IsRising cmp) (sym all) fit.rising;
            falling = fit.falling;
            front = subst Q (sym (lower_set pages i fit.inside q)) (front_all left x fit.falling (before pages i ++ q)
                (all_join (λ e. cmp e.0 x.0 ≡ Less) (before pages i) q (all_left (λ e. cmp e.0 x.0 ≡ Less) (before pages i) (page_at pages i) lesser) (below (all_right (λ e. cmp e.0 x.0 ≡ Less) (before pages i) (page_at pages i) lesser))));
            most = omega (arith, size, count, most);
          };
          leads = record { falling = fit.falling; same = λ k. ap (λ (es : List (K × (ℕ × R))). touched stream (change_at cmp changes k) (value_at cmp es k)) all };
          count = let n : new_keys cmp (opened (set pages i q) i above) changes ≡ new_keys cmp (opened pages i over) changes = ap (λ (es : List (K × (ℕ × R))). new_keys cmp es changes) all in omega (arith, n, size, count);
          more = omega (arith, size, count);
          same = sym (ap (λ (l : List (K × (ℕ × R))). set pages i l) there);
        }

    -- the next change's row is put behind them
    module _ (above : List (K × (ℕ × R))) (fit : IsOpen cmp pages i above changes) (row : R) (is : x.1 ≡ Some row) (room : length (page_at pages i) + length above < 128) (greatest : AreAbove cmp x.0 (reverse above ++ behind pages i)) where
      abbrev entry : K × (ℕ × R)
      entry = (x.0, (stream, row))

      abbrev next : List (List (K × (ℕ × R)))
      next = set pages i (page_at pages i ++ entry ∷ [])

      abbrev now : List (K × (ℕ × R))
      now = opened pages i above

      below : AreBelow cmp x.0 (lower_part pages i)
      below = front_next left x (lower_part pages i) fit.front

      apart : IsRising cmp (lower_part pages i ++ (reverse above ++ behind pages i))
      apart = subst (IsRising cmp) (halves pages i above) fit.rising

      put : opened next i above ≡ lower_part pages i ++ entry ∷ (reverse above ++ behind pages i)
      put = opened_set pages i fit.inside (page_at pages i ++ entry ∷ []) above ∙ with_one (before pages i) (page_at pages i) (reverse above ++ behind pages i) entry

      changed : IsChanged cmp now stream x (opened next i above)
      changed q =
          ap (λ (es : List (K × (ℕ × R))). value_at cmp es q) put
          ∙ put_in o (lower_part pages i) (reverse above ++ behind pages i) x.0 (stream, row) below q
          ∙ ap (λ (es : List (K × (ℕ × R))). cond (eq_by_cmp cmp x.0 q) (Some (stream, row)) (value_at cmp es q)) (sym (halves pages i above))
          ∙ ap (λ (v : Option R). cond (eq_by_cmp cmp x.0 q) (touched stream (Some v) (value_at cmp now q)) (value_at cmp now q)) (sym is)

      nothing_there : value_at cmp now x.0 ≡ None
      nothing_there =
          ap (λ (es : List (K × (ℕ × R))). value_at cmp es x.0) (halves pages i above)
          ∙ absent o (lower_part pages i) (reverse above ++ behind pages i) x.0 x.0 below greatest (tied_itself o x.0)

      one : counted x.1 (value_at cmp now x.0) ≡ 1
      one = ap (λ (v : Option R). counted v (value_at cmp now x.0)) is ∙ ap (λ (v : Option (ℕ × R)). counted (Some row) v) nothing_there

      pub merges_put : MergesOn cmp stream i pages above changes next above left
      merges_put =
          let there : page_at next i ≡ page_at pages i ++ entry ∷ [] = get_or-set_same pages i (page_at pages i ++ entry ∷ []) [] fit.inside in
          let size : length (page_at next i) ≡ length (page_at pages i) + 1 = ap length there ∙ length_push (page_at pages i) entry in
          let many : length next ≡ length pages = length-set pages i (page_at pages i ++ entry ∷ []) in
          let inside : i < length pages = fit.inside in
          let P : K × (ℕ × R) → Type 0 = λ e. AreAbove cmp e.0 left in
          let Q : List (K × (ℕ × R)) → Type 0 = AllByRecursion P in
          let lower : AllByRecursion P ((before pages i ++ page_at pages i) ++ entry ∷ []) =
          all_join P (before pages i ++ page_at pages i) (entry ∷ []) (front_left left x fit.falling (before pages i ++ page_at pages i) below) (greater left x fit.falling, tt) in
          let keys : new_keys cmp now changes ≡ new_keys cmp (opened next i above) left + counted x.1 (value_at cmp now x.0) = new_left o stream left x now (opened next i above) fit.falling changed in
          let e : counted x.1 (value_at cmp now x.0) ≡ 1 = one in
          record {
            fit = record {
              inside = omega (arith, inside, many);
              rising = subst (IsRising cmp) (sym put) (ordered_with (λ a b. cmp a b ≡ Less) (lower_part pages i) entry (reverse above ++ behind pages i) apart below greatest);
              falling = ordered_left (λ a b. flip_args cmp a b ≡ Less) left (x ∷ []) fit.falling;
              front = subst Q (sym (lower_set pages i fit.inside (page_at pages i ++ entry ∷ []) ∙ sym (append_assoc (before pages i) (page_at pages i) (entry ∷ [])))) lower;
              most = omega (arith, size, room);
            };
            leads = leads_on o stream left x now (opened next i above) fit.falling changed now changes (leads_at_first o now stream changes fit.falling);
            count = omega (arith, keys, e, size);
            more = omega (arith, size);
            same = sym (ap (λ (l : List (K × (ℕ × R))). set pages i l) there);
          }

  -- ---- what lies apart

  pub above_last : (k : K) (upper front back : List (K × (ℕ × R))) (e : K × (ℕ × R)) → upper ≡ front ++ e ∷ [] → IsRising cmp (reverse upper ++ back) → cmp e.0 k ≡ Greater → AreAbove cmp k (reverse upper ++ back)
  above_last k upper front back e is rising greatest =
      let turned : reverse upper ≡ e ∷ reverse front = ap (λ (l : List (K × (ℕ × R))). reverse l) is ∙ reverse-append front (e ∷ []) in
      let less : cmp k e.0 ≡ Less = o.antisymm k e.0 ∙ ap ordering_reverse greatest in
      let first : IsRising cmp (e ∷ (reverse front ++ back)) = subst (λ (l : List (K × (ℕ × R))). IsRising cmp (l ++ back)) turned rising in
      let Q : List (K × (ℕ × R)) → Type 0 = λ l. AreAbove cmp k (l ++ back) in
      subst Q (sym turned) (less, each (λ f. cmp e.0 f.0 ≡ Less) (λ f. cmp k f.0 ≡ Less) (λ f l. o.trans k e.0 f.0 less l) (reverse front ++ back) first.0)

  pub above_read : (k : K) (upper back : List (K × (ℕ × R))) (x : K × (ℕ × R)) → 0 < length upper → x ≡ get_or upper (length upper - 1) x → IsRising cmp (reverse upper ++ back) → cmp x.0 k ≡ Greater
      → AreAbove cmp k (reverse upper ++ back)
  above_read k upper back x some is rising greatest =
      let whole : upper ≡ take (length upper - 1) upper ++ x ∷ [] = sym (take_all (length upper) upper (omega arith)) ∙ taken_apart upper (length upper) x some (omega arith) is in
      above_last k upper (take (length upper - 1) upper) back x whole rising greatest

  pub nothing_apart : (k : K) (upper : List (K × (ℕ × R))) (later : List (List (K × (ℕ × R)))) → upper ≡ [] → later ≡ [] → AreAbove cmp k (reverse upper ++ entries_of later)
  nothing_apart k upper later none last =
      let P : List (K × (ℕ × R)) → Type 0 = λ l. AreAbove cmp k (reverse l ++ entries_of later) in
      let Q : List (List (K × (ℕ × R))) → Type 0 = λ l. AreAbove cmp k (entries_of l) in
      subst P (sym none) (subst Q (sym last) tt)

  -- the next page begins past the key
  pub next_past : (k : K) (upper : List (K × (ℕ × R))) (pages : List (List (K × (ℕ × R)))) (i : ℕ) → upper ≡ [] → i < length pages → IsRising cmp (reverse upper ++ entries_of (drop i pages))
      → begins_past cmp k (page_at pages i) ≡ true → AreAbove cmp k (reverse upper ++ entries_of (drop i pages))
  next_past k upper pages i none inside rising past =
      let there : drop i pages ≡ page_at pages i ∷ drop (i + 1) pages = drop_more pages i [] inside in
      let P : List (K × (ℕ × R)) → Type 0 = λ l. AreAbove cmp k (reverse l ++ entries_of (drop i pages)) in
      let Q : List (List (K × (ℕ × R))) → Type 0 = λ l. AreAbove cmp k (entries_of l) in
      let S : List (K × (ℕ × R)) → Type 0 = λ l. IsRising cmp (reverse l ++ entries_of (drop i pages)) in
      let T : List (List (K × (ℕ × R))) → Type 0 = λ l. IsRising cmp (entries_of l) in
      subst P (sym none) (subst Q (sym there) (above_page o k (page_at pages i) (entries_of (drop (i + 1) pages)) (subst T there (subst S none rising)) past))

pub only_greater : (r : Ordering) → is_gt r ≡ true → r ≡ Greater
only_greater Less e = absurd (true≢false (sym e))
only_greater Equal e = absurd (true≢false (sym e))
only_greater Greater e = refl
