-- The list of kept rows is the rows that a history keeps.
use Rattle.std.proofs.Common.{◌≡◌, ℕ, Bool, true, false, cond, ◌||◌, List, [], ◌∷◌, take, Option, Some, None, Ordering, refl, sym, ap, ◌∙◌}
use Rattle.std.proofs.lemmas.Bool.{true≢false}
use Rattle.std.proofs.lemmas.Cmp.{alike_right}
use Rattle.std.specs.declared.cmp.Ordering.TheVariants.{Less, Equal, Greater}
use Rattle.std.specs.List.{AllByRecursion, cons_option, filter_map, list_any}
use Rattle.std.specs.Map.{lookup}
use Rattle.std.specs.Option.{option_or, option_map, option_and_then}
use Rattle.std.specs.Ordering.{ordering_reverse, is_eq, match_ordering}
use Rattle.list_laws.proofs.Fronts.{each}
use Rattle.pk_copy.specs.KeyOrder.{key_cmp}
use Rattle.pk_copy.specs.KeyOrderLaws.{key_cmp_total}
use Rattle.pk_copy.specs.KeyValue.{KeyValue}
use Rattle.target_tables.specs.Rising.{IsRising}
use Rattle.target_tables.specs.Touches.{last_at}
use Rattle.source_feed.specs.History.{RowValue, touches_in, passed_at, passing, IsPassed}
use Rattle.source_feed.specs.Image.{ImageRows}
use Rattle.source_feed.specs.Touches.{PutValue, TouchValue, PreparedValue}
use Rattle.board_laws.specs.KeptRows.{with_key, touched_keys, passed_rows}
use Rattle.board_laws.proofs.Lookups.{Ties, is_key, same_key, same_rows}

-- ---- rising keys

abbrev AreAbove : KeyValue → List KeyValue → Type 0
AreAbove k = AllByRecursion (λ later. key_cmp k later ≡ Less)

-- the keys rise
abbrev RisingKeys : List KeyValue → Type 0
RisingKeys [] = Unit {0}
RisingKeys (k ∷ ks) = AreAbove k ks × RisingKeys ks

above_with : (k new : KeyValue) (ks : List KeyValue) → key_cmp k new ≡ Less → AreAbove k ks → AreAbove k (with_key new ks)
above_with k new [] less above = (less, tt)
above_with k new (first ∷ ks) less above = by (key_cmp new first) (above_with k new ks less above.1)
  where
    by : (r : Ordering) → AreAbove k (with_key new ks) → AreAbove k (match_ordering r (new ∷ first ∷ ks) (first ∷ ks) (first ∷ with_key new ks))
    by Less rest = (less, above)
    by Equal rest = above
    by Greater rest = (above.0, rest)

rising_with : (new : KeyValue) (ks : List KeyValue) → RisingKeys ks → RisingKeys (with_key new ks)
rising_with new [] h = (tt, tt)
rising_with new (first ∷ ks) h = by (rising_with new ks h.1) (key_cmp new first) refl
  where
    by : RisingKeys (with_key new ks) → (r : Ordering) → key_cmp new first ≡ r → RisingKeys (match_ordering r (new ∷ first ∷ ks) (first ∷ ks) (first ∷ with_key new ks))
    by rest Less e = ((e, each (λ later. key_cmp first later ≡ Less) (λ later. key_cmp new later ≡ Less) (λ later less. key_cmp_total.trans new first later e less) ks h.0), h)
    by rest Equal e = h
    by rest Greater e = (above_with first new ks (key_cmp_total.antisymm first new ∙ ap ordering_reverse e) h.0, rest)

rising_touched : (touches : List TouchValue) → RisingKeys (touched_keys touches)
rising_touched [] = tt
rising_touched (touch ∷ later) = rising_with touch.0 (touched_keys later) (rising_touched later)

-- ---- which keys are touched

any_with : (q new : KeyValue) (ks : List KeyValue) → list_any (is_key q) (with_key new ks) ≡ (is_key q new || list_any (is_key q) ks)
any_with q new [] = refl
any_with q new (first ∷ ks) = by (any_with q new ks) (key_cmp new first) refl
  where
    swap : (a b c : Bool) → (a || (b || c)) ≡ (b || (a || c))
    swap true true c = refl
    swap true false c = refl
    swap false true c = refl
    swap false false c = refl

    again : (a c : Bool) → (a || c) ≡ (a || (a || c))
    again true c = refl
    again false c = refl

    by : list_any (is_key q) (with_key new ks) ≡ (is_key q new || list_any (is_key q) ks) → (r : Ordering) → key_cmp new first ≡ r
        → list_any (is_key q) (match_ordering r (new ∷ first ∷ ks) (first ∷ ks) (first ∷ with_key new ks)) ≡ (is_key q new || (is_key q first || list_any (is_key q) ks))
    by rest Less e = refl
    by rest Equal e =
        let same : is_key q new ≡ is_key q first = ap is_eq (alike_right key_cmp_total new first q e) in
        again (is_key q first) (list_any (is_key q) ks) ∙ ap (λ b. b || (is_key q first || list_any (is_key q) ks)) (sym same)
    by rest Greater e = ap (λ b. is_key q first || b) rest ∙ swap (is_key q first) (is_key q new) (list_any (is_key q) ks)

-- a key that isn't among the touched ones has no touch
untouched : (touches : List TouchValue) (q : KeyValue) → list_any (is_key q) (touched_keys touches) ≡ false → last_at key_cmp touches q ≡ None
untouched [] q h = refl
untouched (touch ∷ later) q h =
    let parts : (is_key q touch.0 || list_any (is_key q) (touched_keys later)) ≡ false = sym (any_with q touch.0 (touched_keys later)) ∙ h in
    ap (λ (v : Option (Option PutValue)). option_or v (cond (is_key q touch.0) (Some touch.1) None)) (untouched later q (right (is_key q touch.0) _ parts))
    ∙ ap (λ b. cond b (Some touch.1) None) (left (is_key q touch.0) _ parts)
  where
    left : (a b : Bool) → (a || b) ≡ false → a ≡ false
    left true b h = absurd (true≢false h)
    left false b h = refl

    right : (a b : Bool) → (a || b) ≡ false → b ≡ false
    right true b h = absurd (true≢false h)
    right false b h = h

-- ---- keys with what stands there

module _ (at : KeyValue → Option RowValue) where
  abbrev row_of : KeyValue → Option (KeyValue × RowValue)
  row_of k = option_map (λ row. (k, row)) (at k)

  abbrev rows_at : List KeyValue → ImageRows
  rows_at = filter_map row_of

  above_rows : (k : KeyValue) (ks : List KeyValue) → AreAbove k ks → AllByRecursion (λ later. key_cmp k later.0 ≡ Less) (rows_at ks)
  above_rows k [] h = tt
  above_rows k (first ∷ ks) h = by (at first) (above_rows k ks h.1)
    where
      by : (o : Option RowValue) → AllByRecursion (λ later. key_cmp k later.0 ≡ Less) (rows_at ks) → AllByRecursion (λ later. key_cmp k later.0 ≡ Less) (cons_option (option_map (λ row. (first, row)) o) (rows_at ks))
      by None rest = rest
      by (Some row) rest = (h.0, rest)

  rising_rows : (ks : List KeyValue) → RisingKeys ks → IsRising key_cmp (rows_at ks)
  rising_rows [] h = tt
  rising_rows (first ∷ ks) h = by (at first) (rising_rows ks h.1)
    where
      by : (o : Option RowValue) → IsRising key_cmp (rows_at ks) → IsRising key_cmp (cons_option (option_map (λ row. (first, row)) o) (rows_at ks))
      by None rest = rest
      by (Some row) rest = (above_rows first ks h.0, rest)

  -- the row at a key is found among those of a first key and others
  abbrev Finds : KeyValue → List KeyValue → KeyValue → Bool → Option RowValue → Type 0
  Finds first ks q b o = lookup (is_key q) (cons_option (option_map (λ row. (first, row)) o) (rows_at ks)) ≡ cond (b || list_any (is_key q) ks) (at q) None

  lookup-rows : (ties : Ties) (ks : List KeyValue) (q : KeyValue) → lookup (is_key q) (rows_at ks) ≡ cond (list_any (is_key q) ks) (at q) None
  lookup-rows ties [] q = refl
  lookup-rows ties (first ∷ ks) q = by (is_key q first) refl (at first) refl (lookup-rows ties ks q)
    where
      none : (b : Bool) → at q ≡ None → cond b (at q) None ≡ None
      none true e = e
      none false e = refl

      by : (b : Bool) → is_key q first ≡ b → (o : Option RowValue) → at first ≡ o → lookup (is_key q) (rows_at ks) ≡ cond (list_any (is_key q) ks) (at q) None → Finds first ks q (is_key q first) o
      by true e None there rest =
          let at_q : at q ≡ None = ap at (same_key ties q first e) ∙ there in
          rest ∙ none (list_any (is_key q) ks) at_q ∙ sym (none (is_key q first || list_any (is_key q) ks) at_q)
      by true e (Some row) there rest =
          ap (λ b. cond b (Some row) (lookup (is_key q) (rows_at ks))) e
          ∙ sym (ap at (same_key ties q first e) ∙ there)
          ∙ sym (ap (λ b. cond (b || list_any (is_key q) ks) (at q) None) e)
      by false e None there rest = rest ∙ sym (ap (λ b. cond (b || list_any (is_key q) ks) (at q) None) e)
      by false e (Some row) there rest =
          ap (λ b. cond b (Some row) (lookup (is_key q) (rows_at ks))) e ∙ rest ∙ sym (ap (λ b. cond (b || list_any (is_key q) ks) (at q) None) e)

-- ---- a history

-- the list of kept rows is the kept rows
pub list-is_passed : (ties : Ties) (history : List PreparedValue) (n : ℕ) → IsPassed history n (passed_rows history n)
list-is_passed ties history n =
    let touches : List TouchValue = touches_in (take n history) in
    record {
      rising = rising_rows (passed_at history n) (touched_keys touches) (rising_touched touches);
      each_key = λ q. lookup-rows (passed_at history n) ties (touched_keys touches) q ∙ whole q (list_any (is_key q) (touched_keys touches)) refl;
    }
  where
    whole : (q : KeyValue) (b : Bool) → list_any (is_key q) (touched_keys (touches_in (take n history))) ≡ b → cond b (passed_at history n q) None ≡ passed_at history n q
    whole q true e = refl
    whole q false e = sym (ap (λ (t : Option (Option PutValue)). option_and_then passing (option_and_then (λ put. put) t)) (untouched (touches_in (take n history)) q e))

-- so all rows that a history keeps are the list
pub passed-is_list : (ties : Ties) (history : List PreparedValue) (n : ℕ) (rows : ImageRows) → IsPassed history n rows → rows ≡ passed_rows history n
passed-is_list ties history n rows kept =
    let list : IsPassed history n (passed_rows history n) = list-is_passed ties history n in
    same_rows ties rows (passed_rows history n) kept.rising list.rising (λ q. kept.each_key q ∙ sym (list.each_key q))
