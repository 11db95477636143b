-- Streams put together: the puts of a stream's rows, and one stream more.
use Rattle.std.proofs.Common.{◌≡◌, ◌≢◌, ◌==◌, ℕ, ◌+◌, ◌<◌, ◌⊎◌, inl, inr, Bool, true, false, cond, List, [], ◌∷◌, ◌++◌, length, map, Option, Some, None, slice_get, refl, sym, ap, subst, ◌∙◌, add-zero, lt_irrefl, arith}
use Rattle.std.proofs.lemmas.Bool.{ne_eqb}
use Rattle.std.proofs.lemmas.Cmp.{tied_back}
use Rattle.std.proofs.lemmas.Option.{none-some, slice_get_within}
use Rattle.std.specs.declared.cmp.Ordering.TheVariants.{Equal}
use Rattle.std.specs.Cmp.{Equal-is}
use Rattle.std.specs.Option.{option_or, option_map}
use Rattle.std.specs.Ordering.{eq_by_cmp}
use Rattle.list_laws.proofs.Places.{slice_get-push}
use Rattle.pk_copy.specs.KeyOrder.{key_cmp}
use Rattle.pk_copy.specs.KeyOrderLaws.{key_cmp_total}
use Rattle.pk_copy.specs.KeyValue.{KeyValue}
use Rattle.target_tables.specs.declared.fault.TableFault.{TableFault}
use Rattle.target_tables.specs.declared.fault.TableFault.TheVariants as table
use Rattle.target_tables.specs.Clashes.{IsRefusal}
use Rattle.target_tables.specs.Contents.{value_at}
use Rattle.target_tables.specs.Rising.{IsRising}
use Rattle.target_tables.specs.Touches.{last_at, touched, owner_in_the_way, NoneInTheWay, IsLeastClash, IsTouched}
use Rattle.target_tables.proofs.Values.{none_above}
use Rattle.source_feed.specs.History.{RowValue}
use Rattle.board_laws.specs.Meaning.{State, TargetRows}
use Rattle.board_laws.specs.Cut.{cut_of, own_row}
use Rattle.board_laws.specs.Step.{due_at}
use Rattle.board_laws.proofs.Lookups.{Ties, same_rows}
use Rattle.board_laws.proofs.OwnPart.{only}
use Rattle.board_laws.specs.Joined.{rows_from}
use Rattle.board_laws.specs.Compatible.{AreApart}
use Rattle.board_laws.proofs.JoinedRows.{row_of_one, rising_from, value_from, IsRowOf, whose, some_row}
use Rattle.apply_core.specs.Private.Together.{AreTogether, ArePutsOfCut, IsNotPut}

-- ---- the rows of one stream as puts

-- an entry, put
abbrev pub put_entry : KeyValue × (ℕ × RowValue) → KeyValue × Option RowValue
put_entry e = (e.0, Some e.1.1)

last_of_rows : (rows : TargetRows) (k : KeyValue) → IsRising key_cmp rows → last_at key_cmp (map put_entry rows) k ≡ option_map (λ (there : ℕ × RowValue). Some there.1) (value_at key_cmp rows k)
last_of_rows [] k h = refl
last_of_rows (x ∷ rows) k h =
    ap (λ (v : Option (Option RowValue)). option_or v (cond (eq_by_cmp key_cmp k x.0) (Some (Some x.1.1)) None)) (last_of_rows rows k h.1)
    ∙ by (eq_by_cmp key_cmp k x.0) refl
  where
    row : Option (ℕ × RowValue) → Option (Option RowValue)
    row o = option_map (λ (there : ℕ × RowValue). Some there.1) o

    none : (v : Option (ℕ × RowValue)) → option_or (row v) None ≡ row v
    none None = refl
    none (Some there) = refl

    by : (b : Bool) → eq_by_cmp key_cmp k x.0 ≡ b → option_or (row (value_at key_cmp rows k)) (cond b (Some (Some x.1.1)) None) ≡ row (cond b (Some x.1) (value_at key_cmp rows k))
    by true e =
        let tied : key_cmp x.0 k ≡ Equal = tied_back key_cmp_total k x.0 ((Equal-is (key_cmp k x.0)).0 e) in
        ap (λ (v : Option (ℕ × RowValue)). option_or (row v) (Some (Some x.1.1))) (none_above key_cmp_total x.0 k rows tied h.0)
    by false e = none (value_at key_cmp rows k)

of_its_own : (s : ℕ) (there : Option (ℕ × RowValue)) → option_map (λ (there : ℕ × RowValue). Some there.1) (only s there) ≡ option_map Some (own_row s there)
of_its_own s None = refl
of_its_own s (Some x) = elim (x.0 == s) as (λ b. option_map (λ (there : ℕ × RowValue). Some there.1) (cond b (Some x) None) ≡ option_map Some (cond b (Some x.1) None)) [ true ↦ refl | false ↦ refl ]

-- ---- one stream more

one_more : (s : ℕ) (lower : List State) (state : State) (k : KeyValue)
    → row_of_one s (lower ++ state ∷ []) k ≡ option_or (option_map {U = ℕ × RowValue} (λ (row : RowValue). (s + length lower, row)) (cut_of state k)) (row_of_one s lower k)
one_more s [] state k = by (cut_of state k)
  where
    at : RowValue → ℕ → Option (ℕ × RowValue)
    at row n = Some (n, row)

    by : (c : Option RowValue) → option_map {U = ℕ × RowValue} (λ (row : RowValue). (s, row)) c ≡ option_or (option_map {U = ℕ × RowValue} (λ (row : RowValue). (s + 0, row)) c) None
    by None = refl
    by (Some row) = ap (at row) (sym (add-zero s))
one_more s (x ∷ lower) state k =
    ap (λ (o : Option (ℕ × RowValue)). option_or o (option_map {U = ℕ × RowValue} (λ (row : RowValue). (s, row)) (cut_of x k))) (one_more (s + 1) lower state k)
    ∙ by (cut_of state k) (row_of_one (s + 1) lower k) (option_map {U = ℕ × RowValue} (λ (row : RowValue). (s, row)) (cut_of x k))
  where
    number : s + 1 + length lower ≡ s + length (x ∷ lower)
    number = omega arith

    at : RowValue → ℕ → Option (ℕ × RowValue)
    at row n = Some (n, row)

    by : (c : Option RowValue) (later first : Option (ℕ × RowValue))
        → option_or (option_or (option_map {U = ℕ × RowValue} (λ (row : RowValue). (s + 1 + length lower, row)) c) later) first ≡ option_or (option_map {U = ℕ × RowValue} (λ (row : RowValue). (s + length (x ∷ lower), row)) c) (option_or later first)
    by None later first = refl
    by (Some row) later first = ap (at row) number

due-touched : (s : ℕ) (c : Option RowValue) (there : Option (ℕ × RowValue)) → touched s (option_map Some c) there ≡ option_or (option_map {U = ℕ × RowValue} (λ (row : RowValue). (s, row)) c) there
due-touched s None there = refl
due-touched s (Some row) there = refl

in_the_way : (s : ℕ) (row : RowValue) (x : ℕ × RowValue) → x.0 ≢ s → owner_in_the_way s (Some (Some row)) (Some x) ≡ None → ⊥
in_the_way s row x other clear = none-some x.0 (sym clear ∙ ap (λ b. cond b None (Some x.0)) (ne_eqb x.0 s other))

module _ (ties : Ties) (lower : List State) (state : State) where
  -- where no row is in the way of the next stream's the streams share no key
  still-apart : AreApart lower → NoneInTheWay key_cmp (rows_from 0 lower) (length lower) (due_at state) → AreApart (lower ++ state ∷ [])
  still-apart apart clear s t x y key p q c d = by (slice_get-push lower state x s p) (slice_get-push lower state y t q)
    where
      meets : (i : ℕ) (z w : State) → i < length lower → slice_get lower i ≡ Some z → cut_of z key ≢ None → cut_of state key ≢ None → ⊥
      meets i z w less at cut mine = against (row_of_one 0 lower key) refl (cut_of state key) refl
        where
          against : (o : Option (ℕ × RowValue)) → row_of_one 0 lower key ≡ o → (m : Option RowValue) → cut_of state key ≡ m → ⊥
          against None e m f = some_row 0 lower key i z at cut e
          against (Some v) e None f = mine f
          against (Some v) e (Some row) f =
              let of : IsRowOf 0 lower key v = whose 0 lower key v e in
              let number : v.0 ≡ 0 + of.place = of.number in
              let inside : of.place < length lower = slice_get_within lower of.place of.state of.here in
              in_the_way (length lower) row v (λ same. lt_irrefl (length lower) (subst (λ n. n < length lower) (let n : of.place ≡ v.0 = omega (arith, number) in n ∙ same) inside))
              (ap (λ (c : Option RowValue). owner_in_the_way (length lower) (option_map Some c) (Some v)) (sym f) ∙ ap (λ (o : Option (ℕ × RowValue)). owner_in_the_way (length lower) (due_at state key) o) (sym (value_from ties 0 lower key ∙ e)) ∙ clear key)

      by : ((s < length lower) × (slice_get lower s ≡ Some x)) ⊎ ((s ≡ length lower) × (state ≡ x)) → ((t < length lower) × (slice_get lower t ≡ Some y)) ⊎ ((t ≡ length lower) × (state ≡ y)) → s ≡ t
      by (inl one) (inl other) = apart s t x y key one.1 other.1 c d
      by (inl one) (inr other) = absurd (meets s x x one.0 one.1 c (λ n. d (ap (λ (z : State). cut_of z key) (sym other.1) ∙ n)))
      by (inr one) (inl other) = absurd (meets t y y other.0 other.1 d (λ n. c (ap (λ (z : State). cut_of z key) (sym one.1) ∙ n)))
      by (inr one) (inr other) = one.0 ∙ sym other.0

  pub one-together : (s : ℕ) (old new : TargetRows) (puts : List (KeyValue × Option RowValue)) → length lower ≡ s → AreTogether lower old → ArePutsOfCut state puts
      → NoneInTheWay key_cmp old s (last_at key_cmp puts) → IsTouched key_cmp old s (last_at key_cmp puts) new → IsRising key_cmp new → AreTogether (lower ++ state ∷ []) new
  one-together s old new puts long together due clear values rising =
      record {
        apart = still-apart together.apart
            (λ k.
            ap (λ (o : Option (Option RowValue)). owner_in_the_way (length lower) o (value_at key_cmp (rows_from 0 lower) k)) (sym (due k))
            ∙ ap (λ n. owner_in_the_way n (last_at key_cmp puts k) (value_at key_cmp (rows_from 0 lower) k)) long
            ∙ ap (λ (rows : TargetRows). owner_in_the_way s (last_at key_cmp puts k) (value_at key_cmp rows k)) (sym together.target)
            ∙ clear k);
        target = same_rows ties new (rows_from 0 (lower ++ state ∷ [])) rising (rising_from 0 (lower ++ state ∷ []))
            (λ k.
            values k
            ∙ ap (λ (o : Option (Option RowValue)). touched s o (value_at key_cmp old k)) (due k)
            ∙ due-touched s (cut_of state k) (value_at key_cmp old k)
            ∙ ap (λ (n : ℕ). option_or (option_map {U = ℕ × RowValue} (λ (row : RowValue). (n, row)) (cut_of state k)) (value_at key_cmp old k)) (sym long)
            ∙ ap (λ (rows : TargetRows). option_or (option_map {U = ℕ × RowValue} (λ (row : RowValue). (length lower, row)) (cut_of state k)) (value_at key_cmp rows k)) together.target
            ∙ ap (λ (o : Option (ℕ × RowValue)). option_or (option_map {U = ℕ × RowValue} (λ (row : RowValue). (length lower, row)) (cut_of state k)) o) (value_from ties 0 lower k)
            ∙ zero_more k
            ∙ sym (value_from ties 0 (lower ++ state ∷ []) k));
      }
    where
      zero_more : (k : KeyValue) → option_or (option_map {U = ℕ × RowValue} (λ (row : RowValue). (length lower, row)) (cut_of state k)) (row_of_one 0 lower k) ≡ row_of_one 0 (lower ++ state ∷ []) k
      zero_more k =
          ap (λ (n : ℕ). option_or (option_map {U = ℕ × RowValue} (λ (row : RowValue). (n, row)) (cut_of state k)) (row_of_one 0 lower k)) (let n : length lower ≡ 0 + length lower = omega arith in n)
          ∙ sym (one_more 0 lower state k)

  -- who is in the way of the puts is in the way of the rows that are due
  not-together : (s : ℕ) (old : TargetRows) (puts : List (KeyValue × Option RowValue)) (key : KeyValue) (owner : ℕ) → length lower ≡ s → AreTogether lower old → ArePutsOfCut state puts
      → IsLeastClash key_cmp old s (last_at key_cmp puts) key owner → IsLeastClash key_cmp (rows_from 0 lower) (length lower) (due_at state) key owner
  not-together s old puts key owner long together due clash = record {
    here = sym (same key) ∙ clash.here;
    none_less = λ k less. sym (same k) ∙ clash.none_less k less;
  }
    where
      same : (k : KeyValue) → owner_in_the_way s (last_at key_cmp puts k) (value_at key_cmp old k) ≡ owner_in_the_way (length lower) (due_at state k) (value_at key_cmp (rows_from 0 lower) k)
      same k =
          ap (λ (n : ℕ). owner_in_the_way n (last_at key_cmp puts k) (value_at key_cmp old k)) (sym long)
          ∙ ap (λ (rows : TargetRows). owner_in_the_way (length lower) (last_at key_cmp puts k) (value_at key_cmp rows k)) together.target
          ∙ ap (λ (o : Option (Option RowValue)). owner_in_the_way (length lower) o (value_at key_cmp (rows_from 0 lower) k)) (due k)

  pub not_put : (s : ℕ) (old : TargetRows) (puts : List (KeyValue × Option RowValue)) (fault : TableFault KeyValue) → length lower ≡ s → AreTogether lower old → ArePutsOfCut state puts
      → IsRefusal key_cmp old s (last_at key_cmp puts) fault → IsNotPut lower state fault
  not_put s old puts (table.OwnedByOther key owner) long together due clash = not-together s old puts key owner long together due clash
  not_put s old puts table.Memory long together due none = tt

-- ---- what is gone over
