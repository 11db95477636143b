-- The touches of a group said of each change and of the whole list of changes.
use Rattle.std.proofs.Common.{◌≡◌, ◌⊎◌, ℕ, zero, suc, Bool, List, [], ◌∷◌, ◌++◌, length, Option, Some, None, Result, Ok, Err, refl, sym, ap, subst, ◌∙◌, inl, inr, arith}
use Rattle.std.proofs.lemmas.Bool.{true≢false}
use Rattle.std.specs.Prelude.{slice_get, IsOk, is_ok}
use Rattle.std.specs.List.{AllByRecursion, flat_map}
use Rattle.std.proofs.lemmas.Option.{same_Some}
use Rattle.list_laws.specs.Outcome.{◌>>=◌}
use Rattle.vindex.specs.FaultNumber as filter
use Rattle.vindex.specs.declared.faults.VindexFault.{VindexFault}
use Rattle.filter_rule.specs.PlanValue.{PlanValue, passes_of}
use Rattle.pk_copy.specs.declared.fault.KeyFault.{KeyFault}
use Rattle.pk_copy.specs.FaultNumber as keys
use Rattle.pk_copy.specs.KeyValue.{KeyValue}
use Rattle.pk_copy.specs.KeyOf.{key_of}
use Rattle.source_feed.specs.declared.fault.FeedFault.{FeedFault}
use Rattle.source_feed.specs.declared.fault.FeedFault.TheVariants.{BadRow}
use Rattle.source_feed.specs.Planned.{PlannedChangeValue}
use Rattle.source_feed.specs.Sound.{ChangeRow, IsRemoval, IsPut, AreOfBefore, AreOfAfter, AreOfChange, AreOfChanges, HasKey, HasAnswer, LacksKey, LacksAnswer, IsSoundChange, FirstCause, IsFirstUnsound, TouchesByChange}
use Rattle.source_feed.specs.Touches.{TouchValue, in_group, touches_before, touches_after, touches_of_change, touches_of}

abbrev pub Answer : Type 0
Answer = Result (List TouchValue) FeedFault

-- what is told of an answer: one thing of touches, another of a fault
abbrev pub Told : (List TouchValue → Type 0) → (FeedFault → Type 0) → Answer → Type 0
Told given refused (Ok touches) = given touches
Told given refused (Err fault) = refused fault

-- a fault names a row of table t by a cause that stands there
pub record Caused (n t : ℕ) (stands : ℕ → Type 0) (fault : FeedFault) : Type 0 where
  pub cause : ℕ
  pub here : stands cause
  pub named : fault ≡ BadRow n t cause

is_ok-err : {A F : Type 0} (r : Result A F) (fault : F) → r ≡ Err fault → IsOk r → ⊥
is_ok-err (Ok x) fault e ok = cc
is_ok-err (Err f) fault e ok = absurd (true≢false (sym ok))

ok-value : {A F : Type 0} (r : Result A F) → IsOk r → (x : A) × (r ≡ Ok x)
ok-value (Ok x) ok = (x, refl)
ok-value (Err f) ok = absurd (true≢false (sym ok))

none-is-some : {A : Type 0} (x : A) → None ≡ Some x → ⊥
none-is-some x e = cc

module _ (plan : PlanValue) (n t : ℕ) where
  has-lacks : (row : Option ChangeRow) (cause : ℕ) → HasKey plan t row → LacksKey plan t row cause → ⊥
  has-lacks row cause has lacks = is_ok-err (key_of plan t lacks.there) lacks.fault lacks.refused (subst (HasKey plan t) lacks.is has)

  answer-lacks : (row : Option ChangeRow) (cause : ℕ) → HasAnswer plan t row → LacksAnswer plan t row cause → ⊥
  answer-lacks row cause has lacks = is_ok-err (passes_of plan t lacks.there) lacks.fault lacks.refused (subst (HasAnswer plan t) lacks.is has)

  -- ---- the row before a change

  abbrev before_by : Result KeyValue KeyFault → Answer
  before_by r = (in_group keys.number_of n t r >>= λ key. Ok (key, None)) >>= λ touch. Ok (touch ∷ [])

  pub before-told : (row : Option ChangeRow) → Told (λ touches. AreOfBefore plan t row touches × HasKey plan t row) (Caused n t (LacksKey plan t row)) (touches_before plan n t row)
  before-told None = (refl, tt)
  before-told (Some row) = by (key_of plan t row) refl
    where
      by : (r : Result KeyValue KeyFault) → key_of plan t row ≡ r
          → Told (λ touches. IsRemoval plan t row touches × IsOk (key_of plan t row)) (Caused n t (LacksKey plan t (Some row))) (before_by r)
      by (Ok key) e = (record { key = key; has = e; only = refl }, ap is_ok e)
      by (Err fault) e = record { cause = keys.number_of fault; here = record { there = row; fault = fault; is = refl; refused = e; number = refl }; named = refl }

  pub before-made : (row : Option ChangeRow) (touches : List TouchValue) → AreOfBefore plan t row touches → touches_before plan n t row ≡ Ok touches
  before-made None touches h = let none : [] ≡ touches = sym h in ap Ok none
  before-made (Some row) touches h = ap before_by h.has ∙ ap Ok (sym h.only)

  pub before-refused : (row : Option ChangeRow) (cause : ℕ) → LacksKey plan t row cause → touches_before plan n t row ≡ Err (BadRow n t cause)
  before-refused row cause h = ap (touches_before plan n t) h.is ∙ ap before_by h.refused ∙ ap (λ c. Err (BadRow n t c)) (sym h.number)

  pub before-sound : (row : Option ChangeRow) → HasKey plan t row → (touches : List TouchValue) × (touches_before plan n t row ≡ Ok touches)
  before-sound row has = by (touches_before plan n t row) (before-told row)
    where
      by : (r : Answer) → Told (λ touches. AreOfBefore plan t row touches × HasKey plan t row) (Caused n t (LacksKey plan t row)) r → (touches : List TouchValue) × (r ≡ Ok touches)
      by (Ok touches) told = (touches, refl)
      by (Err fault) told = absurd (has-lacks row told.cause has told.here)

  -- ---- the row after a change

  abbrev pub AfterCause : Option ChangeRow → ℕ → Type 0
  AfterCause row cause = LacksKey plan t row cause ⊎ (HasKey plan t row × LacksAnswer plan t row cause)

  abbrev after_by : ChangeRow → Result KeyValue KeyFault → Result Bool VindexFault → Answer
  after_by row r p =
      (in_group keys.number_of n t r >>= λ key. in_group filter.number_of_fault n t p >>= λ passes. Ok (key, Some (record { row = row; passes = passes }))) >>= λ touch. Ok (touch ∷ [])

  pub after-told : (row : Option ChangeRow)
      → Told (λ touches. AreOfAfter plan t row touches × (HasKey plan t row × HasAnswer plan t row)) (Caused n t (AfterCause row)) (touches_after plan n t row)
  after-told None = (refl, (tt, tt))
  after-told (Some row) = by (key_of plan t row) (passes_of plan t row) refl refl
    where
      by : (r : Result KeyValue KeyFault) (p : Result Bool VindexFault) → key_of plan t row ≡ r → passes_of plan t row ≡ p
          → Told (λ touches. IsPut plan t row touches × (IsOk (key_of plan t row) × IsOk (passes_of plan t row))) (Caused n t (AfterCause (Some row))) (after_by row r p)
      by (Ok key) (Ok passes) e a = (record { key = key; passes = passes; has = e; answer = a; only = refl }, (ap is_ok e, ap is_ok a))
      by (Ok key) (Err fault) e a = record {
        cause = filter.number_of_fault fault;
        here = inr (ap is_ok e, record { there = row; fault = fault; is = refl; refused = a; number = refl });
        named = refl;
      }
      by (Err fault) p e a = record { cause = keys.number_of fault; here = inl (record { there = row; fault = fault; is = refl; refused = e; number = refl }); named = refl }

  pub after-made : (row : Option ChangeRow) (touches : List TouchValue) → AreOfAfter plan t row touches → touches_after plan n t row ≡ Ok touches
  after-made None touches h = let none : [] ≡ touches = sym h in ap Ok none
  after-made (Some row) touches h = ap (λ r. after_by row r (passes_of plan t row)) h.has ∙ ap (λ p. after_by row (Ok h.key) p) h.answer ∙ ap Ok (sym h.only)

  pub after-refused : (row : Option ChangeRow) (cause : ℕ) → AfterCause row cause → touches_after plan n t row ≡ Err (BadRow n t cause)
  after-refused row cause (inl h) =
      ap (touches_after plan n t) h.is ∙ ap (λ r. after_by h.there r (passes_of plan t h.there)) h.refused ∙ ap (λ c. Err (BadRow n t c)) (sym h.number)
  after-refused row cause (inr both) =
      let h = both.1 in
      let key = ok-value (key_of plan t h.there) (subst (HasKey plan t) h.is both.0) in
      ap (touches_after plan n t) h.is
      ∙ ap (λ r. after_by h.there r (passes_of plan t h.there)) key.1
      ∙ ap (λ p. after_by h.there (Ok key.0) p) h.refused
      ∙ ap (λ c. Err (BadRow n t c)) (sym h.number)

-- ---- a change

abbrev both_by : Answer → Answer → Answer
both_by r s = r >>= λ some. s >>= λ others. Ok (some ++ others)

module _ (plan : PlanValue) (n : ℕ) where
  change-told : (change : PlannedChangeValue)
      → Told (λ touches. AreOfChange plan change touches × IsSoundChange plan change) (Caused n change.table (FirstCause plan change)) (touches_of_change plan n change)
  change-told change =
      by (touches_before plan n change.table change.before) (touches_after plan n change.table change.after) (before-told plan n change.table change.before)
      (after-told plan n change.table change.after)
    where
      by : (r s : Answer) → Told (λ touches. AreOfBefore plan change.table change.before touches × HasKey plan change.table change.before) (Caused n change.table (LacksKey plan change.table change.before)) r
          → Told (λ touches. AreOfAfter plan change.table change.after touches × (HasKey plan change.table change.after × HasAnswer plan change.table change.after))
          (Caused n change.table (AfterCause plan n change.table change.after)) s
          → Told (λ touches. AreOfChange plan change touches × IsSoundChange plan change) (Caused n change.table (FirstCause plan change)) (both_by r s)
      by (Ok removed) (Ok put) b a =
          (record { removed = removed; put = put; before = b.0; after = a.0; order = refl }, record { before = b.1; after = a.1.0; answer = a.1.1 })
      by (Ok removed) (Err fault) b a = record { cause = a.cause; here = inr (elim a.here [ inl key ↦ inl (b.1, key) | inr answer ↦ inr (b.1, answer.0, answer.1) ]); named = a.named }
      by (Err fault) s b a = record { cause = b.cause; here = inl b.here; named = b.named }

  change-made : (change : PlannedChangeValue) (touches : List TouchValue) → AreOfChange plan change touches → touches_of_change plan n change ≡ Ok touches
  change-made change touches h =
      ap (λ r. both_by r (touches_after plan n change.table change.after)) (before-made plan n change.table change.before h.removed h.before)
      ∙ ap (λ s. both_by (Ok h.removed) s) (after-made plan n change.table change.after h.put h.after)
      ∙ ap Ok (sym h.order)

  -- behind a row before that has a key
  later-refused : (change : PlannedChangeValue) (cause : ℕ) → HasKey plan change.table change.before → AfterCause plan n change.table change.after cause
      → touches_of_change plan n change ≡ Err (BadRow n change.table cause)
  later-refused change cause has after =
      let removed = before-sound plan n change.table change.before has in
      ap (λ r. both_by r (touches_after plan n change.table change.after)) removed.1
      ∙ ap (λ s. both_by (Ok removed.0) s) (after-refused plan n change.table change.after cause after)

  change-refused : (change : PlannedChangeValue) (cause : ℕ) → FirstCause plan change cause → touches_of_change plan n change ≡ Err (BadRow n change.table cause)
  change-refused change cause (inl h) = ap (λ r. both_by r (touches_after plan n change.table change.after)) (before-refused plan n change.table change.before cause h)
  change-refused change cause (inr (inl h)) = later-refused change cause h.0 (inl h.1)
  change-refused change cause (inr (inr h)) = later-refused change cause h.0 (inr (h.1, h.2))

  sound-no_cause : (change : PlannedChangeValue) (cause : ℕ) → IsSoundChange plan change → FirstCause plan change cause → ⊥
  sound-no_cause change cause sound (inl h) = has-lacks plan n change.table change.before cause sound.before h
  sound-no_cause change cause sound (inr (inl h)) = has-lacks plan n change.table change.after cause sound.after h.1
  sound-no_cause change cause sound (inr (inr h)) = answer-lacks plan n change.table change.after cause sound.answer h.2

  change-sound : (change : PlannedChangeValue) → IsSoundChange plan change → (touches : List TouchValue) × (touches_of_change plan n change ≡ Ok touches)
  change-sound change sound = by (touches_of_change plan n change) (change-told change)
    where
      by : (r : Answer) → Told (λ touches. AreOfChange plan change touches × IsSoundChange plan change) (Caused n change.table (FirstCause plan change)) r → (touches : List TouchValue) × (r ≡ Ok touches)
      by (Ok touches) told = (touches, refl)
      by (Err fault) told = absurd (sound-no_cause change told.cause sound told.here)

  -- ---- a group

  changes-told : (changes : List PlannedChangeValue) → Told (AreOfChanges plan changes) (IsFirstUnsound plan n changes) (touches_of plan n changes)
  changes-told [] = record { parts = []; whole = refl; many = refl; each = λ i change part at there. absurd (none-is-some change at) }
  changes-told (c ∷ cs) = by (touches_of_change plan n c) (touches_of plan n cs) (change-told c) (changes-told cs)
    where
      by : (r s : Answer) → Told (λ touches. AreOfChange plan c touches × IsSoundChange plan c) (Caused n c.table (FirstCause plan c)) r
          → Told (AreOfChanges plan cs) (IsFirstUnsound plan n cs) s → Told (AreOfChanges plan (c ∷ cs)) (IsFirstUnsound plan n (c ∷ cs)) (both_by r s)
      by (Ok some) (Ok others) here rest = record {
        parts = some ∷ rest.parts;
        whole = ap (λ (ts : List TouchValue). some ++ ts) rest.whole;
        many = ap suc rest.many;
        each = λ i. each_part i;
      }
        where
          each_part : (i : ℕ) (change : PlannedChangeValue) (part : List TouchValue) → slice_get (c ∷ cs) i ≡ Some change → slice_get (some ∷ rest.parts) i ≡ Some part → AreOfChange plan change part
          each_part zero change part at there =
              let same : c ≡ change = same_Some c change at in
              let touches : some ≡ part = same_Some some part there in
              subst (λ (p : List TouchValue). AreOfChange plan change p) touches (subst (λ (d : PlannedChangeValue). AreOfChange plan d some) same here.0)
          each_part (suc i) change part at there = rest.each i change part at there
      by (Ok some) (Err fault) here rest = record {
        earlier = c ∷ rest.earlier;
        change = rest.change;
        later = rest.later;
        cause = rest.cause;
        split = ap (λ (all : List PlannedChangeValue). c ∷ all) rest.split;
        sound = (here.1, rest.sound);
        here = rest.here;
        named = rest.named;
      }
      by (Err fault) s here rest = record { earlier = []; change = c; later = cs; cause = here.cause; split = refl; sound = tt; here = here.here; named = here.named }

  changes-made : (changes : List PlannedChangeValue) (parts : List (List TouchValue)) → length parts ≡ length changes
      → ((i : ℕ) (change : PlannedChangeValue) (part : List TouchValue) → slice_get changes i ≡ Some change → slice_get parts i ≡ Some part → AreOfChange plan change part)
      → touches_of plan n changes ≡ Ok (flat_map (λ part. part) parts)
  changes-made [] [] many each = refl
  changes-made [] (p ∷ ps) many each = absurd (omega arith)
  changes-made (c ∷ cs) [] many each = absurd (omega arith)
  changes-made (c ∷ cs) (p ∷ ps) many each =
      let fewer : length ps ≡ length cs = omega arith in
      ap (λ r. both_by r (touches_of plan n cs)) (change-made c p (each 0 c p refl refl))
      ∙ ap (λ s. both_by (Ok p) s) (changes-made cs ps fewer (λ i. each (suc i)))

  unsound-made : (earlier : List PlannedChangeValue) (change : PlannedChangeValue) (later : List PlannedChangeValue) (cause : ℕ) → AllByRecursion (IsSoundChange plan) earlier
      → FirstCause plan change cause → touches_of plan n (earlier ++ change ∷ later) ≡ Err (BadRow n change.table cause)
  unsound-made [] change later cause sound here = ap (λ r. both_by r (touches_of plan n later)) (change-refused change cause here)
  unsound-made (c ∷ cs) change later cause sound here =
      let given = change-sound c sound.0 in
      ap (λ r. both_by r (touches_of plan n (cs ++ change ∷ later))) given.1 ∙ ap (λ s. both_by (Ok given.0) s) (unsound-made cs change later cause sound.1 here)

  pub touches_by_change : (changes : List PlannedChangeValue) → TouchesByChange plan n changes
  touches_by_change changes = record {
    given = λ touches. (
      λ e. subst (Told (AreOfChanges plan changes) (IsFirstUnsound plan n changes)) e (changes-told changes),
      λ h. changes-made changes h.parts h.many h.each ∙ ap Ok (sym h.whole),
    );
    refused = λ fault. (
      λ e. subst (Told (AreOfChanges plan changes) (IsFirstUnsound plan n changes)) e (changes-told changes),
      λ h. ap (touches_of plan n) h.split ∙ unsound-made h.earlier h.change h.later h.cause h.sound h.here ∙ ap Err (sym h.named),
    );
  }
