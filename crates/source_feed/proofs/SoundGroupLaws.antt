-- The sound groups of a feed, one after another.
use Rattle.std.proofs.Common.{◌≡◌, ℕ, zero, suc, ◌+◌, ◌<◌, ◌≤◌, List, [], ◌∷◌, ◌++◌, length, map, take, Option, Some, None, Result, Ok, Err, slice_get, refl, sym, ap, subst, ◌∙◌, arith}
use Rattle.std.proofs.lemmas.Option.{same_Some, none-some, slice_get-map}
use Rattle.std.specs.Option.{option_map}
use Rattle.std.specs.Prelude.{IfSome}
use Rattle.std.specs.Result.{result_ok, ok_prefix}
use Rattle.list_laws.proofs.Places.{no_place}
use Rattle.list_laws.specs.Outcome.{◌>>=◌}
use Rattle.filter_rule.specs.PlanValue.{PlanValue}
use Rattle.source_feed.specs.declared.fault.FeedFault.{FeedFault}
use Rattle.source_feed.specs.Planned.{PlannedGroupValue, FeedValue}
use Rattle.source_feed.specs.SoundGroups.{sound_groups, AreFirst, StopsBefore}
use Rattle.source_feed.specs.Touches.{TouchValue, PreparedValue, touches_of, prepared, prepared_if, prepared_at}

-- ---- what each was made of

-- a result before the first error
in_front : {A E : Type 0} (xs : List (Result A E)) (i : ℕ) (x : A) → slice_get (ok_prefix xs) i ≡ Some x → slice_get xs i ≡ Some (Ok x)
in_front [] i x e = no_place i x e
in_front (Err d ∷ xs) i x e = no_place i x e
in_front {A} {E} (Ok y ∷ xs) zero x e = ap (λ (z : A). Some (Ok z)) (same_Some y x e)
in_front (Ok y ∷ xs) (suc i) x e = in_front xs i x e

-- a group with touches
abbrev pub of_touches : PlanValue → PlannedGroupValue → List TouchValue → PreparedValue
of_touches plan planned touches = record { plan = plan; number = planned.number; position = planned.position; touches = touches }

abbrev good : PreparedValue → Result PreparedValue FeedFault
good group = Ok group

abbrev bad : FeedFault → Result PreparedValue FeedFault
bad fault = Err fault

-- a group of a feed, and what it was made of
pub record IsGroupOf (feed : FeedValue) (i : ℕ) (group : PreparedValue) : Type 0 where
  pub planned : PlannedGroupValue
  pub there : slice_get feed.groups i ≡ Some planned
  pub touches : List TouchValue
  pub made : touches_of feed.plan planned.number planned.changes ≡ Ok touches
  pub is : of_touches feed.plan planned touches ≡ group

made_of : (feed : FeedValue) (i : ℕ) (group : PreparedValue) (planned : PlannedGroupValue) → slice_get feed.groups i ≡ Some planned → prepared feed.plan planned ≡ Ok group → IsGroupOf feed i group
made_of feed i group planned there e = by (touches_of feed.plan planned.number planned.changes) refl e
  where
    by : (r : Result (List TouchValue) FeedFault) → touches_of feed.plan planned.number planned.changes ≡ r → (r >>= λ touches. good (of_touches feed.plan planned touches)) ≡ good group → IsGroupOf feed i group
    by (Ok touches) made e =
        record { planned = planned; there = there; touches = touches; made = made; is = same_Some (of_touches feed.plan planned touches) group (ap result_ok e) }
    by (Err fault) made e = absurd (none-some group (ap result_ok e))

pub group_of : (feed : FeedValue) (i : ℕ) (group : PreparedValue) → slice_get (sound_groups feed) i ≡ Some group → IsGroupOf feed i group
group_of feed i group e =
    by (slice_get feed.groups i) refl (sym (slice_get-map (prepared feed.plan) feed.groups i) ∙ in_front (map (prepared feed.plan) feed.groups) i group e)
  where
    by : (o : Option PlannedGroupValue) → slice_get feed.groups i ≡ o → option_map (prepared feed.plan) (slice_get feed.groups i) ≡ Some (Ok group) → IsGroupOf feed i group
    by None there h = absurd (none-some (good group) (sym (ap (option_map (prepared feed.plan)) there) ∙ h))
    by (Some planned) there h = made_of feed i group planned there (same_Some (prepared feed.plan planned) (good group) (sym (ap (option_map (prepared feed.plan)) there) ∙ h))

-- ---- the first ones

-- results before the first error: one more
front_more : {A E : Type 0} (xs : List (Result A E)) (i : ℕ) (x : A) → i ≤ length (ok_prefix xs) → slice_get xs i ≡ Some (Ok x)
    → (suc i ≤ length (ok_prefix xs)) × (take (suc i) (ok_prefix xs) ≡ take i (ok_prefix xs) ++ x ∷ [])
front_more [] i x fits e = absurd (none-some (Ok x) e)
front_more (Err d ∷ xs) zero x fits e = absurd (none-some x (ap result_ok (same_Some (Err d) (Ok x) e)))
front_more (Err d ∷ xs) (suc i) x fits e = absurd (omega (arith, fits))
front_more {A} {E} (Ok y ∷ xs) zero x fits e =
    let same : y ≡ x = same_Some y x (ap result_ok (same_Some (Ok y) (Ok x) e)) in
    (omega arith, ap (λ (z : A). z ∷ []) same)
front_more {A} {E} (Ok y ∷ xs) (suc i) x fits e =
    let less : suc i ≤ suc (length (ok_prefix xs)) = fits in
    let rest = front_more xs i x (omega (arith, less)) e in
    (omega (arith, rest.0), ap (λ (zs : List A). y ∷ zs) rest.1)

-- an error behind them is the first
pub front_ends : {A E : Type 0} (xs : List (Result A E)) (i : ℕ) (d : E) → i ≤ length (ok_prefix xs) → slice_get xs i ≡ Some (Err d) → length (ok_prefix xs) ≡ i
front_ends [] i d fits e = absurd (none-some (Err d) e)
front_ends (Err c ∷ xs) zero d fits e = refl
front_ends (Err c ∷ xs) (suc i) d fits e = absurd (omega (arith, fits))
front_ends (Ok y ∷ xs) zero d fits e = absurd (none-some y (ap result_ok (sym (same_Some (Ok y) (Err d) e))))
front_ends (Ok y ∷ xs) (suc i) d fits e =
    let less : suc i ≤ suc (length (ok_prefix xs)) = fits in
    ap suc (front_ends xs i d (omega (arith, less)) e)

-- what is prepared at a number is one of the feed's groups
pub there_at_number : (feed : FeedValue) (i : ℕ) (r : Result PreparedValue FeedFault) → i < length feed.groups → prepared_at feed (i + 1) ≡ r → slice_get (map (prepared feed.plan) feed.groups) i ≡ Some r
there_at_number feed i r inside e = by (slice_get feed.groups i) refl
  where
    next : i + 1 ≡ suc i
    next = omega arith

    at : prepared_if feed (slice_get feed.groups i) ≡ r
    at = ap (prepared_at feed) (sym next) ∙ e

    by : (o : Option PlannedGroupValue) → slice_get feed.groups i ≡ o → slice_get (map (prepared feed.plan) feed.groups) i ≡ Some r
    by None there = absurd (omega (arith, inside, none_inside feed.groups i there))
      where
        none_inside : (groups : List PlannedGroupValue) (i : ℕ) → slice_get groups i ≡ None → length groups ≤ i
        none_inside [] i none = omega arith
        none_inside (g ∷ groups) zero none = absurd (none-some g (sym none))
        none_inside (g ∷ groups) (suc i) none = let rest = none_inside groups i none in omega (arith, rest)
    by (Some group) there =
        slice_get-map (prepared feed.plan) feed.groups i
        ∙ ap (option_map (prepared feed.plan)) there
        ∙ ap Some (sym (ap (prepared_if feed) there) ∙ at)

pub first_more : (feed : FeedValue) (i : ℕ) (groups new : List PreparedValue) (group : PreparedValue) → i < length feed.groups → prepared_at feed (i + 1) ≡ Ok group → new ≡ groups ++ group ∷ [] → AreFirst feed i groups → AreFirst feed (i + 1) new
first_more feed i groups new group inside e is first =
    let next : suc i ≡ i + 1 = omega arith in
    let more = front_more (map (prepared feed.plan) feed.groups) i group first.sound (there_at_number feed i (Ok group) inside e) in
    subst (λ n. AreFirst feed n new) next (record {
      sound = more.0;
      are = is ∙ ap (λ (xs : List PreparedValue). xs ++ group ∷ []) first.are ∙ sym more.1;
    })

pub first_stops : (feed : FeedValue) (i number : ℕ) (groups : List PreparedValue) (fault : FeedFault) → i < length feed.groups → i < number → prepared_at feed (i + 1) ≡ Err fault → AreFirst feed i groups → StopsBefore feed number fault
first_stops feed i number groups fault inside less e first =
    let at = there_at_number feed i (Err fault) inside e in
    let ends : length (sound_groups feed) ≡ i = front_ends (map (prepared feed.plan) feed.groups) i fault first.sound at in
    record { inside = omega (arith, ends, less); first = ap (slice_get (map (prepared feed.plan) feed.groups)) ends ∙ at }

-- what holds of a fault that says something of the feed
pub if_meant : {P Q : FeedFault → Type 0} (o : Option FeedFault) → ((fault : FeedFault) → P fault → Q fault) → IfSome o P → IfSome o Q
if_meant None f h = h
if_meant (Some fault) f h = f fault h
