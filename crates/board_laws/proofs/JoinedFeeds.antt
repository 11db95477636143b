-- Boards that read the same feeds, which share no key; and that no board that can be joined is refused.
use Rattle.std.proofs.Common.{◌≡◌, ◌≢◌, ◌==◌, ℕ, ◌+◌, ◌≤◌, inl, inr, Bool, true, false, cond, le_of_lt, List, length, take, min, Option, Some, None, slice_get, refl, sym, ap, subst, ◌∙◌, arith}
use Rattle.std.proofs.lemmas.Bool.{eqb-false}
use Rattle.std.proofs.lemmas.Bool.{cases_lt}
use Rattle.std.proofs.lemmas.List.{take-take, take_min, length-take}
use Rattle.std.proofs.lemmas.Option.{same_Some, none-some}
use Rattle.std.specs.Option.{option_or, option_map, option_and_then}
use Rattle.board_laws.proofs.FeedLaws.{touched_front}
use Rattle.list_laws.proofs.Places.{slice_get-take}
use Rattle.pk_copy.specs.KeyOrder.{key_cmp}
use Rattle.pk_copy.specs.KeyValue.{KeyValue}
use Rattle.pk_copy.specs.Marks.{is_inside}
use Rattle.target_tables.specs.Contents.{value_at}
use Rattle.target_tables.specs.Touches.{last_at, owner_in_the_way}
use Rattle.source_feed.specs.History.{RowValue, touches_in, passing, kept_of, kept_at}
use Rattle.source_feed.specs.Planned.{FeedValue}
use Rattle.source_feed.specs.SoundGroups.{sound_groups}
use Rattle.source_feed.specs.Touches.{PutValue, PreparedValue}
use Rattle.board_laws.specs.Meaning.{State, Meaning}
use Rattle.board_laws.specs.Cut.{cut_of}
use Rattle.board_laws.specs.Reading.{HasFeed, AllReadTheirFeeds}
use Rattle.board_laws.specs.Runs.{IsTouchedIn, AreDisjoint}
use Rattle.board_laws.proofs.Lookups.{Ties}
use Rattle.board_laws.specs.declared.join_fault.JoinFault.{JoinFault}
use Rattle.board_laws.specs.declared.join_fault.JoinFault.TheVariants.{WrongPlan, HistoriesDiffer, OwnedByOther, Memory}
use Rattle.board_laws.specs.Chosen.{all_chosen}
use Rattle.board_laws.specs.Compatible.{plans_of_board, OfEachStream, IsBeginning, AreOfOneHistory, AreApart, AreCompatible}
use Rattle.board_laws.specs.Joined.{rows_from}
use Rattle.board_laws.specs.RefusedJoin.{IsFirstNot, IsFirstClash, IsRefusedJoin}
use Rattle.board_laws.proofs.JoinedPairs.{one_of_two}
use Rattle.board_laws.proofs.JoinedRows.{value_from, IsRowOf, whose}

-- ---- keys of feeds

right_none : (x y : Option (Option PutValue)) → option_or x y ≡ None → y ≡ None
right_none None y e = e
right_none (Some x) y e = absurd (none-some x (sym e))

-- a key with a row in a stream's cut is one that its feed touches
row-touched : (feeds : List FeedValue) (s : ℕ) (state : State) (has : HasFeed feeds s state) (key : KeyValue) → cut_of state key ≢ None → IsTouchedIn (sound_groups has.feed) key
row-touched feeds s state has key row =
    touched_front has.reads.length_read (sound_groups has.feed) key
    (subst (λ (groups : List PreparedValue). IsTouchedIn groups key) has.reads.list
    (touched_front state.applied state.list key (λ untouched. row (by (is_inside state.marks key) untouched))))
  where
    by : (b : Bool) → last_at key_cmp (touches_in (take state.applied state.list)) key ≡ None → cond b (kept_at state.plan state.list state.applied key) None ≡ None
    by true untouched = ap (λ (t : Option (Option PutValue)). option_map (kept_of state.plan key) (option_and_then passing (option_and_then (λ put. put) t))) untouched
    by false untouched = refl

-- ---- beginnings of one feed

begins : (m n : ℕ) (groups : List PreparedValue) → m ≤ n → IsBeginning (take m groups) (take n groups)
begins m n groups le =
    let long : length (take m groups) ≡ min m (length groups) = length-take m groups in
    ap (λ k. take k (take n groups)) long ∙ take-take (min m (length groups)) n groups (omega (arith, le)) ∙ take_min m groups

one_feed : (feeds : List FeedValue) (s : ℕ) (x y : State) → HasFeed feeds s x → HasFeed feeds s y → AreOfOneHistory x y
one_feed feeds s x y p q =
    let feed : q.feed ≡ p.feed = same_Some q.feed p.feed (sym q.fed ∙ p.fed) in
    let other : y.list ≡ take q.reads.length_read (sound_groups p.feed) = q.reads.list ∙ ap (λ (f : FeedValue). take q.reads.length_read (sound_groups f)) feed in
    let m : ℕ = p.reads.length_read in
    let n : ℕ = q.reads.length_read in
    let groups : List PreparedValue = sound_groups p.feed in
    elim (cases_lt n m) [
      | inl less ↦ inr (subst (λ (xs : List PreparedValue). IsBeginning y.list xs) (sym p.reads.list) (subst (λ (ys : List PreparedValue). IsBeginning ys (take m groups)) (sym other) (begins n m groups (le_of_lt less))))
      | inr most ↦ inl (subst (λ (ys : List PreparedValue). IsBeginning x.list ys) (sym other) (subst (λ (xs : List PreparedValue). IsBeginning xs (take n groups)) (sym p.reads.list) (begins m n groups most)))
    ]

pub feeds_joined : (feeds : List FeedValue) (a b : Meaning) → AllReadTheirFeeds feeds a → AllReadTheirFeeds feeds b → AreDisjoint feeds
    → plans_of_board a ≡ plans_of_board b → AreCompatible a b
feeds_joined feeds a b reads_a reads_b disjoint plans = record {
  plans = plans;
  histories = λ s x y p q. one_feed feeds s x y (reads_a s x p) (reads_b s y q);
  apart = λ s t x y key p q c d.
      let one : HasFeed feeds s x = has s x p in
      let other : HasFeed feeds t y = has t y q in
      disjoint s t one.feed other.feed key one.fed other.fed (row-touched feeds s x one key c) (row-touched feeds t y other key d);
}
  where
    has : (s : ℕ) (z : State) → slice_get (all_chosen a.streams b.streams) s ≡ Some z → HasFeed feeds s z
    has s z e = elim (one_of_two a.streams b.streams s z e) [ inl left ↦ reads_a s z left | inr right ↦ reads_b s z right ]

-- ---- refusals

not_both : (P : State → State → Type 0) (xs ys : List State) (s : ℕ) → IsFirstNot P xs ys s → OfEachStream P xs ys → ⊥
not_both P xs ys s first all = first.fails (all s first.one first.other first.here first.there)

-- a row in the way of one that is due
pub in_the_way : (s : ℕ) (due : Option RowValue) (there : Option (ℕ × RowValue)) (owner : ℕ) → owner_in_the_way s (option_map Some due) there ≡ Some owner
    → (due ≢ None) × ((other : ℕ × RowValue) × (there ≡ Some other) × (other.0 ≢ s))
in_the_way s None there owner h = absurd (none-some owner h)
in_the_way s (Some row) None owner h = absurd (none-some owner h)
in_the_way s (Some row) (Some x) owner h = (λ n. none-some row (sym n), (x, refl, by (x.0 == s) refl h))
  where
    by : (b : Bool) → (x.0 == s) ≡ b → cond b None (Some x.0) ≡ Some owner → x.0 ≢ s
    by true e h = absurd (none-some owner h)
    by false e h = eqb-false x.0 s e

not_apart : (ties : Ties) (states : List State) (key : KeyValue) (owner : ℕ) → IsFirstClash states key owner → AreApart states → ⊥
not_apart ties states key owner clash apart =
    let front : List State = take clash.stream states in
    let way : (cut_of clash.state key ≢ None) × ((other : ℕ × RowValue) × (value_at key_cmp (rows_from 0 front) key ≡ Some other) × (other.0 ≢ clash.stream))
    = in_the_way clash.stream (cut_of clash.state key) (value_at key_cmp (rows_from 0 front) key) owner clash.least.here in
    let of : IsRowOf 0 front key way.1.0 = whose 0 front key way.1.0 (sym (value_from ties 0 front key) ∙ way.1.1) in
    let place : of.place ≡ clash.stream
    = apart of.place clash.stream of.state clash.state key (slice_get-take clash.stream states of.place of.state of.here) clash.here (λ n. none-some way.1.0.1 (sym n ∙ of.cut)) way.0 in
    let number : way.1.0.0 ≡ 0 + of.place = of.number in
    way.1.2 (omega (arith, number, place))

pub none_refused : (ties : Ties) (a b : Meaning) (fault : JoinFault) → AreCompatible a b → IsRefusedJoin a b fault → fault ≡ Memory
none_refused ties a b WrongPlan compatible refused = absurd (refused compatible.plans)
none_refused ties a b (HistoriesDiffer s) compatible refused = absurd (not_both AreOfOneHistory a.streams b.streams s refused.first compatible.histories)
none_refused ties a b (OwnedByOther key owner) compatible refused = absurd (not_apart ties (all_chosen a.streams b.streams) key owner refused.first compatible.apart)
none_refused ties a b Memory compatible refused = refl
