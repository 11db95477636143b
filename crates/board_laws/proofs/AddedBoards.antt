-- A lawful board to which tables are added is lawful, and its streams read the new feeds.
use Rattle.std.proofs.Common.{◌≡◌, ℕ, zero, suc, ◌<◌, Bool, true, false, cond, List, [], ◌∷◌, length, Option, Some, None, slice_get, refl, sym, ap, subst, ◌∙◌, arith}
use Rattle.std.proofs.lemmas.Bool.{eq-eqb}
use Rattle.std.proofs.lemmas.Option.{same_Some, none-some}
use Rattle.std.specs.Option.{option_and_then}
use Rattle.filter_rule.specs.PlanTable.{TableValue}
use Rattle.pk_copy.specs.KeyOrder.{key_cmp}
use Rattle.pk_copy.specs.KeyValue.{KeyValue}
use Rattle.pk_copy.specs.Marks.{is_inside}
use Rattle.source_feed.specs.History.{RowValue, kept_at}
use Rattle.source_feed.specs.Planned.{FeedValue}
use Rattle.stream_core.specs.declared.phase.Phase.TheVariants.{CatchUp}
use Rattle.stream_core.specs.Standing.{phase_of}
use Rattle.target_tables.specs.Contents.{value_at}
use Rattle.board_laws.specs.Cut.{cut_of, cut_in, own_row}
use Rattle.board_laws.specs.Lawful.{standing_of, IsSoundState, IsLawful}
use Rattle.board_laws.specs.Meaning.{State, Meaning}
use Rattle.board_laws.specs.Reading.{HasFeed}
use Rattle.board_laws.proofs.Lookups.{Ties}
use Rattle.board_laws.specs.Extended.{extended_state, extended_states, extended_board, MayExtend}
use Rattle.board_laws.specs.AddedLaws.{ExtendedBoardsAreLawful, ExtendedBoardsReadTheirFeeds, CutsStay, AddedTablesAreBare, AddedTablesAreToCopy}
use Rattle.board_laws.proofs.OldTables.{inside_old}
use Rattle.board_laws.proofs.AddedStates.{extended-sound, extended-cut, catches_up}

-- ---- the streams

-- a stream of the extended ones, and what it was
pub record IsOf (feeds : List FeedValue) (states : List State) (s : ℕ) (state : State) : Type 0 where
  pub feed : FeedValue
  pub fed : slice_get feeds s ≡ Some feed
  pub old : State
  pub here : slice_get states s ≡ Some old
  pub is : extended_state feed old ≡ state

pub was : (feeds : List FeedValue) (states : List State) (s : ℕ) (state : State) → slice_get (extended_states feeds states) s ≡ Some state → IsOf feeds states s state
was [] states s state e = absurd (none-some state e)
was (feed ∷ feeds) [] s state e = absurd (none-some state e)
was (feed ∷ feeds) (old ∷ states) zero state e = record { feed = feed; fed = refl; old = old; here = refl; is = same_Some (extended_state feed old) state e }
was (feed ∷ feeds) (old ∷ states) (suc s) state e =
    let rest : IsOf feeds states s state = was feeds states s state e in
    record { feed = rest.feed; fed = rest.fed; old = rest.old; here = rest.here; is = rest.is }

pub becomes : (feeds : List FeedValue) (states : List State) (s : ℕ) (feed : FeedValue) (old : State) → slice_get feeds s ≡ Some feed → slice_get states s ≡ Some old
    → slice_get (extended_states feeds states) s ≡ Some (extended_state feed old)
becomes [] states s feed old fed here = absurd (none-some feed fed)
becomes (f ∷ feeds) [] s feed old fed here = absurd (none-some old here)
becomes (f ∷ feeds) (x ∷ states) zero feed old fed here =
    ap (λ (f : FeedValue). Some (extended_state f x)) (same_Some f feed fed) ∙ ap (λ (x : State). Some (extended_state feed x)) (same_Some x old here)
becomes (f ∷ feeds) (x ∷ states) (suc s) feed old fed here = becomes feeds states s feed old fed here

pub as_many : (feeds : List FeedValue) (states : List State) → length feeds ≡ length states → length (extended_states feeds states) ≡ length states
as_many [] [] long = refl
as_many [] (x ∷ states) long = let clash : 0 ≡ suc (length states) = long in absurd (omega (arith, clash))
as_many (f ∷ feeds) [] long = let clash : suc (length feeds) ≡ 0 = long in absurd (omega (arith, clash))
as_many (f ∷ feeds) (x ∷ states) long = let rest : suc (length feeds) ≡ suc (length states) = long in ap suc (as_many feeds states (omega (arith, rest)))

abbrev cut_if : KeyValue → Option State → Option RowValue
cut_if key o = option_and_then (λ state. cut_of state key) o

same_cuts : (key : KeyValue) (feeds : List FeedValue) (states : List State) → length feeds ≡ length states
    → ((s : ℕ) (feed : FeedValue) (state : State) → slice_get feeds s ≡ Some feed → slice_get states s ≡ Some state → cut_of (extended_state feed state) key ≡ cut_of state key)
    → (s : ℕ) → cut_if key (slice_get (extended_states feeds states) s) ≡ cut_if key (slice_get states s)
same_cuts key [] [] long same s = refl
same_cuts key [] (x ∷ states) long same s = let clash : 0 ≡ suc (length states) = long in absurd (omega (arith, clash))
same_cuts key (f ∷ feeds) [] long same s = let clash : suc (length feeds) ≡ 0 = long in absurd (omega (arith, clash))
same_cuts key (f ∷ feeds) (x ∷ states) long same zero = same 0 f x refl refl
same_cuts key (f ∷ feeds) (x ∷ states) long same (suc s) =
    let rest : suc (length feeds) ≡ suc (length states) = long in
    same_cuts key feeds states (omega (arith, rest)) (λ i feed state p q. same (suc i) feed state p q) s

-- ---- the board

module _ (ties : Ties) (feeds : List FeedValue) (board : Meaning) (lawful : IsLawful board) (may : MayExtend feeds board) where
  cuts : (s : ℕ) (key : KeyValue) → cut_in (extended_board feeds board) s key ≡ cut_in board s key
  cuts s key =
      same_cuts key feeds board.streams may.count
      (λ t feed state fed here. extended-cut feed state (lawful.sound t state here) (may.whole t feed fed) (may.extends t feed state fed here) (may.goes_on t feed state fed here) ties key) s

  sound_at : (s : ℕ) (state : State) → slice_get (extended_states feeds board.streams) s ≡ Some state → IsSoundState state
  sound_at s state e =
      let of : IsOf feeds board.streams s state = was feeds board.streams s state e in
      subst IsSoundState of.is
      (extended-sound of.feed of.old (lawful.sound s of.old of.here) (may.whole s of.feed of.fed) (may.extends s of.feed of.old of.fed of.here) (may.goes_on s of.feed of.old of.fed of.here))

  same_tables : (s t : ℕ) (x y : State) → slice_get (extended_states feeds board.streams) s ≡ Some x → slice_get (extended_states feeds board.streams) t ≡ Some y → x.plan.tables ≡ y.plan.tables
  same_tables s t x y p q =
      let one : IsOf feeds board.streams s x = was feeds board.streams s x p in
      let other : IsOf feeds board.streams t y = was feeds board.streams t y q in
      ap (λ (state : State). state.plan.tables) (sym one.is) ∙ may.tables s t one.feed other.feed one.fed other.fed ∙ ap (λ (state : State). state.plan.tables) other.is

  lawful_extended : IsLawful (extended_board feeds board)
  lawful_extended =
      let long : length (extended_states feeds board.streams) ≡ length board.streams = as_many feeds board.streams may.count in
      record {
        some = omega (arith, long, lawful.some);
        few = omega (arith, long, lawful.few);
        sound = sound_at;
        tables = same_tables;
        rising = lawful.rising;
        cuts = λ s key. lawful.cuts s key ∙ sym (cuts s key);
      }

pub extended-lawful : Ties → ExtendedBoardsAreLawful
extended-lawful ties feeds board lawful may = lawful_extended ties feeds board lawful may

pub cuts-stay : Ties → CutsStay
cuts-stay ties feeds board lawful may = cuts ties feeds board lawful may

pub extended-reads : ExtendedBoardsReadTheirFeeds
extended-reads feeds board may s state e =
    let of : IsOf feeds board.streams s state = was feeds board.streams s state e in
    subst (HasFeed feeds s) of.is (record {
      feed = of.feed;
      fed = of.fed;
      whole = may.whole s of.feed of.fed;
      reads = record { plan = refl; length_read = of.old.applied; list = refl };
    })

pub to-copy : AddedTablesAreToCopy
to-copy feeds board lawful may s state e =
    let of : IsOf feeds board.streams s state = was feeds board.streams s state e in
    subst (λ (x : State). phase_of (standing_of x) ≡ CatchUp) of.is
    (catches_up of.feed of.old (lawful.sound s of.old of.here) (may.whole s of.feed of.fed) (may.extends s of.feed of.old of.fed of.here) (may.goes_on s of.feed of.old of.fed of.here))

-- ---- the new tables

inside_of : (state : State) (key : KeyValue) (row : RowValue) → cut_of state key ≡ Some row → is_inside state.marks key ≡ true
inside_of state key row cut = by (is_inside state.marks key) refl cut
  where
    by : (b : Bool) → is_inside state.marks key ≡ b → cond b (kept_at state.plan state.list state.applied key) None ≡ Some row → is_inside state.marks key ≡ true
    by true e h = e
    by false e h = absurd (none-some row h)

pub bare : AddedTablesAreBare
bare board lawful s state key here above = by (value_at key_cmp board.rows key) refl
  where
    owned : (t : ℕ) (row : RowValue) → cut_in board t key ≡ Some row → (o : Option State) → slice_get board.streams t ≡ o → cut_if key o ≡ Some row → value_at key_cmp board.rows key ≡ None
    owned t row cut None at h = absurd (none-some row h)
    owned t row cut (Some owner) at h =
        let sound : IsSoundState owner = lawful.sound t owner at in
        let inside : key.table < owner.marks.tables = inside_old owner.marks sound.marks key (inside_of owner key row h) in
        let tables : length owner.plan.tables ≡ length state.plan.tables = ap (λ (xs : List TableValue). length xs) (lawful.tables t s owner state at here) in
        absurd (omega (arith, inside, sound.tables, tables, above))

    by : (o : Option (ℕ × RowValue)) → value_at key_cmp board.rows key ≡ o → value_at key_cmp board.rows key ≡ None
    by None e = e
    by (Some there) e =
        let cut : cut_in board there.0 key ≡ Some there.1
        = sym (lawful.cuts there.0 key) ∙ ap (own_row there.0) e ∙ ap (λ b. cond b (Some there.1) None) (eq-eqb there.0 there.0 refl) in
        owned there.0 there.1 cut (slice_get board.streams there.0) refl cut
