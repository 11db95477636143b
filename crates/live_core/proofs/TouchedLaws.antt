-- The keys that streams have touched since a board was told.
use Rattle.std.proofs.Common.{◌≡◌, ◌||◌, ◌↔◌, ℕ, ◌+◌, ◌-◌, ◌<◌, ◌≤◌, inl, inr, Bool, true, false, List, [], ◌∷◌, ◌++◌, length, map, take, drop, Option, Some, None, slice_get, refl, sym, ap, subst, ◌∙◌, arith}
use Rattle.std.proofs.lemmas.Bool.{true≢false, cases_lt}
use Rattle.std.proofs.lemmas.List.{take_more, drop-take, drop-map, take-map, map-append}
use Rattle.std.proofs.lemmas.Option.{same_Some, slice_get_within, get_or_from_slice_get}
use Rattle.std.specs.Prelude.{IfSome, IsSomeAnd}
use Rattle.pk_copy.specs.KeyValue.{KeyValue}
use Rattle.stream_core.specs.Standing.{Standing}
use Rattle.source_feed.specs.History.{touches_in}
use Rattle.source_feed.specs.Touches.{PreparedValue}
use Rattle.board_laws.specs.Lawful.{standing_of}
use Rattle.board_laws.specs.Meaning.{State, Meaning}
use Rattle.board_laws.specs.Runs.{IsTouchedIn}
use Rattle.change_laws.specs.Since.{HaveGoneOn, applied_behind, HasTouched, IsTouchedSince}
use Rattle.live_core.specs.Private.Keys.{has_key, is_touched, IsTouchedBelow}
use Rattle.apply_core.proofs.StreamsThatStandSo.{the-one}
use Rattle.list_laws.proofs.Places.{place_of}
use Rattle.live_core.proofs.KeyLaws.{touched-is}

-- ---- how many groups are applied

abbrev count_of : State → ℕ
count_of state = state.applied

-- of one stream more
pub applied-more : (streams : List State) (s : ℕ) (at : Standing) (counts longer : List ℕ) → IsSomeAnd (slice_get streams s) (λ state. at ≡ standing_of state) → longer ≡ counts ++ at.applied ∷ []
    → counts ≡ map count_of (take s streams) → longer ≡ map count_of (take (s + 1) streams)
applied-more streams s at counts longer here is so_far = by (slice_get streams s) refl here
  where
    by : (o : Option State) → slice_get streams s ≡ o → IsSomeAnd o (λ state. at ≡ standing_of state) → longer ≡ map count_of (take (s + 1) streams)
    by None e h = absurd h
    by (Some state) e h =
        let more : take (s + 1) streams ≡ take s streams ++ state ∷ []
        = take_more streams s state (slice_get_within streams s state e) ∙ ap (λ (x : State). take s streams ++ x ∷ []) (get_or_from_slice_get streams s state state e) in
        is ∙ ap (λ (xs : List ℕ). xs ++ at.applied ∷ []) so_far
        ∙ ap (λ (n : ℕ). map count_of (take s streams) ++ n ∷ []) (ap (λ (x : Standing). x.applied) h)
        ∙ sym (map-append count_of (take s streams) (state ∷ []))
        ∙ ap (map count_of) (sym more)

-- ---- the groups that are applied since

-- those between two numbers
pub between-behind : (count : ℕ) (state : State) → count ≤ state.applied → take (state.applied - count) (drop count state.list) ≡ applied_behind count state
between-behind count state le =
    let whole : count + (state.applied - count) ≡ state.applied = omega arith in
    sym (ap (λ (n : ℕ). drop count (take n state.list)) (sym whole) ∙ drop-take count (state.applied - count) state.list)

-- of a stream that is there
pub since-mapped : {X : Type 0} (f : X → PreparedValue) (o : Option State) (count n : ℕ) (at : Standing) (list : List X) → n ≡ at.applied → IsSomeAnd o (λ state. at ≡ standing_of state) → IsSomeAnd o (λ state. map f list ≡ state.list)
    → IfSome o (λ state. count ≤ state.applied) → IfSome o (λ state. map f (take (n - count) (drop count list)) ≡ applied_behind count state)
since-mapped f None count n at list many stands lists within = tt
since-mapped f (Some state) count n at list many stands lists within =
    let all : n ≡ state.applied = many ∙ ap (λ (x : Standing). x.applied) stands in
    sym (take-map f (n - count) (drop count list))
    ∙ ap (take (n - count)) (sym (drop-map f count list) ∙ ap (drop count) lists)
    ∙ ap (λ (k : ℕ). take (k - count) (drop count state.list)) all
    ∙ between-behind count state within

-- no fewer are applied than when it was told
pub count-within : (told board : Meaning) → HaveGoneOn told board → (s count : ℕ) → IsSomeAnd (slice_get told.streams s) (λ state. count ≡ state.applied) → IfSome (slice_get board.streams s) (λ state. count ≤ state.applied)
count-within told board gone s count stood = by (slice_get board.streams s) refl
  where
    before : (state : State) × (slice_get told.streams s ≡ Some state) × (count ≡ state.applied)
    before = the-one (slice_get told.streams s) (λ state. count ≡ state.applied) stood

    by : (o : Option State) → slice_get board.streams s ≡ o → IfSome o (λ state. count ≤ state.applied)
    by None e = tt
    by (Some after) e = subst (λ (n : ℕ). n ≤ after.applied) (sym before.2) (gone.each s before.0 after before.1 e).applied

-- ---- the keys that are touched

module _ (told board : Meaning) where
  below-next : (key : KeyValue) (s : ℕ) → IsTouchedBelow told board key s → IsTouchedBelow told board key (s + 1)
  below-next key s below = (below.0, omega (arith, below.1), below.2)

  -- by one stream more
  pub below-more : (s : ℕ) (before after : State) (keys grown : List KeyValue) (groups : List PreparedValue) → slice_get told.streams s ≡ Some before → slice_get board.streams s ≡ Some after
      → groups ≡ applied_behind before.applied after → ((q : KeyValue) → has_key grown q ≡ (has_key keys q || is_touched (touches_in groups) q)) → ((q : KeyValue) → (has_key keys q ≡ true) ↔ IsTouchedBelow told board q s)
      → (q : KeyValue) → (has_key grown q ≡ true) ↔ IsTouchedBelow told board q (s + 1)
  below-more s before after keys grown groups stood stands are more so_far q = (λ e. forth (has_key keys q) refl (sym (more q) ∙ e), back)
    where
      forth : (b : Bool) → has_key keys q ≡ b → (has_key keys q || is_touched (touches_in groups) q) ≡ true → IsTouchedBelow told board q (s + 1)
      forth true e both = below-next q s ((so_far q).0 e)
      forth false e both =
          let touched : is_touched (touches_in groups) q ≡ true = ap (λ (b : Bool). b || is_touched (touches_in groups) q) (sym e) ∙ both in
          (s, omega arith, record { before = before; stood = stood; after = after; stands = stands; touched = subst (λ (gs : List PreparedValue). IsTouchedIn gs q) are ((touched-is groups q).0 touched) })

      or-left : (b c : Bool) → b ≡ true → (b || c) ≡ true
      or-left b c e = ap (λ (x : Bool). x || c) e

      or-right : (b c : Bool) → c ≡ true → (b || c) ≡ true
      or-right true c e = refl
      or-right false c e = e

      here : HasTouched told board q s → has_key grown q ≡ true
      here has =
          let was : has.before ≡ before = same_Some has.before before (sym has.stood ∙ stood) in
          let is : has.after ≡ after = same_Some has.after after (sym has.stands ∙ stands) in
          let same : applied_behind has.before.applied has.after ≡ groups = ap (λ (x : State). applied_behind x.applied has.after) was ∙ ap (applied_behind before.applied) is ∙ sym are in
          more q ∙ or-right (has_key keys q) (is_touched (touches_in groups) q) ((touched-is groups q).1 (subst (λ (gs : List PreparedValue). IsTouchedIn gs q) same has.touched))

      back : IsTouchedBelow told board q (s + 1) → has_key grown q ≡ true
      back below =
          elim (cases_lt below.0 s) [
            | inl less ↦ more q ∙ or-left (has_key keys q) (is_touched (touches_in groups) q) ((so_far q).1 (below.0, less, below.2))
            | inr past ↦ here (subst (λ n. HasTouched told board q n) (let e : below.0 ≡ s = omega (arith, past, below.1) in e) below.2)
          ]

  -- the same, as the calls give it
  pub below-turn : (s count : ℕ) (keys grown : List KeyValue) (groups : List PreparedValue) → s < length board.streams → IsSomeAnd (slice_get told.streams s) (λ state. count ≡ state.applied)
      → IfSome (slice_get board.streams s) (λ state. groups ≡ applied_behind count state) → ((q : KeyValue) → has_key grown q ≡ (has_key keys q || is_touched (touches_in groups) q))
      → ((q : KeyValue) → (has_key keys q ≡ true) ↔ IsTouchedBelow told board q s) → (q : KeyValue) → (has_key grown q ≡ true) ↔ IsTouchedBelow told board q (s + 1)
  below-turn s count keys grown groups within stood since more so_far =
      let before : (state : State) × (slice_get told.streams s ≡ Some state) × (count ≡ state.applied) = the-one (slice_get told.streams s) (λ state. count ≡ state.applied) stood in
      let after : (state : State) × (slice_get board.streams s ≡ Some state) = place_of board.streams s within in
      let are : groups ≡ applied_behind count after.0 = subst (λ (o : Option State). IfSome o (λ state. groups ≡ applied_behind count state)) after.1 since in
      below-more s before.0 after.0 keys grown groups before.1 after.1 (are ∙ ap (λ (n : ℕ). applied_behind n after.0) before.2) more so_far

  -- by none
  pub below-none : (keys : List KeyValue) → keys ≡ [] → (q : KeyValue) → (has_key keys q ≡ true) ↔ IsTouchedBelow told board q 0
  below-none keys empty q = (λ e. absurd (true≢false (sym e ∙ ap (λ (l : List KeyValue). has_key l q) empty)), λ below. absurd (omega (arith, below.1)))

  -- by all
  pub below-all : (keys : List KeyValue) (count : ℕ) → count ≡ length board.streams → ((q : KeyValue) → (has_key keys q ≡ true) ↔ IsTouchedBelow told board q count) → (q : KeyValue) → (has_key keys q ≡ true) ↔ IsTouchedSince told board q
  below-all keys count all so_far q = (
    λ e. let below = (so_far q).0 e in (below.0, below.2),
    λ since. (so_far q).1 (since.0, omega (arith, all, slice_get_within board.streams since.0 since.1.after since.1.stands), since.1),
  )
