-- Streams that go on; states that are joined.
use Rattle.std.proofs.Common.{◌≡◌, ℕ, zero, suc, ◌+◌, Bool, true, false, true≢false, List, [], ◌∷◌, length, take, Option, Some, None, IsSomeAnd, slice_get, refl, sym, ap, ◌∙◌, subst, arith, if◌then◌else◌}
use Rattle.std.proofs.lemmas.List.{take-take}
use Rattle.board_laws.specs.Meaning.{State}
use Rattle.stream_worker.specs.Knowing.{names, states_joined}
use Rattle.stream_worker.specs.Rule.{StateGoesOn, AllGoOn}

-- ---- streams that go on

pub goes_on-refl : (state : State) → StateGoesOn state state
goes_on-refl state = record { plan = refl; applied = omega arith; groups = refl }

pub goes_on-trans : (a b c : State) → StateGoesOn a b → StateGoesOn b c → StateGoesOn a c
goes_on-trans a b c one two =
    record {
      plan = two.plan ∙ one.plan;
      applied = let x = one.applied in let y = two.applied in omega arith;
      groups =
          sym (take-take a.applied b.applied c.list one.applied)
          ∙ ap (take a.applied) two.groups
          ∙ take-take a.applied b.applied b.list one.applied
          ∙ one.groups;
    }

-- a stream that is there goes on from itself
pub same_goes_on : (o : Option State) (state : State) → o ≡ Some state → IsSomeAnd o (StateGoesOn state)
same_goes_on o state e = subst (λ (p : Option State). IsSomeAnd p (StateGoesOn state)) (sym e) (goes_on-refl state)

pub all_go_on-refl : (board : List State) → AllGoOn board board
all_go_on-refl board s state e = same_goes_on (slice_get board s) state e

pub all_go_on-same : (one two : List State) → two ≡ one → AllGoOn one two
all_go_on-same one two e = subst (λ (board : List State). AllGoOn one board) (sym e) (all_go_on-refl one)

pub all_go_on-trans : (one two three : List State) → AllGoOn one two → AllGoOn two three → AllGoOn one three
all_go_on-trans one two three f g s state e = by (slice_get two s) refl (f s state e)
  where
    behind : (o : Option State) (mid : State) → StateGoesOn state mid → IsSomeAnd o (StateGoesOn mid) → IsSomeAnd o (StateGoesOn state)
    behind None mid h k = k
    behind (Some last) mid h k = goes_on-trans state mid last h k

    by : (o : Option State) → slice_get two s ≡ o → IsSomeAnd o (StateGoesOn state) → IsSomeAnd (slice_get three s) (StateGoesOn state)
    by None e h = absurd h
    by (Some mid) e h = behind (slice_get three s) mid h (g s mid e)

-- ---- joined states

pub joined_long : (named : List ℕ) (n : ℕ) (theirs ours : List State) → length theirs ≡ length ours → length (states_joined named n theirs ours) ≡ length ours
joined_long named n [] ours long = refl
joined_long named n (their ∷ theirs) [] long = absurd (omega (arith, long))
joined_long named n (their ∷ theirs) (our ∷ ours) long = ap suc (joined_long named (suc n) theirs ours (omega (arith, long)))

pick : (b : Bool) (x y : State) → b ≡ true → Some (if b then x else y) ≡ Some x
pick true x y e = refl
pick false x y e = absurd (true≢false (sym e))

leave : (b : Bool) (x y : State) → b ≡ false → Some (if b then x else y) ≡ Some y
leave true x y e = absurd (true≢false e)
leave false x y e = refl

-- of a named stream its state is theirs
pub joined_named : (named : List ℕ) (n : ℕ) (theirs ours : List State) (s t : ℕ) → length theirs ≡ length ours → t ≡ n + s → names named t ≡ true
    → slice_get (states_joined named n theirs ours) s ≡ slice_get theirs s
joined_named named n [] [] s t long at e = refl
joined_named named n [] (our ∷ ours) s t long at e = absurd (omega (arith, long))
joined_named named n (their ∷ theirs) [] s t long at e = absurd (omega (arith, long))
joined_named named n (their ∷ theirs) (our ∷ ours) zero t long at e =
    let here : t ≡ n = omega (arith, at) in
    pick (names named n) their our (sym (ap (names named) here) ∙ e)
joined_named named n (their ∷ theirs) (our ∷ ours) (suc s) t long at e =
    let next : t ≡ suc n + s = omega (arith, at) in
    let short : length theirs ≡ length ours = omega (arith, long) in
    joined_named named (suc n) theirs ours s t short next e

-- of any other stream it is ours
pub joined_other : (named : List ℕ) (n : ℕ) (theirs ours : List State) (s t : ℕ) → length theirs ≡ length ours → t ≡ n + s → names named t ≡ false
    → slice_get (states_joined named n theirs ours) s ≡ slice_get ours s
joined_other named n [] ours s t long at e = refl
joined_other named n (their ∷ theirs) [] s t long at e = absurd (omega (arith, long))
joined_other named n (their ∷ theirs) (our ∷ ours) zero t long at e =
    let here : t ≡ n = omega (arith, at) in
    leave (names named n) their our (sym (ap (names named) here) ∙ e)
joined_other named n (their ∷ theirs) (our ∷ ours) (suc s) t long at e =
    let next : t ≡ suc n + s = omega (arith, at) in
    let short : length theirs ≡ length ours = omega (arith, long) in
    joined_other named (suc n) theirs ours s t short next e

-- the same of a state that is there
pub joined_theirs : (named : List ℕ) (n : ℕ) (theirs ours : List State) (s t : ℕ) (state : State) → t ≡ n + s → names named t ≡ true → slice_get theirs s ≡ Some state
    → slice_get (states_joined named n theirs ours) s ≡ Some state
joined_theirs named n [] ours s t state at e there = cc
joined_theirs named n (their ∷ theirs) [] s t state at e there = there
joined_theirs named n (their ∷ theirs) (our ∷ ours) zero t state at e there =
    let here : t ≡ n = omega (arith, at) in
    pick (names named n) their our (sym (ap (names named) here) ∙ e) ∙ there
joined_theirs named n (their ∷ theirs) (our ∷ ours) (suc s) t state at e there =
    let next : t ≡ suc n + s = omega (arith, at) in
    joined_theirs named (suc n) theirs ours s t state next e there

pub joined_ours : (named : List ℕ) (n : ℕ) (theirs ours : List State) (s t : ℕ) (state : State) → t ≡ n + s → names named t ≡ false → slice_get ours s ≡ Some state
    → slice_get (states_joined named n theirs ours) s ≡ Some state
joined_ours named n [] ours s t state at e there = there
joined_ours named n (their ∷ theirs) [] s t state at e there = cc
joined_ours named n (their ∷ theirs) (our ∷ ours) zero t state at e there =
    let here : t ≡ n = omega (arith, at) in
    leave (names named n) their our (sym (ap (names named) here) ∙ e) ∙ there
joined_ours named n (their ∷ theirs) (our ∷ ours) (suc s) t state at e there =
    let next : t ≡ suc n + s = omega (arith, at) in
    joined_ours named (suc n) theirs ours s t state next e there
