-- One step of the way through the starts and ends of ranges.
use Rattle.std.proofs.Common.{◌≡◌, ◌≢◌, inl, inr, ℕ, suc, ◌<◌, ◌==◌, true, false, not, List, [], ◌∷◌, ◌++◌, length, Option, None, Some, IfSome, refl, ◌∙◌, ap, arith, cond}
use Rattle.std.proofs.lemmas.Bool.Decides.{nat_tests}
use Rattle.std.specs.Cmp.Lexicographic.{slice_cmp}
use Rattle.std.specs.List.{AllByRecursion}
use Rattle.std.specs.Ordering.{nat_cmp, is_le}
use Rattle.std.proofs.ByRecursion.{All-append}
use Rattle.vindex.specs.Bounds.{Bounds, is_below, in_range, is_ordered}
use Rattle.range_cover.specs.Cover.{ShareValue, MisfitValue, holders_of, IsMisfit, is_told, AreMisfits}
use Rattle.range_cover.specs.Private.Next.{is_less, next_from, inside, with_wrong}
use Rattle.range_cover.proofs.NextLaws.{next-before, next-behind, next-same, next-shrinks, above}
use Rattle.range_cover.proofs.Orders.{le-is, less-trans, less-upto, upto-upto, never_less}

-- ---- ids of a range

pub id-from : (range : Bounds) (id : List ℕ) → in_range range id ≡ true → (is_less id range.start ≡ false) × (is_below range.end id ≡ true)
id-from range id has =
    let at_least : is_le (slice_cmp nat_cmp range.start id) ≡ not (is_less id range.start) = le-is range.start id in
    grind (arith, at_least)

pub id-in : (range : Bounds) (id : List ℕ) → is_less id range.start ≡ false → is_below range.end id ≡ true → in_range range id ≡ true
id-in range id upto below =
    let at_least : is_le (slice_cmp nat_cmp range.start id) ≡ not (is_less id range.start) = le-is range.start id in
    grind (arith, at_least)

-- what isn't in a range though it isn't less than the start has reached the end
past_end : (range : Bounds) (q id : List ℕ) → in_range range q ≡ false → is_less q range.start ≡ false → is_below range.end id ≡ true → is_less id q ≡ true
past_end range q id out upto below =
    elim range.end as (λ end. range.end ≡ end → is_below end id ≡ true → is_less id q ≡ true) [
      | None ↦ λ is _. let is_in : in_range range q ≡ true = id-in range q upto (rw is refl) in absurd (cc)
      | Some end ↦ λ is before.
          elim (is_less q end) as (λ t. is_less q end ≡ t → is_less id q ≡ true) [
            | true ↦ λ less. let is_in : in_range range q ≡ true = id-in range q upto (rw is less) in absurd (cc)
            | false ↦ λ reached. less-upto id end q before reached
          ] refl
    ] refl below

-- ---- what was told so far

-- the ids of the whole before a place that aren't had once are told
abbrev pub ToldBefore : Bounds → List ShareValue → List MisfitValue → Option (List ℕ) → Type 0
ToldBefore whole shares found place = (id : List ℕ) → in_range whole id ≡ true → is_below place id ≡ true → length (holders_of shares id) ≢ 1 → is_told found id ≡ true

-- each that was found is one, nothing before the place is missing, and the place is one of the whole
pub record IsFarAs (whole : Bounds) (shares : List ShareValue) (found : List MisfitValue) (place : Option (List ℕ)) : Type 0 where
  pub each : AllByRecursion (IsMisfit whole shares) found
  pub all : ToldBefore whole shares found place
  pub within : IfSome place (λ p. in_range whole p ≡ true)

-- how many starts and ends are still to come
abbrev pub left_from : List ShareValue → Option (List ℕ) → ℕ
left_from shares None = 0
left_from shares (Some p) = suc (above p shares)

pub begun : (whole : Bounds) (shares : List ShareValue) → is_ordered whole ≡ true → IsFarAs whole shares [] (Some whole.start)
begun whole shares ordered = record {
  each = tt;
  all = λ id has before _. let from = id-from whole id has in absurd (cc);
  within = id-in whole whole.start (never_less whole.start) ordered;
}

pub ended : (whole : Bounds) (shares : List ShareValue) (found : List MisfitValue) → IsFarAs whole shares found None → AreMisfits whole shares found
ended whole shares found far = record {
  each = far.each;
  all = λ id has wrong. far.all id has refl wrong;
}

-- ---- one step

told-more : (misfits : List MisfitValue) (one : MisfitValue) (id : List ℕ) → is_told misfits id ≡ true → is_told (misfits ++ one ∷ []) id ≡ true
told-more [] one id told = cc
told-more (m ∷ misfits) one id told =
    elim (in_range m.range id) as (λ t. in_range m.range id ≡ t → is_told ((m ∷ misfits) ++ one ∷ []) id ≡ true) [
      | true ↦ λ is. rw is refl
      | false ↦ λ is. rw is (told-more misfits one id (rw is at told))
    ] refl

told-last : (misfits : List MisfitValue) (one : MisfitValue) (id : List ℕ) → in_range one.range id ≡ true → is_told (misfits ++ one ∷ []) id ≡ true
told-last [] one id has = rw has refl
told-last (m ∷ misfits) one id has =
    elim (in_range m.range id) as (λ t. in_range m.range id ≡ t → is_told ((m ∷ misfits) ++ one ∷ []) id ≡ true) [
      | true ↦ λ is. rw is refl
      | false ↦ λ is. rw is (told-last misfits one id has)
    ] refl

-- the ids from a place on and before the next start or end
abbrev pub piece : List ShareValue → List ℕ → Option (List ℕ) → MisfitValue
piece shares p next = record { range = record { start = p; end = next }; holders = holders_of shares p }

wrong_here : (whole : Bounds) (shares : List ShareValue) (p : List ℕ) → in_range whole p ≡ true → length (holders_of shares p) ≢ 1
    → IsMisfit whole shares (piece shares p (next_from p shares whole.end))
wrong_here whole shares p has wrong =
    let from = id-from whole p has in
    let next = next_from p shares whole.end in
    let range : Bounds = record { start = p; end = next } in
    record {
      some = next-behind p shares whole.end from.1;
      within = λ id inside_it.
          let it = id-from range id inside_it in
          id-in whole id (upto-upto whole.start p id from.0 it.0) (next-before p shares whole.end id it.1);
      held = λ id inside_it. let it = id-from range id inside_it in next-same p shares whole.end id it.1 it.0;
      wrong = wrong;
    }

-- what lies before the next place to go to lies before the next start or end
before-next : (whole : Bounds) (p id : List ℕ) (next : Option (List ℕ)) → in_range whole p ≡ true → in_range whole id ≡ true → is_below next p ≡ true → is_below (inside whole next) id ≡ true → is_below next id ≡ true
before-next whole p id None has_p has behind before = refl
before-next whole p id (Some q) has_p has behind before =
    elim (in_range whole q) as (λ t. in_range whole q ≡ t → is_less id q ≡ true) [
      | true ↦ λ is. rw is at before
      | false ↦ λ out.
          let upto : is_less q whole.start ≡ false = less-back whole.start p q (id-from whole p has_p).0 behind in
          past_end whole q id out upto (id-from whole id has).1
    ] refl
  where
    less-back : (start p q : List ℕ) → is_less p start ≡ false → is_less p q ≡ true → is_less q start ≡ false
    less-back start p q upto less =
        elim (is_less q start) as (λ t. is_less q start ≡ t → t ≡ false) [
          | true ↦ λ is. let over : is_less p start ≡ true = less-trans p q start less is in cc
          | false ↦ λ _. refl
        ] refl

isnt_one : (n : ℕ) → (n == 1) ≡ false → n ≢ 1
isnt_one n is = grind (arith, nat_tests)

is_one : (n : ℕ) → (n == 1) ≡ true → n ≡ 1
is_one n is = grind (arith, nat_tests)

-- by whether one holder has the ids of a piece
by_wrong : (P : List MisfitValue → Type 0) (shares : List ShareValue) (p : List ℕ) (next : Option (List ℕ)) (found : List MisfitValue)
    → (length (holders_of shares p) ≡ 1 → P found) → (length (holders_of shares p) ≢ 1 → P (found ++ piece shares p next ∷ []))
    → P (with_wrong p next (holders_of shares p) found)
by_wrong P shares p next found right wrong =
    elim (length (holders_of shares p) == 1) as (λ t. (length (holders_of shares p) == 1) ≡ t → P (cond t found (found ++ piece shares p next ∷ []))) [
      | true ↦ λ is. right (is_one (length (holders_of shares p)) is)
      | false ↦ λ is. wrong (isnt_one (length (holders_of shares p)) is)
    ] refl

each-more : (whole : Bounds) (shares : List ShareValue) (found : List MisfitValue) (p : List ℕ) → in_range whole p ≡ true → AllByRecursion (IsMisfit whole shares) found
    → AllByRecursion (IsMisfit whole shares) (with_wrong p (next_from p shares whole.end) (holders_of shares p) found)
each-more whole shares found p has each =
    by_wrong (AllByRecursion (IsMisfit whole shares)) shares p (next_from p shares whole.end) found (λ _. each)
    (λ wrong. All-append (IsMisfit whole shares) found (piece shares p (next_from p shares whole.end) ∷ []) each (wrong_here whole shares p has wrong, tt))

-- an id that was told stays so
told-kept : (shares : List ShareValue) (found : List MisfitValue) (p : List ℕ) (next : Option (List ℕ)) (id : List ℕ) → is_told found id ≡ true → is_told (with_wrong p next (holders_of shares p) found) id ≡ true
told-kept shares found p next id told =
    by_wrong (λ all. is_told all id ≡ true) shares p next found (λ _. told) (λ _. told-more found (piece shares p next) id told)

-- an id of the piece that isn't had once is told
told-here : (shares : List ShareValue) (found : List MisfitValue) (p : List ℕ) (next : Option (List ℕ)) (id : List ℕ)
    → holders_of shares id ≡ holders_of shares p → length (holders_of shares id) ≢ 1 → in_range (record { start = p; end = next }) id ≡ true
    → is_told (with_wrong p next (holders_of shares p) found) id ≡ true
told-here shares found p next id same wrong has =
    by_wrong (λ all. is_told all id ≡ true) shares p next found
    (λ right. absurd (wrong (ap (λ (holders : List ℕ). length holders) same ∙ right)))
    (λ _. told-last found (piece shares p next) id has)

all-more : (whole : Bounds) (shares : List ShareValue) (found : List MisfitValue) (p : List ℕ) → in_range whole p ≡ true → ToldBefore whole shares found (Some p)
    → ToldBefore whole shares (with_wrong p (next_from p shares whole.end) (holders_of shares p) found) (inside whole (next_from p shares whole.end))
all-more whole shares found p has all id has_id before wrong =
    let next = next_from p shares whole.end in
    elim (is_less id p) as (λ t. is_less id p ≡ t → is_told (with_wrong p next (holders_of shares p) found) id ≡ true) [
      | true ↦ λ less. told-kept shares found p next id (all id has_id less wrong)
      | false ↦ λ upto.
          let below : is_below next id ≡ true = before-next whole p id next has has_id (next-behind p shares whole.end (id-from whole p has).1) before in
          told-here shares found p next id (next-same p shares whole.end id below upto) wrong (id-in (record { start = p; end = next }) id upto below)
    ] refl

inside-within : (whole : Bounds) (next : Option (List ℕ)) → IfSome (inside whole next) (λ p. in_range whole p ≡ true)
inside-within whole None = tt
inside-within whole (Some q) =
    elim (in_range whole q) as (λ t. in_range whole q ≡ t → IfSome (cond t (Some q) None) (λ p. in_range whole p ≡ true)) [
      | true ↦ λ is. is
      | false ↦ λ _. tt
    ] refl

pub gone-on : (whole : Bounds) (shares : List ShareValue) (found : List MisfitValue) (p : List ℕ) → IsFarAs whole shares found (Some p)
    → IsFarAs whole shares (with_wrong p (next_from p shares whole.end) (holders_of shares p) found) (inside whole (next_from p shares whole.end))
gone-on whole shares found p far = record {
  each = each-more whole shares found p far.within far.each;
  all = all-more whole shares found p far.within far.all;
  within = inside-within whole (next_from p shares whole.end);
}

-- ---- the end

fewer_left : (whole : Bounds) (shares : List ShareValue) (p : List ℕ) (next : Option (List ℕ)) → next_from p shares whole.end ≡ next → is_below next p ≡ true → left_from shares (inside whole next) < suc (above p shares)
fewer_left whole shares p None is behind = omega arith
fewer_left whole shares p (Some q) is behind =
    elim (in_range whole q) as (λ t. in_range whole q ≡ t → left_from shares (cond t (Some q) None) < suc (above p shares)) [
      | false ↦ λ _. omega arith
      | true ↦ λ has.
          elim (next-shrinks p shares whole.end q behind is) [
            | inl at_end ↦
                let before : is_below whole.end q ≡ true = (id-from whole q has).1 in
                let less : is_less q q ≡ true = rw at_end at before in
                let never : is_less q q ≡ false = never_less q in
                absurd (cc)
            | inr fewer ↦ omega (arith, fewer)
          ]
    ] refl

pub fewer : (whole : Bounds) (shares : List ShareValue) (found : List MisfitValue) (p : List ℕ) → IsFarAs whole shares found (Some p)
    → left_from shares (inside whole (next_from p shares whole.end)) < left_from shares (Some p)
fewer whole shares found p far =
    fewer_left whole shares p (next_from p shares whole.end) refl (next-behind p shares whole.end (id-from whole p far.within).1)
