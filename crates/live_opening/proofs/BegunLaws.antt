-- Feeds that are begun one behind another.
use Rattle.std.proofs.Common.{◌≡◌, ℕ, ◌<◌, ◌≤◌, inl, inr, List, [], ◌∷◌, ◌++◌, length, map, get_or, Some, None, Ok, slice_get, subst, refl, sym, ap, ◌∙◌, arith}
use Rattle.std.specs.Prelude.{IfSome}
use Rattle.std.specs.Option.{option_map}
use Rattle.std.proofs.lemmas.List.{length-map}
use Rattle.std.proofs.lemmas.Option.{same_Some, slice_get-map, slice_get_read, slice_get_within}
use Rattle.list_laws.proofs.Places.{place_of, slice_get-push}
use Rattle.filter_rule.specs.PlanValue.{PlanValue}
use Rattle.source_feed.specs.FaultNumber as feed
use Rattle.source_feed.specs.declared.fault.FeedFault.{FeedFault}
use Rattle.source_feed.specs.declared.fault.FeedFault.TheVariants.{Memory}
use Rattle.source_feed.specs.Growing.{IsRefusedFor, IsSettledFront, fault_so_far}
use Rattle.source_feed.specs.Planned.{FeedValue, groups_under}
use Rattle.live_core.specs.Source.{IsOfSource, bytes_of}
use Rattle.live_core.specs.declared.source.Source.{Source}
use Rattle.live_opening.specs.Opened.{AreBegun, IsBegun, IsUnbegun}

-- the feed of stream s is begun, of what has come of it
abbrev pub IsBegunAt : List PlanValue → List (List ℕ) → ℕ → FeedValue → Source → Type 0
IsBegunAt plans come s feed source = (plan : PlanValue) (one : List ℕ) → slice_get plans s ≡ Some plan → slice_get come s ≡ Some one → IsBegun plan one feed (bytes_of source)

-- what holds of the pairs at each place
abbrev pub AtEach : {A B : Type 0} → (ℕ → A → B → Type 0) → List A → List B → Type 0
AtEach {A} {B} P xs ys = (s : ℕ) (x : A) (y : B) → slice_get xs s ≡ Some x → slice_get ys s ≡ Some y → P s x y

-- ---- one more

-- it holds with one pair more
pub each-pushed : {A B : Type 0} (P : ℕ → A → B → Type 0) (n : ℕ) (xs xs2 : List A) (ys ys2 : List B) (x : A) (y : B) → length xs ≡ n → length ys ≡ n → xs2 ≡ xs ++ x ∷ [] → ys2 ≡ ys ++ y ∷ [] → P n x y
    → AtEach P xs ys → AtEach P xs2 ys2
each-pushed {A} {B} P n xs xs2 ys ys2 x y many same first second here before s a b there also =
    elim (slice_get-push xs x a s (subst (λ (l : List A). slice_get l s ≡ Some a) first there)) [
      | inl old ↦ elim (slice_get-push ys y b s (subst (λ (l : List B). slice_get l s ≡ Some b) second also)) [
        | inl older ↦ before s a b old.1 older.1
        | inr new ↦ absurd (omega (arith, old.0, new.0, many, same))
      ]
      | inr new ↦ elim (slice_get-push ys y b s (subst (λ (l : List B). slice_get l s ≡ Some b) second also)) [
        | inl old ↦ absurd (omega (arith, old.0, new.0, many, same))
        | inr newer ↦ subst (λ (c : B). P s a c) newer.1 (subst (λ (c : A). P s c y) new.1 (subst (λ (k : ℕ). P k x y) (sym (new.0 ∙ many)) here))
      ]
    ]

-- ---- what stands at a place

-- what a list of values has at a place where an element was read
value_at : {A V : Type 0} (value : A → V) (xs : List A) (s : ℕ) (x : A) (v : V) → s < length xs → x ≡ get_or xs s x → slice_get (map value xs) s ≡ Some v → v ≡ value x
value_at value xs s x v within read there = same_Some v (value x) (sym there ∙ slice_get-map value xs s ∙ ap (option_map value) (slice_get_read xs (length xs) s x refl within read))

there_at : {A V : Type 0} (value : A → V) (xs : List A) (s : ℕ) (x : A) → s < length xs → x ≡ get_or xs s x → slice_get (map value xs) s ≡ Some (value x)
there_at value xs s x within read = slice_get-map value xs s ∙ ap (option_map value) (slice_get_read xs (length xs) s x refl within read)

-- a feed with its source, of what had come
pub begun-here : {A V : Type 0} (value : A → PlanValue) (items : V → List ℕ) (plans : List A) (come : List V) (s : ℕ) (a : A) (v : V) (feed : FeedValue) (source : Source) → s < length plans → s < length come
    → a ≡ get_or plans s a → v ≡ get_or come s v → IsOfSource feed source → feed.plan ≡ value a → (rest : List ℕ) × IsSettledFront (items v) (bytes_of source) rest → fault_so_far (value a) (items v) ≡ None
    → IsBegunAt (map value plans) (map items come) s feed source
begun-here value items plans come s a v feed source planned came read taken is under front sound plan one this that =
    let same : plan ≡ value a = value_at value plans s a plan planned read this in
    let all : one ≡ items v = value_at items come s v one came taken that in
    subst (λ (p : PlanValue). IsBegun p one feed (bytes_of source)) (sym same) (subst (λ (bytes : List ℕ). IsBegun (value a) bytes feed (bytes_of source)) (sym all)
    (record {
      under = under;
      groups = subst (λ (p : PlanValue). groups_under (bytes_of source) p ≡ Ok feed.groups) under is.end.groups;
      rest = front.0;
      front = front.1;
      sound = sound;
    }))

-- ---- all

-- with a source for each feed
pub all-begun : (plans : List PlanValue) (come : List (List ℕ)) (feeds : List FeedValue) (sources : List Source) → length feeds ≡ length plans → length feeds ≡ length come → length sources ≡ length feeds
    → AtEach (IsBegunAt plans come) feeds sources → AreBegun plans come feeds (map bytes_of sources)
all-begun plans come feeds sources planned came known each = record {
  planned = planned;
  came = came;
  known = length-map sources bytes_of ∙ known;
  each = λ s plan one feed bytes this that there also.
      let within : s < length sources = subst (λ (n : ℕ). s < n) (length-map sources bytes_of) (slice_get_within (map bytes_of sources) s bytes also) in
      let source = place_of sources s within in
      let same : bytes ≡ bytes_of source.0 = same_Some bytes (bytes_of source.0) (sym also ∙ slice_get-map bytes_of sources s ∙ ap (option_map bytes_of) source.1) in
      subst (λ (bs : List ℕ). IsBegun plan one feed bs) (sym same) (each s feed source.0 there source.1 plan one this that);
}

-- ---- a fault

-- what has come of a feed is at fault, behind feeds that are begun
pub unbegun-here : {A V : Type 0} (value : A → PlanValue) (items : V → List ℕ) (plans : List A) (come : List V) (s : ℕ) (a : A) (v : V) (feeds : List FeedValue) (sources : List Source) (fault : FeedFault)
    → length plans ≡ length come → s < length plans → a ≡ get_or plans s a → v ≡ get_or come s v → length feeds ≡ s → length sources ≡ s → AtEach (IsBegunAt (map value plans) (map items come)) feeds sources
    → IfSome (feed.meant_of fault) (IsRefusedFor (value a) (items v)) → IsUnbegun (map value plans) (map items come) fault
unbegun-here value items plans come s a v feeds sources fault same planned read taken many known each why = record {
  count = length-map come items ∙ sym same ∙ sym (length-map plans value);
  s = s;
  plan = value a;
  planned = there_at value plans s a planned read;
  one = items v;
  came = there_at items come s v (subst (λ (n : ℕ). s < n) same planned) taken;
  why = why;
  before = λ t earlier other less this that.
      let one = place_of feeds t (omega (arith, less, many)) in
      let source = place_of sources t (omega (arith, less, known)) in
      (each t one.0 source.0 one.1 source.1 earlier other this that).sound;
}

-- memory is wanted for the first feed under its plan
pub unbegun-first : (plans : List PlanValue) (come : List (List ℕ)) → 1 ≤ length plans → length come ≡ length plans → IsUnbegun plans come Memory
unbegun-first plans come some same =
    let plan = place_of plans 0 some in
    let one = place_of come 0 (subst (λ (n : ℕ). 1 ≤ n) (sym same) some) in
    record {
      count = same;
      s = 0;
      plan = plan.0;
      planned = plan.1;
      one = one.0;
      came = one.1;
      why = tt;
      before = λ t earlier other less this that. absurd (omega (arith, less));
    }
