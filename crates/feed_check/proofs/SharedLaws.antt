-- The least key that two feeds touch: what touches and groups add to it, and what it is.
use Rattle.std.proofs.Common.{◌≡◌, ◌≢◌, ◌<◌, ℕ, zero, suc, ◌+◌, arith, Bool, true, false, cond, List, [], ◌∷◌, ◌++◌, length, drop, take, map, get_or, Option, Some, None, Ordering, refl, sym, ap, subst, ◌∙◌}
use Rattle.std.specs.Prelude.{is_some, IfSome}
use Rattle.std.specs.List.{AllByRecursion}
use Rattle.std.specs.Option.{option_map, option_or}
use Rattle.std.specs.Ordering.{eq_by_cmp, is_lt, ordering_reverse}
use Rattle.std.specs.Cmp.{Equal-is}
use Rattle.std.specs.declared.cmp.Ordering.TheVariants.{Less, Equal, Greater}
use Rattle.std.proofs.lemmas.Bool.{true≢false}
use Rattle.std.proofs.lemmas.Cmp.{tied_itself}
use Rattle.std.proofs.lemmas.List.{append_assoc, append-nil, drop_more, take_more}
use Rattle.std.proofs.lemmas.Option.{same_Some, none-some}
use Rattle.list_laws.proofs.Choices.{map-or, map-cond}
use Rattle.board_laws.specs.Runs.{IsTouchedIn}
use Rattle.pk_copy.specs.KeyOrder.{key_cmp}
use Rattle.pk_copy.specs.KeyOrderLaws.{key_cmp_total}
use Rattle.pk_copy.specs.KeyValue.{KeyValue}
use Rattle.target_tables.specs.Touches.{last_at}
use Rattle.source_feed.specs.History.{touches_in}
use Rattle.source_feed.specs.Touches.{PutValue, TouchValue, PreparedValue}
use Rattle.source_feed.proofs.ImageLaws.{last_at-append}
use Rattle.feed_check.specs.Checked.{CheckedValue}
use Rattle.feed_check.specs.Replay.{left_at}
use Rattle.feed_check.specs.Private.Owners.{owner_after, touched_by}
use Rattle.feed_check.specs.Shared.{History, SharedValue, touches_key, first_touching, lesser, shared_at, shared_among, shared_from, histories_of, TouchesKey, IsOfOne, IsTold}

-- ---- touches of several groups

pub among_append : (others : KeyValue → Option ℕ) (i : ℕ) (best : Option SharedValue) (one more : List TouchValue)
    → shared_among others i best (one ++ more) ≡ shared_among others i (shared_among others i best one) more
among_append others i best [] more = refl
among_append others i best (touch ∷ one) more = among_append others i (lesser best (shared_at others i touch.0)) one more

-- it depends on what others stand for its keys
pub among-same : (one other : KeyValue → Option ℕ) (i : ℕ) (best : Option SharedValue) (touches : List TouchValue) → ((key : KeyValue) → one key ≡ other key)
    → shared_among one i best touches ≡ shared_among other i best touches
among-same one other i best [] same = refl
among-same one other i best (touch ∷ later) same =
    ap (λ (o : Option ℕ). shared_among one i (lesser best (option_map (λ t. record { key = touch.0; one = i; other = t }) o)) later) (same touch.0)
    ∙ among-same one other i (lesser best (shared_at other i touch.0)) later same

-- ---- owners

last_at-touched : (i : ℕ) (touches : List TouchValue) (k : KeyValue) → last_at key_cmp (map (touched_by i) touches) k ≡ option_map (λ _. Some i) (last_at key_cmp touches k)
last_at-touched i [] k = refl
last_at-touched i (t ∷ touches) k =
    let f : Option PutValue → Option ℕ = λ _. Some i in
    let test : Bool = eq_by_cmp key_cmp k t.0 in
    ap (λ (v : Option (Option ℕ)). option_or v (cond test (Some (Some i)) None)) (last_at-touched i touches k)
    ∙ ap (λ (v : Option (Option ℕ)). option_or (option_map f (last_at key_cmp touches k)) v) (sym (map-cond f test t.1))
    ∙ sym (map-or f (last_at key_cmp touches k) (cond test (Some t.1) None))

left-owner : (i : ℕ) (last : Option (Option PutValue)) (there : Option ℕ) → left_at (option_map (λ _. Some i) last) there ≡ owner_after i (is_some last) there
left-owner i None there = refl
left-owner i (Some put) there = refl

owner-twice : (i : ℕ) (last earlier : Option (Option PutValue)) (there : Option ℕ) → owner_after i (is_some last) (owner_after i (is_some earlier) there) ≡ owner_after i (is_some (option_or last earlier)) there
owner-twice i None earlier there = refl
owner-twice i (Some put) earlier there = refl

-- one group's touches more
pub owners-more : (i : ℕ) (done touches all : List TouchValue) (put : List (KeyValue × Option ℕ)) (old between new : KeyValue → Option ℕ) → put ≡ map (touched_by i) touches → all ≡ done ++ touches
    → ((key : KeyValue) → new key ≡ left_at (last_at key_cmp put key) (between key))
    → ((key : KeyValue) → between key ≡ owner_after i (is_some (last_at key_cmp done key)) (old key))
    → (key : KeyValue) → new key ≡ owner_after i (is_some (last_at key_cmp all key)) (old key)
owners-more i done touches all put old between new p a n b key =
    n key
    ∙ ap (λ (l : List (KeyValue × Option ℕ)). left_at (last_at key_cmp l key) (between key)) p
    ∙ ap (λ (l : Option (Option ℕ)). left_at l (between key)) (last_at-touched i touches key)
    ∙ left-owner i (last_at key_cmp touches key) (between key)
    ∙ ap (λ (there : Option ℕ). owner_after i (is_some (last_at key_cmp touches key)) there) (b key)
    ∙ owner-twice i (last_at key_cmp touches key) (last_at key_cmp done key) (old key)
    ∙ ap (λ (l : Option (Option PutValue)). owner_after i (is_some l) (old key)) (sym (last_at-append done touches key))
    ∙ ap (λ (l : List TouchValue). owner_after i (is_some (last_at key_cmp l key)) (old key)) (sym a)

-- ---- what is below

-- the key is below what is found, if anything is
abbrev IsBelow : Option SharedValue → KeyValue → Type 0
IsBelow None key = Unit {0}
IsBelow (Some found) key = key_cmp key found.key ≡ Less

not_itself : (key : KeyValue) → key_cmp key key ≡ Less → ⊥
not_itself key e = true≢false (sym (ap is_lt e) ∙ ap is_lt (tied_itself key_cmp_total key))

-- what isn't above
below-least : (key best found : KeyValue) (r : Ordering) → key_cmp best found ≡ r → is_lt r ≡ false → key_cmp key found ≡ Less → key_cmp key best ≡ Less
below-least key best found Less e not_less below = cc
below-least key best found Equal e not_less below =
    let turned : key_cmp found best ≡ Equal = key_cmp_total.antisymm found best ∙ ap ordering_reverse e in
    let back : key_cmp found key ≡ key_cmp best key = key_cmp_total.congr found best key turned in
    key_cmp_total.antisymm key best ∙ ap ordering_reverse (sym back ∙ key_cmp_total.antisymm found key ∙ ap ordering_reverse below)
below-least key best found Greater e not_less below = key_cmp_total.trans key found best below (key_cmp_total.antisymm found best ∙ ap ordering_reverse e)

lesser-below : (best found : Option SharedValue) (key : KeyValue) → IsBelow (lesser best found) key → IsBelow best key × IsBelow found key
lesser-below None None key h = (tt, tt)
lesser-below (Some best) None key h = (h, tt)
lesser-below None (Some found) key h = (tt, h)
lesser-below (Some best) (Some found) key h = by (is_lt (key_cmp best.key found.key)) refl h
  where
    less : (r : Ordering) → is_lt r ≡ true → r ≡ Less
    less Less e = refl
    less Equal e = cc
    less Greater e = cc

    by : (b : Bool) → is_lt (key_cmp best.key found.key) ≡ b → IsBelow (cond b (Some best) (Some found)) key → (key_cmp key best.key ≡ Less) × (key_cmp key found.key ≡ Less)
    by true e h = (h, key_cmp_total.trans key best.key found.key h (less _ e))
    by false e h = (below-least key best.key found.key _ refl e h, h)

among-below : (others : KeyValue → Option ℕ) (i : ℕ) (best : Option SharedValue) (touches : List TouchValue) (key : KeyValue) → IsBelow (shared_among others i best touches) key
    → IsBelow best key × AllByRecursion (λ touch. IsBelow (shared_at others i touch.0) key) touches
among-below others i best [] key h = (h, tt)
among-below others i best (touch ∷ later) key h =
    let rest = among-below others i (lesser best (shared_at others i touch.0)) later key h in
    let both = lesser-below best (shared_at others i touch.0) key rest.0 in
    (both.0, (both.1, rest.1))

-- ---- what is found

-- one of two
lesser-either : (P : SharedValue → Type 0) (best found : Option SharedValue) → IfSome best P → IfSome found P → IfSome (lesser best found) P
lesser-either P best None h f = h
lesser-either P None (Some found) h f = f
lesser-either P (Some best) (Some found) h f = by (is_lt (key_cmp best.key found.key))
  where
    by : (b : Bool) → IfSome (cond b (Some best) (Some found)) P
    by true = h
    by false = f

among-either : (P : SharedValue → Type 0) (others : KeyValue → Option ℕ) (i : ℕ) (best : Option SharedValue) (touches : List TouchValue) → IfSome best P
    → AllByRecursion (λ touch. IfSome (shared_at others i touch.0) P) touches → IfSome (shared_among others i best touches) P
among-either P others i best [] h all = h
among-either P others i best (touch ∷ later) h all = among-either P others i (lesser best (shared_at others i touch.0)) later (lesser-either P best (shared_at others i touch.0) h all.0) all.1

-- ---- touches of a key

some-left : {A : Type 0} (u v : Option A) → u ≢ None → option_or u v ≢ None
some-left None v h = λ e. h refl
some-left (Some x) v h = λ e. none-some _ (sym e)

-- each of these touches is of a key that is touched
all-touched : (touches : List TouchValue) → AllByRecursion (λ touch. last_at key_cmp touches touch.0 ≢ None) touches
all-touched [] = tt
all-touched (t ∷ touches) = (here, later touches (all-touched touches))
  where
    itself : (u : Option (Option PutValue)) (b : Bool) → b ≡ true → option_or u (cond b (Some t.1) None) ≢ None
    itself None true e = λ s. none-some _ (sym s)
    itself (Some x) b e = λ s. none-some _ (sym s)
    itself None false e = cc

    here : last_at key_cmp (t ∷ touches) t.0 ≢ None
    here = itself (last_at key_cmp touches t.0) (eq_by_cmp key_cmp t.0 t.0) ((Equal-is (key_cmp t.0 t.0)).1 (tied_itself key_cmp_total t.0))

    later : (some : List TouchValue) → AllByRecursion (λ touch. last_at key_cmp touches touch.0 ≢ None) some → AllByRecursion (λ touch. last_at key_cmp (t ∷ touches) touch.0 ≢ None) some
    later [] all = tt
    later (u ∷ some) all = (some-left (last_at key_cmp touches u.0) _ all.0, later some all.1)

module _ (ties : (a b : KeyValue) → key_cmp a b ≡ Equal → a ≡ b) where
  -- what is true of each touch's key is true of a key that is touched
  of-touched : (P : KeyValue → Type 0) (touches : List TouchValue) → AllByRecursion (λ touch. P touch.0) touches → (key : KeyValue) → last_at key_cmp touches key ≢ None → P key
  of-touched P [] all key there = elim (there refl) [ ]
  of-touched P (t ∷ touches) all key there = by (eq_by_cmp key_cmp key t.0) refl (of-touched P touches all.1 key)
    where
      behind : (u : Option (Option PutValue)) (b : Bool) → b ≡ false → option_or u (cond b (Some t.1) None) ≢ None → u ≢ None
      behind None false e some = some
      behind (Some x) b e some = λ s. none-some _ (sym s)
      behind None true e some = cc

      by : (b : Bool) → eq_by_cmp key_cmp key t.0 ≡ b → (last_at key_cmp touches key ≢ None → P key) → P key
      by true e rest = subst P (sym (ties key t.0 ((Equal-is (key_cmp key t.0)).0 e))) all.0
      by false e rest = rest (behind (last_at key_cmp touches key) (eq_by_cmp key_cmp key t.0) e there)

-- ---- the first feed that touches a key

is-touched : (history : History) (key : KeyValue) → touches_key history key ≡ true → IsTouchedIn history key
is-touched history key e none = true≢false (sym e ∙ ap is_some none)

pub not-first : (i : ℕ) (feeds : List History) (key : KeyValue) → first_touching i feeds key ≡ None → (s : ℕ) → TouchesKey feeds s key → ⊥
not-first i [] key e s at = none-some _ at.fed
not-first i (history ∷ later) key e s at = by (touches_key history key) refl e s at (not-first (i + 1) later key)
  where
    none : (o : Option (Option PutValue)) → is_some o ≡ false → o ≡ None
    none None f = refl
    none (Some x) f = cc

    by : (b : Bool) → touches_key history key ≡ b → cond b (Some i) (first_touching (i + 1) later key) ≡ None → (s : ℕ) → TouchesKey (history ∷ later) s key
        → (first_touching (i + 1) later key ≡ None → (t : ℕ) → TouchesKey later t key → ⊥) → ⊥
    by true t e s at rest = none-some _ (sym e)
    by false t e zero at rest =
        let same : history ≡ at.history = same_Some _ _ at.fed in
        at.touched (ap (λ (h : History). last_at key_cmp (touches_in h) key) (sym same) ∙ none _ t)
    by false t e (suc s) at rest = rest e s (record { history = at.history; fed = at.fed; touched = at.touched })

-- it is one of them
pub record IsAmong (i : ℕ) (feeds : List History) (key : KeyValue) (stream : ℕ) : Type 0 where
  pub place : ℕ
  pub is : stream ≡ i + place
  pub touches : TouchesKey feeds place key

among-later : (i : ℕ) (history : History) (later : List History) (key : KeyValue) (stream : ℕ) → IsAmong (i + 1) later key stream → IsAmong i (history ∷ later) key stream
among-later i history later key stream a = record {
  place = suc a.place;
  is = a.is ∙ omega arith;
  touches = record { history = a.touches.history; fed = a.touches.fed; touched = a.touches.touched };
}

is-first : (i : ℕ) (feeds : List History) (key : KeyValue) → IfSome (first_touching i feeds key) (IsAmong i feeds key)
is-first i [] key = tt
is-first i (history ∷ later) key = by (touches_key history key) refl (is-first (i + 1) later key)
  where
    on : (o : Option ℕ) → IfSome o (IsAmong (i + 1) later key) → IfSome o (IsAmong i (history ∷ later) key)
    on None h = tt
    on (Some stream) h = among-later i history later key stream h

    by : (b : Bool) → touches_key history key ≡ b → IfSome (first_touching (i + 1) later key) (IsAmong (i + 1) later key)
        → IfSome (cond b (Some i) (first_touching (i + 1) later key)) (IsAmong i (history ∷ later) key)
    by true e rest = record { place = 0; is = omega arith; touches = record { history = history; fed = refl; touched = is-touched history key e } }
    by false e rest = on (first_touching (i + 1) later key) rest

-- ---- the law

-- two of the feeds touch the key, numbered from one on
record IsPair (i : ℕ) (feeds : List History) (shared : SharedValue) : Type 0 where
  pub apart : shared.one < shared.other
  pub one : IsAmong i feeds shared.key shared.one
  pub other : IsAmong i feeds shared.key shared.other

pairs-later : (i : ℕ) (history : History) (later : List History) (o : Option SharedValue) → IfSome o (IsPair (i + 1) later) → IfSome o (IsPair i (history ∷ later))
pairs-later i history later None h = tt
pairs-later i history later (Some shared) h = record {
  apart = h.apart;
  one = among-later i history later shared.key shared.one h.one;
  other = among-later i history later shared.key shared.other h.other;
}

pair-at : (i : ℕ) (history : History) (later : List History) (key : KeyValue) → IsTouchedIn history key → IfSome (shared_at (first_touching (i + 1) later) i key) (IsPair i (history ∷ later))
pair-at i history later key touched = by (first_touching (i + 1) later key) (is-first (i + 1) later key)
  where
    by : (o : Option ℕ) → IfSome o (IsAmong (i + 1) later key) → IfSome (option_map (λ (other : ℕ). record { key = key; one = i; other = other }) o) (IsPair i (history ∷ later))
    by None h = tt
    by (Some other) h = record {
      apart = let e : other ≡ i + 1 + h.place = h.is in omega (arith, e);
      one = record { place = 0; is = omega arith; touches = record { history = history; fed = refl; touched = touched } };
      other = among-later i history later key other h;
    }

all-pairs : (i : ℕ) (history : History) (later : List History) (touches : List TouchValue) → AllByRecursion (λ touch. IsTouchedIn history touch.0) touches
    → AllByRecursion (λ touch. IfSome (shared_at (first_touching (i + 1) later) i touch.0) (IsPair i (history ∷ later))) touches
all-pairs i history later [] all = tt
all-pairs i history later (t ∷ touches) all = (pair-at i history later t.0 all.0, all-pairs i history later touches all.1)

found-pair : (i : ℕ) (feeds : List History) → IfSome (shared_from i feeds) (IsPair i feeds)
found-pair i [] = tt
found-pair i (history ∷ later) =
    among-either (IsPair i (history ∷ later)) (first_touching (i + 1) later) i (shared_from (i + 1) later) (touches_in history)
    (pairs-later i history later (shared_from (i + 1) later) (found-pair (i + 1) later))
    (all-pairs i history later (touches_in history) (all-touched (touches_in history)))

inner : (history : History) (later : List History) (s : ℕ) (key : KeyValue) → TouchesKey (history ∷ later) (suc s) key → TouchesKey later s key
inner history later s key at = record { history = at.history; fed = at.fed; touched = at.touched }

-- what is below a key of two feeds is told of no other feed
alone : (i : ℕ) (later : List History) (key : KeyValue) (o : Option ℕ) → o ≡ first_touching (i + 1) later key → IsBelow (option_map (λ (other : ℕ). record { key = key; one = i; other = other }) o) key
    → first_touching (i + 1) later key ≡ None
alone i later key None e below = sym e
alone i later key (Some other) e below = elim (not_itself key below) [ ]

module _ (ties : (a b : KeyValue) → key_cmp a b ≡ Equal → a ≡ b) where
  no_other : (i : ℕ) (history : History) (later : List History) (key : KeyValue) → AllByRecursion (λ touch. IsBelow (shared_at (first_touching (i + 1) later) i touch.0) key) (touches_in history)
      → TouchesKey (history ∷ later) 0 key → (t : ℕ) → TouchesKey later t key → ⊥
  no_other i history later key below at t other =
      let same : history ≡ at.history = same_Some _ _ at.fed in
      let touched : IsTouchedIn history key = subst (λ (h : History). IsTouchedIn h key) (sym same) at.touched in
      let here = of-touched ties (λ k. IsBelow (shared_at (first_touching (i + 1) later) i k) key) (touches_in history) below key touched in
      not-first (i + 1) later key (alone i later key (first_touching (i + 1) later key) refl here) t other

  of-two : (i : ℕ) (history : History) (later : List History) (key : KeyValue) → AllByRecursion (λ touch. IsBelow (shared_at (first_touching (i + 1) later) i touch.0) key) (touches_in history)
      → IsOfOne later key → IsOfOne (history ∷ later) key
  of-two i history later key below rest zero zero one other = refl
  of-two i history later key below rest zero (suc t) one other = elim (no_other i history later key below one t (inner history later t key other)) [ ]
  of-two i history later key below rest (suc s) zero one other = elim (no_other i history later key below other s (inner history later s key one)) [ ]
  of-two i history later key below rest (suc s) (suc t) one other = ap suc (rest s t (inner history later s key one) (inner history later t key other))

  of-one : (i : ℕ) (feeds : List History) (key : KeyValue) → IsBelow (shared_from i feeds) key → IsOfOne feeds key
  of-one i [] key below = λ s t one other. elim (none-some _ one.fed) [ ]
  of-one i (history ∷ later) key below =
      let split = among-below (first_touching (i + 1) later) i (shared_from (i + 1) later) (touches_in history) key below in
      of-two i history later key split.1 (of-one (i + 1) later key split.0)

  pub told : (feeds : List History) → IsTold feeds (shared_from 0 feeds)
  told feeds = by (shared_from 0 feeds) (found-pair 0 feeds) (of-one 0 feeds)
    where
      at_place : (key : KeyValue) (stream : ℕ) → IsAmong 0 feeds key stream → TouchesKey feeds stream key
      at_place key stream a = let e : stream ≡ a.place = omega (arith, a.is) in subst (λ (s : ℕ). TouchesKey feeds s key) (sym e) a.touches

      by : (o : Option SharedValue) → IfSome o (IsPair 0 feeds) → ((key : KeyValue) → IsBelow o key → IsOfOne feeds key) → IsTold feeds o
      by None pair none = λ key. none key tt
      by (Some shared) pair none = record {
        apart = pair.apart;
        one = at_place shared.key shared.one pair.one;
        other = at_place shared.key shared.other pair.other;
        none_less = none;
      }

-- ---- one feed more, from the last to the first

front : (checks : List CheckedValue) (i : ℕ) (check : CheckedValue) → i < length checks → check ≡ get_or checks i check → drop i checks ≡ check ∷ drop (i + 1) checks
front checks i check within is = drop_more checks i check within ∙ ap (λ c. c ∷ drop (i + 1) checks) (sym is)

pub least-more : (checks : List CheckedValue) (i : ℕ) (check : CheckedValue) (best least : Option SharedValue) (owners : KeyValue → Option ℕ) → i < length checks → check ≡ get_or checks i check
    → least ≡ shared_among owners i best (touches_in check.history) → best ≡ shared_from (i + 1) (histories_of (drop (i + 1) checks))
    → ((key : KeyValue) → owners key ≡ first_touching (i + 1) (histories_of (drop (i + 1) checks)) key) → least ≡ shared_from i (histories_of (drop i checks))
least-more checks i check best least owners within at is before same =
    is
    ∙ ap (λ (b : Option SharedValue). shared_among owners i b (touches_in check.history)) before
    ∙ among-same owners (first_touching (i + 1) (histories_of (drop (i + 1) checks))) i (shared_from (i + 1) (histories_of (drop (i + 1) checks))) (touches_in check.history) same
    ∙ sym (ap (λ (cs : List CheckedValue). shared_from i (histories_of cs)) (front checks i check within at))

pub first-more : (checks : List CheckedValue) (i : ℕ) (check : CheckedValue) (owners more : KeyValue → Option ℕ) → i < length checks → check ≡ get_or checks i check
    → ((key : KeyValue) → more key ≡ owner_after i (touches_key check.history key) (owners key))
    → ((key : KeyValue) → owners key ≡ first_touching (i + 1) (histories_of (drop (i + 1) checks)) key) → (key : KeyValue) → more key ≡ first_touching i (histories_of (drop i checks)) key
first-more checks i check owners more within at is same key =
    is key
    ∙ ap (λ (o : Option ℕ). owner_after i (touches_key check.history key) o) (same key)
    ∙ sym (ap (λ (cs : List CheckedValue). first_touching i (histories_of cs) key) (front checks i check within at))

-- ---- the touches of one group more

touches-snoc : {A : Type 0} (f : A → PreparedValue) (groups : List A) (group : A) → touches_in (map f (groups ++ group ∷ [])) ≡ touches_in (map f groups) ++ (f group).touches
touches-snoc f [] group = append-nil (f group).touches
touches-snoc f (first ∷ groups) group =
    ap (λ (ts : List TouchValue). (f first).touches ++ ts) (touches-snoc f groups group)
    ∙ sym (append_assoc (f first).touches (touches_in (map f groups)) (f group).touches)

pub touches-more : {A : Type 0} (f : A → PreparedValue) (groups : List A) (i : ℕ) (group : A) → i < length groups → group ≡ get_or groups i group
    → touches_in (map f (take (i + 1) groups)) ≡ touches_in (map f (take i groups)) ++ (f group).touches
touches-more f groups i group within is =
    ap (λ (gs : List _). touches_in (map f gs)) (take_more groups i group within ∙ ap (λ g. take i groups ++ g ∷ []) (sym is))
    ∙ touches-snoc f (take i groups) group

-- the touches of the groups that are left
pub among-more : {A : Type 0} (f : A → PreparedValue) (others : KeyValue → Option ℕ) (i : ℕ) (best least : Option SharedValue) (groups : List A) (g : ℕ) (group : A) (touches : List TouchValue)
    → least ≡ shared_among others i best touches → touches ≡ (f group).touches → g < length groups → group ≡ get_or groups g group
    → shared_among others i least (touches_in (map f (drop (g + 1) groups))) ≡ shared_among others i best (touches_in (map f (drop g groups)))
among-more f others i best least groups g group touches is of within at =
    ap (λ (b : Option SharedValue). shared_among others i b (touches_in (map f (drop (g + 1) groups)))) (is ∙ ap (λ (ts : List TouchValue). shared_among others i best ts) of)
    ∙ sym (among_append others i best (f group).touches (touches_in (map f (drop (g + 1) groups))))
    ∙ sym (ap (λ (gs : List _). shared_among others i best (touches_in (map f gs))) (drop_more groups g group within ∙ ap (λ x. x ∷ drop (g + 1) groups) (sym at)))
