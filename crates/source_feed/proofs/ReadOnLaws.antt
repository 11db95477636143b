-- Reading a piece on behind some bytes.
use Rattle.std.proofs.Common.{◌≡◌, ℕ, zero, suc, ◌+◌, ◌-◌, ◌^◌, ◌<◌, ◌≤◌, nat_lt, true, false, List, [], ◌∷◌, ◌++◌, length, length-append, take, drop, reverse, Option, None, Some, Result, Ok, Err, IfSome, refl, sym, ap, subst, ◌∙◌, arith, inl, inr}
use Rattle.std.proofs.lemmas.Bool.{cond-true, cond-false, lt-ltb, or_parts}
use Rattle.std.proofs.lemmas.List.Folds.{list_any-append}
use Rattle.std.specs.List.{list_any}
use Rattle.std.specs.Option.{option_or}
use Rattle.list_laws.specs.Outcome.{◌>>=◌}
use Rattle.source_feed.specs.declared.fault.FeedFault.{FeedFault}
use Rattle.source_feed.specs.declared.feed_end.FeedEnd.{FeedEnd}
use Rattle.source_feed.specs.declared.group_reader.GroupReader.{GroupReader}
use Rattle.source_feed.specs.FaultNumber.{meant_of}
use Rattle.source_feed.specs.SourceValue.{SourceValue}
use Rattle.source_feed.specs.EventList.{events_of_feed}
use Rattle.source_feed.specs.PastEvents.{PastEvents}
use Rattle.source_feed.specs.Groups.{groups_of}
use Rattle.source_feed.specs.Planned.{FeedValue, source_of, differs}
use Rattle.source_feed.specs.Growing.{IsSettledFront, events_so_far, differing, fault_so_far, IsRefusedFor, IsEndOf}
use Rattle.source_feed.specs.Private.EventByEvent.{past_behind}
use Rattle.source_feed.specs.Private.KnownBehind.{past_of}
use Rattle.source_feed.specs.Private.ReadOn.{IsReadOn, IsFoundIn, IsSettledRead}
use Rattle.source_feed.specs.Private.ReaderState.{IsBehind}
use Rattle.source_feed.proofs.EventByEventLaws.{past_behind-append}
use Rattle.source_feed.proofs.EndLaws.{Known, known, Sound, sound, refused_behind, none_so_far, differs_so_far}
use Rattle.source_feed.proofs.GrowingLaws.{Events, so_far-whole, so_far_behind_whole, past_is}

-- ---- where the settled bytes end

take-front : {A : Type 0} (xs ys : List A) (n : ℕ) → n ≡ length xs → take n (xs ++ ys) ≡ xs
take-front [] ys zero e = refl
take-front [] ys (suc n) e = absurd (omega (arith, e))
take-front (x ∷ xs) ys zero e = absurd (omega (arith, e))
take-front {A} (x ∷ xs) ys (suc n) e = ap (λ (more : List A). x ∷ more) (take-front xs ys n (omega (arith, e)))

drop-front : {A : Type 0} (xs ys : List A) (n : ℕ) → n ≡ length xs → drop n (xs ++ ys) ≡ ys
drop-front [] ys zero e = refl
drop-front [] ys (suc n) e = absurd (omega (arith, e))
drop-front (x ∷ xs) ys zero e = absurd (omega (arith, e))
drop-front (x ∷ xs) ys (suc n) e = drop-front xs ys n (omega (arith, e))

long-take : {A : Type 0} (n : ℕ) (xs : List A) → n ≤ length xs → length (take n xs) ≡ n
long-take zero xs le = refl
long-take (suc n) [] le = absurd (omega (arith, le))
long-take (suc n) (x ∷ xs) le = ap suc (long-take n xs (omega (arith, le)))

take-own : {A : Type 0} (xs : List A) → take (length xs) xs ≡ xs
take-own [] = refl
take-own {A} (x ∷ xs) = ap (λ (more : List A). x ∷ more) (take-own xs)

pub taken_within : (piece due : List ℕ) (taken : ℕ) → taken ≡ length piece - length due → taken ≤ length piece
taken_within piece due taken e = omega (arith, e)

pub taken_front : (piece front due : List ℕ) (taken : ℕ) → IsSettledFront piece front due → taken ≡ length piece - length due → IsSettledFront piece (take taken piece) (drop taken piece)
taken_front piece front due taken f e =
    let long : length piece ≡ length front + length due = ap length f.parts ∙ length-append front due in
    let at : taken ≡ length front = omega (arith, e, long) in
    let before : take taken piece ≡ front = ap (take taken) f.parts ∙ take-front front due taken at in
    let behind : drop taken piece ≡ due = ap (drop taken) f.parts ∙ drop-front front due taken at in
    subst (λ (x : List ℕ). IsSettledFront piece x (drop taken piece)) (sym before) (subst (IsSettledFront piece front) (sym behind) f)

-- ---- the settled bytes of a piece that was read

abbrev past : PastEvents → Result PastEvents FeedFault
past history = Ok history

-- the first of two steps was done
abbrev FirstDone : Result PastEvents FeedFault → Type 0
FirstDone first = (middle : PastEvents) × (first ≡ Ok middle)

first_done : (first : Result PastEvents FeedFault) (next : PastEvents → Result PastEvents FeedFault) (history : PastEvents) → (first >>= next) ≡ Ok history → FirstDone first
first_done (Ok middle) next history e = (middle, refl)
first_done (Err fault) next history e = cc

module _ (bytes : List ℕ) (feed : FeedValue) (piece : List ℕ) (reader : GroupReader) (taken : ℕ) (r : IsReadOn bytes feed piece reader taken) where
  abbrev source : SourceValue
  source = source_of feed.plan

  abbrev front : List ℕ
  front = take taken piece

  abbrev rest : List ℕ
  rest = drop taken piece

  both : events_so_far piece ≡ record { items = (events_of_feed front).items ++ (events_so_far rest).items; fault = (events_so_far rest).fault }
  both = ap events_so_far r.front.parts ∙ so_far_behind_whole front rest r.front.settled.whole r.front.settled.read

  run : (past_behind source (past_of bytes) (events_of_feed front).items None >>= λ h. past_behind source h (events_so_far rest).items (events_so_far rest).fault) ≡ Ok r.history
  run =
      sym (past_behind-append source (past_of bytes) (events_of_feed front).items (events_so_far rest).items (events_so_far rest).fault)
      ∙ ap (λ (x : Events). past_behind source (past_of bytes) x.items x.fault) (sym both) ∙ r.past

  -- the settled bytes have no fault
  pub front_past : past_behind source (past_of bytes) (events_of_feed front).items None ≡ Ok (reverse (events_of_feed front).items ++ past_of bytes)
  front_past =
      let done = first_done (past_behind source (past_of bytes) (events_of_feed front).items None) (λ h. past_behind source h (events_so_far rest).items (events_so_far rest).fault) r.history run in
      done.1 ∙ ap past (past_is source (events_of_feed front).items None (past_of bytes) done.0 done.1).1

  pub front_alike : list_any (differs feed.plan) (events_of_feed front).items ≡ false
  front_alike =
      (or_parts (list_any (differs feed.plan) (events_of_feed front).items) (list_any (differs feed.plan) (events_so_far rest).items) (
      sym (list_any-append (differs feed.plan) (events_of_feed front).items (events_so_far rest).items) ∙ ap (λ (x : Events). list_any (differs feed.plan) x.items) (sym both) ∙ r.alike)).0

  front_so_far : events_so_far front ≡ events_of_feed front
  front_so_far = so_far-whole front r.front.settled.whole

  -- so they are read again, but for want of memory
  again : past_behind source (past_of bytes) (events_so_far front).items (events_so_far front).fault ≡ Ok (reverse (events_of_feed front).items ++ past_of bytes)
  again =
      ap (λ (x : Events). past_behind source (past_of bytes) x.items x.fault) front_so_far
      ∙ ap (past_behind source (past_of bytes) (events_of_feed front).items) r.front.settled.read ∙ front_past

  abbrev refused : FeedFault → Result PastEvents FeedFault
  refused fault = Err fault

  none_found : (fault : FeedFault) → IsFoundIn bytes feed front fault → ⊥
  none_found fault (inl e) = let no : past (reverse (events_of_feed front).items ++ past_of bytes) ≡ refused fault = sym again ∙ e in cc
  none_found fault (inr e) = let no : false ≡ true = sym (ap (λ (x : Events). list_any (differs feed.plan) x.items) front_so_far ∙ front_alike) ∙ e.2 in cc

  pub only_memory : (fault : FeedFault) → IfSome (meant_of fault) (IsFoundIn bytes feed front) → IfSome (meant_of fault) (IsFoundIn bytes feed piece)
  only_memory fault found = by (meant_of fault) found
    where
      by : (o : Option FeedFault) → IfSome o (IsFoundIn bytes feed front) → IfSome o (IsFoundIn bytes feed piece)
      by None h = tt
      by (Some f) h = absurd (none_found f h)

  -- all of the piece is settled
  pub settled_all : taken ≡ length piece → IsSettledRead bytes feed piece reader taken
  settled_all e = record {
    within = r.within;
    front = r.front;
    behind = subst (λ (h : PastEvents). IsBehind (groups_of source (past_of bytes)) source h reader) (same_past r.history (reverse (events_of_feed front).items ++ past_of bytes) here) r.behind;
    past = front_past;
    alike = front_alike;
    sound = (r.history, r.past);
    same = r.alike;
    numbers = r.numbers;
    room = omega (arith, r.room, e);
  }
    where
      same_past : (x y : PastEvents) → past x ≡ past y → x ≡ y
      same_past x y e = cc

      all : take taken piece ≡ piece
      all = ap (λ (n : ℕ). take n piece) e ∙ take-own piece

      here : past r.history ≡ past (reverse (events_of_feed front).items ++ past_of bytes)
      here = sym r.past ∙ ap (λ (p : List ℕ). past_behind source (past_of bytes) (events_so_far p).items (events_so_far p).fault) (sym all) ∙ again

  -- its settled bytes are read alone
  pub settled_part : (other : GroupReader) (size : ℕ) → IsReadOn bytes feed front other size → IsSettledRead bytes feed piece other taken
  settled_part other size o = record {
    within = r.within;
    front = r.front;
    behind = subst (λ (h : PastEvents). IsBehind (groups_of source (past_of bytes)) source h other) (same_past o.history (reverse (events_of_feed front).items ++ past_of bytes) (sym o.past ∙ again)) o.behind;
    past = front_past;
    alike = front_alike;
    sound = (r.history, r.past);
    same = r.alike;
    numbers = o.numbers;
    room = omega (arith, o.room, long-take taken piece r.within);
  }
    where
      same_past : (x y : PastEvents) → past x ≡ past y → x ≡ y
      same_past x y e = cc

-- ---- why all bytes are refused

module _ (bytes piece : List ℕ) (feed : FeedValue) (end : FeedEnd) (e : IsEndOf bytes feed end) (short : length bytes + length piece < 2 ^ 31) where
  k : Known bytes feed.plan feed.groups
  k = known bytes feed.plan feed.groups e.groups

  s : Sound bytes (source_of feed.plan) k.all
  s = sound bytes (source_of feed.plan) k.all k.defined

  within : length (bytes ++ piece) < 2 ^ 31
  within = omega (arith, length-append bytes piece, short)

  found_for : (fault : FeedFault) → IsFoundIn bytes feed piece fault → IsRefusedFor feed.plan (bytes ++ piece) fault
  found_for fault (inl err) = inl (refused_behind bytes piece feed.plan k.all fault s within err)
  found_for fault (inr differ) = inr (
    differ.0,
    record {
      faultless = none_so_far bytes piece (source_of feed.plan) k.all differ.1.0 s differ.1.1;
      differs = differs_so_far bytes piece feed.plan k.all true s k.alike differ.2;
    },
  )

  pub refused_for : (fault : FeedFault) → IfSome (meant_of fault) (IsFoundIn bytes feed piece) → IfSome (meant_of fault) (IsRefusedFor feed.plan (bytes ++ piece))
  refused_for fault found = by (meant_of fault) found
    where
      by : (o : Option FeedFault) → IfSome o (IsFoundIn bytes feed piece) → IfSome o (IsRefusedFor feed.plan (bytes ++ piece))
      by None h = tt
      by (Some f) h = found_for f h

  -- and why they aren't
  pub sound_for : (history : PastEvents) → past_behind (source_of feed.plan) (past_of bytes) (events_so_far piece).items (events_so_far piece).fault ≡ Ok history
      → list_any (differs feed.plan) (events_so_far piece).items ≡ false → fault_so_far feed.plan (bytes ++ piece) ≡ None
  sound_for history ok same =
      cond-true (nat_lt (length (bytes ++ piece)) (2 ^ 31)) _ _ (lt-ltb (length (bytes ++ piece)) (2 ^ 31) within)
      ∙ ap (λ (first : Option FeedFault). option_or first (differing feed.plan (events_so_far (bytes ++ piece)).items)) (none_so_far bytes piece (source_of feed.plan) k.all history s ok)
      ∙ cond-false (list_any (differs feed.plan) (events_so_far (bytes ++ piece)).items) _ _ (differs_so_far bytes piece feed.plan k.all false s k.alike same)
