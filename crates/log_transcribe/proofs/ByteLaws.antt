-- The byte of a refusal: behind how many transactions it stands, call by call; and a file's first bytes as they are counted.
use Rattle.std.proofs.Common.{◌≡◌, ℕ, ◌+◌, ◌<◌, ◌≤◌, Bool, true, List, length, take, drop, drop-drop, Option, None, Some, Result, Ok, Err, refl, sym, ap, subst, ◌∙◌, arith}
use Rattle.std.specs.Prelude.{is_some, false, nat_lt}
use Rattle.std.proofs.lemmas.Bool.{ltb-true, ltb-false}
use Rattle.log_events.specs.declared.fault.EventFault.{EventFault}
use Rattle.log_events.specs.declared.fault.LogFault.{LogFault}
use Rattle.log_events.specs.declared.fault.LogFault.TheVariants.{NoLog, Encrypted}
use Rattle.log_events.specs.Number.{little, number}
use Rattle.log_events.specs.Log.{LogValue, log_at}
use Rattle.log_events.proofs.CutLaws.{next_cut}
use Rattle.log_groups.specs.Cuts.{MayGoOn}
use Rattle.log_groups.specs.declared.fault.GroupFault.{GroupFault}
use Rattle.log_groups.specs.declared.fault.GroupFault.TheVariants.{Event, Unended, Twice, NotPrepared, StillPrepared}
use Rattle.log_places.specs.declared.fault.PlaceFault.{PlaceFault}
use Rattle.log_places.specs.declared.fault.PlaceFault.TheVariants.{GoesBack, NoNumber}
use Rattle.log_course.specs.declared.fault.CourseFault.TheVariants.{Log, Group, Place}
use Rattle.log_laws.specs.declared.fault.TellFault.TheVariants.{Change, Position}
use Rattle.log_transcribe.specs.declared.fault.LogsFault.{LogsFault}
use Rattle.log_transcribe.specs.declared.fault.LogsFault.TheVariants.{Course, Tell, TooLong}
use Rattle.log_groups.specs.Step.{steps_of}
use Rattle.log_groups.specs.Transaction.{transactions_of}
use Rattle.log_transcribe.specs.declared.fault.LogsError.{LogsError}
use Rattle.log_transcribe.specs.declared.fault.LogsError.TheVariants as logs_error
use Rattle.log_transcribe.specs.declared.fault.StreamError.{StreamError}
use Rattle.log_transcribe.specs.declared.fault.StreamError.TheVariants as stop
use Rattle.log_transcribe.specs.declared.byte.Cut.{Cut}
use Rattle.log_transcribe.specs.Byte.{BeginsAt, BeginsBehind, EndsAt, FailsAt, GroupAt, IsCut, IsFirst, NoNumberAt, PlaceAt, StandsAt, byte_of_log}
use Rattle.log_transcribe.specs.Private.Cuts.{Begins, BeginningIs, CutIs, CutsAre, EndIs, Fails, Follows, IsCutAt, NextIs, StandsNotBefore, next_byte}
use Rattle.log_transcribe.specs.Private.Sends.{CountsOne, CountsSent, IsOfLogs, Sending, Sends, StopsAt, TellsByte}

-- ---- behind how many transactions

module _ (bytes : List ℕ) where
  -- a write that failed
  pub sent_nowhere : (told : Option ℕ) (error : StreamError) (old new : Sending) → Sends (Err error) old new → StopsAt bytes told error
  sent_nowhere told stop.Memory old new s = tt
  sent_nowhere told stop.Unwritten old new s = tt
  sent_nowhere told (stop.Unread file) old new s = tt
  sent_nowhere told (stop.Feed fault) old new s = tt
  sent_nowhere told (stop.Fault fault byte) old new s = absurd s

  -- none more are told
  stops_behind : (told behind : ℕ) (stops : StreamError) → behind ≡ 0 → StopsAt bytes (Some told) stops → StopsAt bytes (Some (told + behind)) stops
  stops_behind told behind stops none is = subst (λ (n : ℕ). StopsAt bytes (Some n) stops) (omega (arith, none)) is

  pub stops_here : (told behind fewer : ℕ) (error : LogsError) (stops : StreamError) → IsOfLogs error stops → CountsOne (Err error) behind fewer → StopsAt bytes (Some told) stops → StopsAt bytes (Some (told + behind)) stops
  stops_here told behind fewer logs_error.Memory stops of none is = rw of tt
  stops_here told behind fewer (logs_error.Fault fault) stops of none is = stops_behind told behind stops none is

  -- behind as many as there are
  pub stops_told : (told many : ℕ) (error : StreamError) → many ≡ told → StopsAt bytes (Some told) error → StopsAt bytes (Some many) error
  stops_told told many error same is = subst (λ (n : ℕ). StopsAt bytes (Some n) error) (sym same) is

  pub tells_told : {X : Type 0} (one other : Option ℕ) (answer : Result X StreamError) → one ≡ other → TellsByte bytes other answer → TellsByte bytes one answer
  tells_told one other answer same is = subst (λ (n : Option ℕ). TellsByte bytes n answer) (sym same) is

pub sent_so : (more : Bool) (old new : ℕ) → CountsOne (Ok more) old new → CountsSent (Ok more) old new
sent_so true old new c = c
sent_so false old new c = tt

pub counts_on : (more : Bool) (told all old new many : ℕ) → more ≡ true → CountsSent (Ok more) old new → many ≡ told + old → all ≡ told + 1 → many ≡ all + new
counts_on true told all old new many is c e next = omega (arith, c, e, next)
counts_on false told all old new many is c e next = cc

-- ---- a file's first bytes

same_log : (one other : LogValue) → ◌≡◌ {A = Result LogValue LogFault} (Ok one) (Ok other) → one ≡ other
same_log one other e = cc

pub none_there : (fault : Option EventFault) → is_some fault ≡ false → fault ≡ None
none_there None e = refl
none_there (Some fault) e = cc

-- the log is read twice
pub cut_is : (bytes : List ℕ) (byte events transactions : ℕ) (end : Option GroupFault) (one other : LogValue) → byte ≤ length bytes → log_at (take byte bytes) ≡ Ok one → one.events.fault ≡ None → length one.events.items ≡ events
    → log_at (take byte bytes) ≡ Ok other → length (transactions_of (steps_of other.events)).items ≡ transactions → (transactions_of (steps_of other.events)).fault ≡ end → IsCut bytes byte events transactions end
cut_is bytes byte events transactions end one other within is sound many again told ends =
    let same : other ≡ one = same_log other one (sym again ∙ is) in
    record {
      within = within;
      log = one;
      is = is;
      sound = sound;
      many = many;
      told = subst (λ (log : LogValue). length (transactions_of (steps_of log.events)).items ≡ transactions) same told;
      ends = subst (λ (log : LogValue). (transactions_of (steps_of log.events)).fault ≡ end) same ends;
    }

-- ---- cuts

as_wanted : (bytes : List ℕ) (byte events transactions : ℕ) (end : Option GroupFault) (c : Cut) → IsCutAt bytes byte c → c.events ≡ events → c.transactions ≡ transactions → c.end ≡ end → IsCut bytes byte events transactions end
as_wanted bytes byte events transactions end c is many told ends =
    subst (λ (n : ℕ). IsCut bytes byte n transactions end) many
    (subst (λ (n : ℕ). IsCut bytes byte c.events n end) told (subst (λ (e : Option GroupFault). IsCut bytes byte c.events c.transactions e) ends is))

-- they are one
record AreSame (one other : ℕ) (many more : ℕ) (end last : Option GroupFault) : Type 0 where
  events : one ≡ other
  transactions : many ≡ more
  ends : end ≡ last

cut_same : (bytes : List ℕ) (byte one other many more : ℕ) (end last : Option GroupFault) → IsCut bytes byte one many end → IsCut bytes byte other more last → AreSame one other many more end last
cut_same bytes byte one other many more end last a b =
    let same : a.log ≡ b.log = same_log a.log b.log (sym a.is ∙ b.is) in
    record {
      events = sym a.many ∙ ap (λ (l : LogValue). length l.events.items) same ∙ b.many;
      transactions = sym a.told ∙ ap (λ (l : LogValue). length (transactions_of (steps_of l.events)).items) same ∙ b.told;
      ends = sym a.ends ∙ ap (λ (l : LogValue). (transactions_of (steps_of l.events)).fault) same ∙ b.ends;
    }

number_there : (bytes : List ℕ) (byte : ℕ) → number (byte + 9) 4 bytes ≡ number 9 4 (drop byte bytes)
number_there bytes byte = ap (λ (l : List ℕ). little (take 4 l)) (sym (drop-drop 9 byte bytes))

-- one with an event more ends behind the event that stands there
next_same : (bytes : List ℕ) (byte next events one other : ℕ) (end last : Option GroupFault) → IsCut bytes byte events one end → IsCut bytes next (events + 1) other last → next ≡ next_byte bytes byte
next_same bytes byte next events one other end last a b =
    next_cut bytes byte next a.log b.log a.within b.within a.is a.sound b.is b.sound (b.many ∙ ap (λ (n : ℕ). n + 1) (sym a.many)) ∙ ap (λ (n : ℕ). byte + n) (number_there bytes byte)

-- ---- there is none

pub no_other : {X : Type 0} (x : Option X) → ((y : X) → x ≡ Some y → ⊥) → x ≡ None
no_other None not = refl
no_other (Some y) not = absurd (not y refl)

pub none_beyond : (bytes : List ℕ) (byte : ℕ) → length bytes < byte → CutIs bytes byte None
none_beyond bytes byte less events transactions end is = absurd (omega (arith, less, is.within))

pub none_read : (bytes : List ℕ) (byte : ℕ) (fault : LogFault) → log_at (take byte bytes) ≡ Err fault → CutIs bytes byte None
none_read bytes byte fault e events transactions end is = let both : ◌≡◌ {A = Result LogValue LogFault} (Err fault) (Ok is.log) = sym e ∙ is.is in cc

is_there : (fault : Option EventFault) → is_some fault ≡ true → fault ≡ None → ⊥
is_there None e none = cc
is_there (Some fault) e none = cc

pub none_sound : (bytes : List ℕ) (byte : ℕ) (log : LogValue) (fault : Option EventFault) → log_at (take byte bytes) ≡ Ok log → log.events.fault ≡ fault → is_some fault ≡ true → CutIs bytes byte None
none_sound bytes byte log fault e faulty some events transactions end is =
    let same : log ≡ is.log = same_log log is.log (sym e ∙ is.is) in
    is_there fault some (sym faulty ∙ ap (λ (l : LogValue). l.events.fault) same ∙ is.sound)

pub none_before : (bytes : List ℕ) (byte : ℕ) → CutIs bytes byte None → CutsAre bytes byte None
none_before bytes byte none events one other next end last a b = none events one end a

pub none_next : (bytes : List ℕ) (byte : ℕ) → NextIs bytes byte None → CutsAre bytes byte None
none_next bytes byte none events one other next end last a b =
    absurd (omega (arith, next_same bytes byte next events one other end last a b, b.within, none a.within))

pub none_behind : (bytes : List ℕ) (byte place : ℕ) → NextIs bytes byte (Some place) → CutIs bytes place None → CutsAre bytes byte None
none_behind bytes byte place is none events one other next end last a b =
    none (events + 1) other last (subst (λ (n : ℕ). IsCut bytes n (events + 1) other last) (next_same bytes byte next events one other end last a b ∙ sym is) b)

-- ---- with one event more

pub begins_there : (bytes : List ℕ) (byte : ℕ) (before behind : Cut) → CutsAre bytes byte (Some (before, behind)) → Begins before behind → BeginsAt bytes byte before.transactions
begins_there bytes byte before behind are is = record {
  events = before.events;
  next = next_byte bytes byte;
  before = as_wanted bytes byte before.events before.transactions None before are.0 refl refl is.0;
  behind = as_wanted bytes (next_byte bytes byte) (before.events + 1) before.transactions (Some Unended) behind are.1 is.2.0 is.2.1 is.1;
}

pub begins_nowhere : (bytes : List ℕ) (byte : ℕ) → CutsAre bytes byte None → BeginningIs bytes byte None
begins_nowhere bytes byte none many is = none is.events many many is.next None (Some Unended) is.before is.behind

-- what the two are
pair_is : (bytes : List ℕ) (byte next events transactions : ℕ) (end last : Option GroupFault) (before behind : Cut) → CutsAre bytes byte (Some (before, behind)) → IsCut bytes byte events transactions end → IsCut bytes next (events + 1) transactions last
    → (before.end ≡ end) × (behind.end ≡ last) × Follows before behind
pair_is bytes byte next events transactions end last before behind are a b =
    let one = cut_same bytes byte before.events events before.transactions transactions before.end end are.0 a in
    let there : next ≡ next_byte bytes byte = next_same bytes byte next events transactions transactions end last a b in
    let two = cut_same bytes (next_byte bytes byte) behind.events (events + 1) behind.transactions transactions behind.end last are.1 (subst (λ (n : ℕ). IsCut bytes n (events + 1) transactions last) there b) in
    (one.ends, two.ends, (two.events ∙ ap (λ (n : ℕ). n + 1) (sym one.events), two.transactions ∙ sym one.transactions))

pub begins_not : (bytes : List ℕ) (byte : ℕ) (before behind : Cut) → CutsAre bytes byte (Some (before, behind)) → (Begins before behind → ⊥) → BeginningIs bytes byte None
begins_not bytes byte before behind are not many is = not (pair_is bytes byte is.next is.events many None (Some Unended) before behind are is.before is.behind)

pub begins_once : (bytes : List ℕ) (byte one other : ℕ) → BeginsAt bytes byte one → BeginsAt bytes byte other → one ≡ other
begins_once bytes byte one other a b = (cut_same bytes byte a.events b.events one other None None a.before b.before).transactions

pub fails_there : (bytes : List ℕ) (byte : ℕ) (fault : GroupFault) (before behind : Cut) → CutsAre bytes byte (Some (before, behind)) → Fails before behind fault → FailsAt bytes byte fault
fails_there bytes byte fault before behind are is = record {
  events = before.events;
  transactions = before.transactions;
  end = before.end;
  sofar = is.0;
  next = next_byte bytes byte;
  before = are.0;
  behind = as_wanted bytes (next_byte bytes byte) (before.events + 1) before.transactions (Some fault) behind are.1 is.2.0 is.2.1 is.1;
}

pub fails_nowhere : (bytes : List ℕ) (byte : ℕ) (fault : GroupFault) → CutsAre bytes byte None → FailsAt bytes byte fault → ⊥
fails_nowhere bytes byte fault none is = none is.events is.transactions is.transactions is.next is.end (Some fault) is.before is.behind

pub fails_not : (bytes : List ℕ) (byte : ℕ) (fault : GroupFault) (before behind : Cut) → CutsAre bytes byte (Some (before, behind)) → (Fails before behind fault → ⊥) → FailsAt bytes byte fault → ⊥
fails_not bytes byte fault before behind are not is =
    let two = pair_is bytes byte is.next is.events is.transactions is.end (Some fault) before behind are is.before is.behind in
    not (subst (λ (e : Option GroupFault). MayGoOn e) (sym two.0) is.sofar, two.1, two.2)

pub ends_there : (bytes : List ℕ) (byte : ℕ) (before : Cut) (log : LogValue) (events : ℕ) (fault : Option EventFault) → IsCutAt bytes byte before → log_at bytes ≡ Ok log → length log.events.items ≡ events → log.events.fault ≡ fault → events ≡ before.events
    → EndsAt bytes byte fault
ends_there bytes byte before log events fault is read many stops same = record {
  events = before.events;
  transactions = before.transactions;
  end = before.end;
  before = is;
  log = log;
  is = read;
  all = many ∙ same;
  stops = stops;
}

pub unended_there : (bytes : List ℕ) (byte transactions : ℕ) (whole : Cut) → BeginsAt bytes byte transactions → IsCutAt bytes (length bytes) whole → whole.transactions ≡ transactions → whole.end ≡ Some Unended → GroupAt bytes None Unended byte
unended_there bytes byte transactions whole begins is same lasts =
    (transactions, whole.events, begins, as_wanted bytes (length bytes) whole.events transactions (Some Unended) whole is refl same lasts)

-- ---- it stands nowhere there

pub behind_not : (bytes : List ℕ) (byte many told : ℕ) → BeginsAt bytes byte many → (many ≡ told → ⊥) → BeginsAt bytes byte told → ⊥
behind_not bytes byte many told a not b = not (begins_once bytes byte many told a b)

pub unended_nowhere : (bytes : List ℕ) (byte : ℕ) → BeginningIs bytes byte None → GroupAt bytes None Unended byte → ⊥
unended_nowhere bytes byte none is = none is.0 is.2

pub unended_unread : (bytes : List ℕ) (byte : ℕ) → CutIs bytes (length bytes) None → GroupAt bytes None Unended byte → ⊥
unended_unread bytes byte none is = none is.1 is.0 (Some Unended) is.3

whole_is : (bytes : List ℕ) (byte transactions : ℕ) (whole : Cut) → BeginsAt bytes byte transactions → IsCutAt bytes (length bytes) whole → GroupAt bytes None Unended byte → (whole.transactions ≡ transactions) × (whole.end ≡ Some Unended)
whole_is bytes byte transactions whole begins w is =
    let same = cut_same bytes (length bytes) whole.events is.1 whole.transactions is.0 whole.end (Some Unended) w is.3 in
    (same.transactions ∙ begins_once bytes byte is.0 transactions is.2 begins, same.ends)

pub unended_other : (bytes : List ℕ) (byte transactions : ℕ) (whole : Cut) → BeginsAt bytes byte transactions → IsCutAt bytes (length bytes) whole → (whole.transactions ≡ transactions → ⊥) → GroupAt bytes None Unended byte → ⊥
unended_other bytes byte transactions whole begins w not is = not (whole_is bytes byte transactions whole begins w is).0

pub unended_ended : (bytes : List ℕ) (byte transactions : ℕ) (whole : Cut) → BeginsAt bytes byte transactions → IsCutAt bytes (length bytes) whole → (whole.end ≡ Some Unended → ⊥) → GroupAt bytes None Unended byte → ⊥
unended_ended bytes byte transactions whole begins w not is = not (whole_is bytes byte transactions whole begins w is).1

pub ends_nowhere : (bytes : List ℕ) (byte : ℕ) → CutIs bytes byte None → EndIs bytes byte None
ends_nowhere bytes byte none fault is = none is.events is.transactions is.end is.before

pub ends_unread : (bytes : List ℕ) (byte : ℕ) (wrong : LogFault) → log_at bytes ≡ Err wrong → EndIs bytes byte None
ends_unread bytes byte wrong e fault is = let both : ◌≡◌ {A = Result LogValue LogFault} (Err wrong) (Ok is.log) = sym e ∙ is.is in cc

pub ends_not : (bytes : List ℕ) (byte : ℕ) (before : Cut) (log : LogValue) (events : ℕ) → IsCutAt bytes byte before → log_at bytes ≡ Ok log → length log.events.items ≡ events → (events ≡ before.events → ⊥) → EndIs bytes byte None
ends_not bytes byte before log events is read many not fault at =
    let same = cut_same bytes byte before.events at.events before.transactions at.transactions before.end at.end is at.before in
    let logs : log ≡ at.log = same_log log at.log (sym read ∙ at.is) in
    not (sym many ∙ ap (λ (l : LogValue). length l.events.items) logs ∙ at.all ∙ sym same.events)

ends_once : (bytes : List ℕ) (byte : ℕ) (one other : Option EventFault) → EndsAt bytes byte one → EndsAt bytes byte other → one ≡ other
ends_once bytes byte one other a b = sym a.stops ∙ ap (λ (l : LogValue). l.events.fault) (same_log a.log b.log (sym a.is ∙ b.is)) ∙ b.stops

pub event_not : (bytes : List ℕ) (byte : ℕ) (end : Option (Option EventFault)) (fault : EventFault) → EndIs bytes byte end → (end ≡ Some (Some fault) → ⊥) → EndsAt bytes byte (Some fault) → ⊥
event_not bytes byte None fault none not is = none (Some fault) is
event_not bytes byte (Some end) fault ends not is = not (ap (λ (e : Option EventFault). Some e) (ends_once bytes byte end (Some fault) ends is))

pub prepared_not : (bytes : List ℕ) (byte : ℕ) (end : Option (Option EventFault)) → EndIs bytes byte end → is_some end ≡ false → ((fault : Option EventFault) × EndsAt bytes byte fault) → ⊥
prepared_not bytes byte None none e is = none is.0 is.1
prepared_not bytes byte (Some end) ends e is = cc

pub first_nowhere : (bytes : List ℕ) (byte : ℕ) → CutIs bytes byte None → IsFirst bytes byte → ⊥
first_nowhere bytes byte none is = none 0 0 None is

pub first_is : (bytes : List ℕ) (byte : ℕ) (c : Cut) → IsCutAt bytes byte c → IsFirst bytes byte → (c.events ≡ 0) × (c.transactions ≡ 0) × (c.end ≡ None)
first_is bytes byte c is first =
    let same = cut_same bytes byte c.events 0 c.transactions 0 c.end None is first in
    (same.events, same.transactions, same.ends)

-- ---- up to the end of the file

behind_within : (bytes : List ℕ) (told : Option ℕ) (byte : ℕ) → BeginsBehind bytes told byte → byte ≤ length bytes
behind_within bytes None byte is = absurd is
behind_within bytes (Some told) byte is = is.before.within

group_within : (bytes : List ℕ) (told : Option ℕ) (fault : GroupFault) (byte : ℕ) → GroupAt bytes told fault byte → byte ≤ length bytes
group_within bytes told (Event fault) byte is = is.before.within
group_within bytes told Unended byte is = is.2.before.within
group_within bytes told Twice byte is = behind_within bytes told byte is
group_within bytes told NotPrepared byte is = behind_within bytes told byte is
group_within bytes told StillPrepared byte is = is.1.before.within
group_within bytes told fault byte is = is.before.within

number_within : (bytes : List ℕ) (told : Option ℕ) (byte : ℕ) → NoNumberAt bytes told byte → byte ≤ length bytes
number_within bytes None byte is = is.within
number_within bytes (Some told) byte is = is.before.within

place_within : (bytes : List ℕ) (told : Option ℕ) (fault : PlaceFault) (byte : ℕ) → PlaceAt bytes told fault byte → byte ≤ length bytes
place_within bytes told GoesBack byte is = behind_within bytes told byte is
place_within bytes told NoNumber byte is = number_within bytes told byte is
place_within bytes told fault byte is = is.within

log_within : (fault : LogFault) → byte_of_log fault ≤ 4
log_within NoLog = omega arith
log_within Encrypted = omega arith
log_within fault = omega arith

stands_within : (bytes : List ℕ) (told : Option ℕ) (fault : LogsFault) (byte last : ℕ) → length bytes ≤ last → 4 ≤ last → StandsAt bytes told fault byte → byte ≤ last
stands_within bytes told (Course file (Log fault)) byte last long four is = omega (arith, four, is, log_within fault)
stands_within bytes told (Course file (Group fault)) byte last long four is = omega (arith, long, group_within bytes told fault byte is)
stands_within bytes told (Course file (Place fault)) byte last long four is = omega (arith, long, place_within bytes told fault byte is)
stands_within bytes told (Tell file (Change fault)) byte last long four is = omega (arith, long, behind_within bytes told byte is)
stands_within bytes told (Tell file Position) byte last long four is = absurd is
stands_within bytes told (TooLong file) byte last long four is = absurd is

-- one byte more
pub not_before : (bytes : List ℕ) (told : Option ℕ) (fault : LogsFault) (end : ℕ) → StandsNotBefore bytes told fault end → (StandsAt bytes told fault end → ⊥) → StandsNotBefore bytes told fault (end + 1)
not_before bytes told fault end before not byte less at = by_order (nat_lt byte end) refl
  where
    by_order : (b : Bool) → nat_lt byte end ≡ b → ⊥
    by_order true e = before byte (ltb-true byte end e) at
    by_order false e = not (subst (λ (k : ℕ). StandsAt bytes told fault k) (omega (arith, less, ltb-false byte end e)) at)
