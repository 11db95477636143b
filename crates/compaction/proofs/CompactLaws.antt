-- What is written is the compacted feed.
use Rattle.std.proofs.Common.{◌≡◌, ℕ, ◌-◌, ◌^◌, ◌<◌, ◌≤◌, List, [], ◌∷◌, ◌++◌, length, map, reverse, Result, Ok, refl, sym, ap, subst, ◌∙◌, arith}
use Rattle.std.specs.Prelude.{IfSome}
use Rattle.std.proofs.lemmas.List.{append-nil, length-append}
use Rattle.vevent.specs.Event.{event_at}
use Rattle.vevent.specs.EventValue.{EventValue}
use Rattle.vevent.specs.declared.fault.EventFault.{EventFault}
use Rattle.source_feed.specs.EventList.{events_in_messages}
use Rattle.source_feed.specs.FaultNumber.{meant_of}
use Rattle.source_feed.specs.Image.{ImageRows}
use Rattle.source_feed.specs.Planned.{source_of, groups_under, FeedValue, IsFeed}
use Rattle.source_feed.specs.SoundGroups.{sound_groups, StopsBefore}
use Rattle.source_feed.specs.SourceValue.{SourceValue}
use Rattle.source_feed.specs.declared.fault.FeedFault.{FeedFault}
use Rattle.source_feed.specs.declared.fault.FeedFault.TheVariants as feed_fault
use Rattle.source_feed.proofs.FrameLaws.{frames_none}
use Rattle.event_laws.specs.BaseEvents.{base_events}
use Rattle.event_laws.specs.InForce.{in_force}
use Rattle.event_laws.specs.Laws.{HaveEvents, MessagesAreReadAgain}
use Rattle.event_laws.specs.WrittenMessages.{written_response, framed, written_messages}
use Rattle.event_laws.proofs.RestLaws.{whole_behind}
use Rattle.feed_bytes.specs.Cut.{IsCutBehind}
use Rattle.feed_bytes.specs.FieldBytes.{FieldBytesValue}
use Rattle.compaction_laws.specs.Base.{IsLeft}
use Rattle.compaction_laws.specs.CompactedBytes.{ReplacesFront, OpensCompacted}
use Rattle.compaction_laws.specs.CompactedFeed.{groups_to}
use Rattle.compaction_laws.specs.Laws.{BytesAreCompacted}
use Rattle.compaction_laws.specs.Portions.{event_of, rows_of}
use Rattle.compaction.specs.Compacting.{CutsFeed, HasGroup, KeepsAll, AreSound, IsCause, IsCompaction, IsOver, others_message, refusal_of_feed}
use Rattle.compaction.specs.Private.Limits.{IsOverBy, refusal_of_write}
use Rattle.compaction.specs.Private.Written.{IsBase, AddsBase}
use Rattle.compaction.specs.declared.cut.UnknownTables.{UnknownTables}
use Rattle.compaction.specs.declared.fault.WriteFault.{WriteFault}
use Rattle.compaction.specs.declared.fault.WriteFault.TheVariants.{TooLong, Memory}

abbrev Read : Type 0
Read = Result EventValue EventFault

abbrev good : EventValue → Read
good event = Ok event

nothing_read : (events : List EventValue) → [] ≡ map good events → events ≡ []
nothing_read [] e = refl
nothing_read (v ∷ events) e = cc

-- the other events of a message are read again
others_again : MessagesAreReadAgain → (others : List (List ℕ)) (behind : List EventValue) → length (others_message others) < 2 ^ 64 → map event_at others ≡ map good behind → HaveEvents (others_message others) behind
others_again again [] behind short e =
    subst (HaveEvents []) (sym (nothing_read behind e)) (record { whole = ap (λ r. r.fault) frames_none; are = ap (λ r. events_in_messages r.items r.fault) frames_none })
others_again again (p ∷ others) behind short e =
    let one : List ℕ = framed (written_response (p ∷ others)) in
    let is : written_messages ((p ∷ others) ∷ []) ≡ one = append-nil one in
    let parts : List (List ℕ) = p ∷ others in
    subst (λ (b : List ℕ). HaveEvents b behind) is
    (again (parts ∷ []) behind (subst (λ (b : List ℕ). length b < 2 ^ 64) (sym is) short) (ap (λ (ps : List (List ℕ)). map event_at ps) (append-nil parts) ∙ e))

module _ (law : BytesAreCompacted) (again : MessagesAreReadAgain) (feed : FeedValue) (bytes : List ℕ) (unknown : UnknownTables) (number : ℕ) (fields : List FieldBytesValue) (place : List ℕ) (others : List (List ℕ)) (rest base : List ℕ)
    (rows : ImageRows) (is_feed : IsFeed feed) (under : groups_under bytes feed.plan ≡ Ok feed.groups) (c : CutsFeed feed bytes unknown number fields place others rest) (sound : number ≤ length (sound_groups feed))
    (left : IsLeft (sound_groups feed) number rows) (adds : AddsBase feed.plan [] base fields rows place) (new : List ℕ) (parts_are : new ≡ base ++ (others_message others ++ rest)) (new_short : length new < 2 ^ 31) where
  abbrev source : SourceValue
  source = source_of feed.plan

  abbrev cut : IsCutBehind bytes source number fields place others rest
  cut = c.cut

  abbrev front : List EventValue
  front = cut.front

  abbrev behind : List ℕ
  behind = others_message others ++ rest

  short : length (base ++ behind) < 2 ^ 31
  short = subst (λ (b : List ℕ). length b < 2 ^ 31) parts_are new_short

  abbrev force : List EventValue
  force = reverse (in_force source (reverse front))

  abbrev is_base : IsBase feed.plan [] base force rows cut.carried.event
  is_base = adds force cut.carried.event cut.in_force.events cut.carried.read

  abbrev events : List EventValue
  events = base_events force (map event_of is_base.portions) cut.carried.event

  base_short : length base < 2 ^ 64
  base_short = omega (arith, short, length-append base behind)

  others_short : length (others_message others) < 2 ^ 64
  others_short = omega (arith, short, length-append base behind, length-append (others_message others) rest)

  have : HaveEvents base events
  have =
      subst (λ (b : List ℕ). HaveEvents b events) (sym is_base.adds.bytes)
      (again is_base.adds.messages events (subst (λ (b : List ℕ). length b < 2 ^ 64) is_base.adds.bytes base_short) is_base.adds.read)

  have_behind : HaveEvents behind (cut.behind ++ cut.later)
  have_behind = whole_behind (others_message others) rest cut.behind cut.later (others_again again others cut.behind others_short cut.of_message) cut.of_rest

  abbrev many : number ≡ groups_to feed front
  many = sym cut.many

  abbrev replaces : ReplacesFront feed front base
  replaces = record {
    block = cut.block;
    cut = cut.cut;
    sound = subst (λ (n : ℕ). n ≤ length (sound_groups feed)) many sound;
    portions = is_base.portions;
    each_portion = is_base.each_portion;
    left = subst (λ (n : ℕ). IsLeft (sound_groups feed) n (rows_of is_base.portions)) many (subst (IsLeft (sound_groups feed) number) (sym is_base.are) left);
    place = cut.carried.event;
    carries = cut.carried.carries;
    have = have;
  }

  opens : OpensCompacted bytes feed.plan (number - 1) (base ++ behind)
  opens = subst (λ (n : ℕ). OpensCompacted bytes feed.plan (n - 1) (base ++ behind)) (sym many) (law feed bytes front (cut.behind ++ cut.later) base behind replaces is_feed under cut.events have_behind short)

  pub is_compaction : (count : ℕ) → count ≡ length rows → IsCompaction feed bytes unknown number count new
  is_compaction count counted = record {
    some = c.has.some;
    opens = subst (OpensCompacted bytes feed.plan (number - 1)) (sym parts_are) opens;
    fields = fields;
    place = place;
    others = others;
    rest = rest;
    cut = c;
    base = base;
    parts = parts_are;
    sound = sound;
    left = rows;
    are_left = left;
    count = sym counted;
  }

-- ---- refusals

-- groups that aren't sound are one where the feed can be cut
pub unsound_stands : (feed : FeedValue) (bytes : List ℕ) (unknown : UnknownTables) (number : ℕ) (fault : FeedFault) → HasGroup feed number → KeepsAll feed bytes unknown number
    → IfSome (meant_of fault) (StopsBefore feed number) → IsCause feed bytes unknown number (refusal_of_feed fault)
unsound_stands feed bytes unknown number feed_fault.Memory has keeps stops = has
unsound_stands feed bytes unknown number fault has keeps stops = (has, keeps, stops)

-- what is beyond the limits, or wants memory, comes last
pub limit_stands : (feed : FeedValue) (bytes : List ℕ) (unknown : UnknownTables) (number : ℕ) (fields : List FieldBytesValue) (place : List ℕ) (others : List (List ℕ)) (rest : List ℕ) (left : ImageRows) (fault : WriteFault)
    → CutsFeed feed bytes unknown number fields place others rest → AreSound feed number → IsLeft (sound_groups feed) number left → IsOverBy (IsOver feed.plan fields left place others rest) fault
    → IsCause feed bytes unknown number (refusal_of_write fault)
limit_stands feed bytes unknown number fields place others rest left TooLong cuts sound are_left over =
    (cuts.has, cuts.keeps, sound, record { fields = fields; place = place; others = others; rest = rest; cut = cuts; left = left; are_left = are_left; over = over })
limit_stands feed bytes unknown number fields place others rest left Memory cuts sound are_left over = cuts.has
