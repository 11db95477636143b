use Rattle.std.proofs.Common.{◌≡◌, ◌+◌, ◌-◌, ◌^◌, ◌<◌, ◌≤◌, ◌++◌, ℕ, List, length, length-append, take, reverse, Result, Err, refl, sym, ap, subst, ◌∙◌, arith}
use Rattle.std.proofs.lemmas.Result.{err_from_is_err_and}
use Rattle.list_laws.specs.Outcome.{Refuses}
use Rattle.source_feed.specs.declared.fault.FeedFault.{FeedFault}
use Rattle.source_feed.specs.declared.fault.FeedFault.TheVariants.{OpenAtEnd}
use Rattle.source_feed.specs.declared.feed_end.FeedEnd.{FeedEnd}
use Rattle.source_feed.specs.declared.kept.KeptGroups.{KeptGroups}
use Rattle.source_feed.specs.FaultNumber.{meant_of}
use Rattle.source_feed.specs.GroupValue.{GroupValue}
use Rattle.source_feed.specs.EventList.{events_of_feed}
use Rattle.source_feed.specs.Groups.{groups_of}
use Rattle.source_feed.specs.Planned.{PlannedGroupValue, FeedValue, source_of, IsFeed}
use Rattle.source_feed.specs.Growing.{IsEndOf}
use Rattle.source_feed.specs.Private.KnownBehind.{past_of}
use Rattle.source_feed.proofs.EndLaws.{known, sound}
use Rattle.source_feed.proofs.ReadOnLaws.{refused_for, sound_for}
use Rattle.source_feed.proofs.GrownLaws.{not_open, settled_front, is_feed, grown_end}
use Rattle.source_feed.proofs.feed_end.FeedEnd.grow.Goals as goal

-- all bytes are within the limit
room_for : (bytes piece : List ℕ) (feed : FeedValue) (end : FeedEnd) → IsEndOf bytes feed end → length piece ≤ 2147483647 - end.length → length bytes + length piece < 2 ^ 31
room_for bytes piece feed end e le =
    let k = known bytes feed.plan feed.groups e.groups in
    let short : length bytes < 2 ^ 31 = (sound bytes (source_of feed.plan) k.all k.defined).short in
    omega (arith, e.known.many, short, le)

not_long : (bytes piece : List ℕ) → length bytes + length piece < 2 ^ 31 → 2 ^ 31 ≤ length (bytes ++ piece) → ⊥
not_long bytes piece short long = omega (arith, short, long, length-append bytes piece)

refused_open : (fault : FeedFault) (all : Result (List GroupValue) FeedFault) → fault ≡ OpenAtEnd → Refuses meant_of fault all → all ≡ Err OpenAtEnd
refused_open fault all is r = subst (λ (f : FeedFault). Refuses meant_of f all) is r

pub returns-in_err-reader-clause-refused : goal.returns-in_err-reader-clause-refused
returns-in_err-reader-clause-refused c = λ bytes e.
    let p = err_from_is_err_and c.from_residual.result c.from_residual.ensures.1 in
    rw (p.1, p.2)
    (refused_for bytes c.args.piece.now c.args.feed.now c.args.self.now e (room_for bytes c.args.piece.now c.args.feed.now c.args.self.now e c.if-piece-self.false) c.in_err-reader.field-0.0 (c.in_err-reader.ensures.refused bytes e))

pub returns-in_err-tables-clause-refused : goal.returns-in_err-tables-clause-refused
returns-in_err-tables-clause-refused c = λ bytes e.
    let piece : List ℕ = c.args.piece.now in
    let feed : FeedValue = c.args.feed.now in
    let short : length bytes + length piece < 2 ^ 31 = room_for bytes piece feed c.args.self.now e c.if-piece-self.false in
    let r = c.in_ok-reader.ensures.read bytes e in
    absurd (
    not_open c.set_laws.ensures bytes piece c.in_ok-reader.taken feed c.args.self.now c.in_ok-reader.reader e r short OpenAtEnd
    (refused_open c.in_err-tables.field-0.0 _ c.in_err-tables.ensures.refused
    (c.in_err-tables.ensures.groups (groups_of (source_of feed.plan) (past_of bytes)) (source_of feed.plan) (reverse (events_of_feed (take c.in_ok-reader.taken piece)).items ++ past_of bytes) r.behind)))

pub returns-in_err-planned_of_tables-clause-too_long : goal.returns-in_err-planned_of_tables-clause-too_long
returns-in_err-planned_of_tables-clause-too_long c = λ bytes e long.
    absurd (not_long bytes c.args.piece.now (room_for bytes c.args.piece.now c.args.feed.now c.args.self.now e c.if-piece-self.false) long)

pub returns-in_err-put_behind-clause-too_long : goal.returns-in_err-put_behind-clause-too_long
returns-in_err-put_behind-clause-too_long c = λ bytes e long.
    absurd (not_long bytes c.args.piece.now (room_for bytes c.args.piece.now c.args.feed.now c.args.self.now e c.if-piece-self.false) long)

pub returns-clause-too_long : goal.returns-clause-too_long
returns-clause-too_long c = λ bytes e long.
    absurd (not_long bytes c.args.piece.now (room_for bytes c.args.piece.now c.args.feed.now c.args.self.now e c.if-piece-self.false) long)

pub put_behind-requires : goal.put_behind-requires
put_behind-requires c =
    let bytes : List ℕ = c.requires.0 in
    let e = c.requires.1 in
    let piece : List ℕ = c.args.piece.now in
    let feed : FeedValue = c.args.feed.now in
    let short : length bytes + length piece < 2 ^ 31 = room_for bytes piece feed c.args.self.now e c.if-piece-self.false in
    let kept : KeptGroups = c.in_ok-tables.field-0 in
    subst (λ (more : List PlannedGroupValue). IsFeed (record { plan = feed.plan; groups = feed.groups ++ more })) (sym c.in_ok-planned_of_tables.ensures.ok)
    (is_feed c.set_laws.ensures bytes piece c.in_ok-reader.taken feed c.args.self.now c.in_ok-reader.reader e (c.in_ok-reader.ensures.read bytes e) short kept c.in_ok-tables.ensures.held.0 c.in_ok-tables.ensures.held.1 c.plan.ensures.whole.plan)

pub returns-clause-taken : goal.returns-clause-taken
returns-clause-taken c = λ bytes e.
    settled_front c.set_laws.ensures bytes c.args.piece.now c.in_ok-reader.taken c.args.feed.now c.args.self.now c.in_ok-reader.reader e (c.in_ok-reader.ensures.read bytes e)
    (room_for bytes c.args.piece.now c.args.feed.now c.args.self.now e c.if-piece-self.false)

pub returns-clause-groups : goal.returns-clause-groups
returns-clause-groups c = λ bytes e.
    let piece : List ℕ = c.args.piece.now in
    let taken : ℕ = c.in_ok-reader.taken in
    let feed : FeedValue = c.args.feed.now in
    let short : length bytes + length piece < 2 ^ 31 = room_for bytes piece feed c.args.self.now e c.if-piece-self.false in
    let kept : KeptGroups = c.in_ok-tables.field-0 in
    let new : FeedEnd = record { tables = kept.tables; length = c.args.self.now.length + taken } in
    grown_end c.set_laws.ensures bytes piece taken feed c.args.self.now c.in_ok-reader.reader e (c.in_ok-reader.ensures.read bytes e) short kept c.in_ok-tables.ensures.held.0 c.in_ok-tables.ensures.held.1
    c.in_ok-planned_of_tables.field-0.items c.put_behind.new.self new c.in_ok-planned_of_tables.ensures.ok c.in_ok-put_behind.ensures.ok refl refl

pub returns-clause-one : goal.returns-clause-one
returns-clause-one c =
    let bytes : List ℕ = c.requires.0 in
    let e = c.requires.1 in
    let piece : List ℕ = c.args.piece.now in
    let taken : ℕ = c.in_ok-reader.taken in
    let feed : FeedValue = c.args.feed.now in
    let short : length bytes + length piece < 2 ^ 31 = room_for bytes piece feed c.args.self.now e c.if-piece-self.false in
    let kept : KeptGroups = c.in_ok-tables.field-0 in
    let new : FeedEnd = record { tables = kept.tables; length = c.args.self.now.length + taken } in (
      bytes ++ take taken piece,
      grown_end c.set_laws.ensures bytes piece taken feed c.args.self.now c.in_ok-reader.reader e (c.in_ok-reader.ensures.read bytes e) short kept c.in_ok-tables.ensures.held.0 c.in_ok-tables.ensures.held.1
          c.in_ok-planned_of_tables.field-0.items c.put_behind.new.self new c.in_ok-planned_of_tables.ensures.ok c.in_ok-put_behind.ensures.ok refl refl,
    )

pub returns-clause-within : goal.returns-clause-within
returns-clause-within c = (c.in_ok-reader.ensures.read c.requires.0 c.requires.1).within

pub returns-clause-sound : goal.returns-clause-sound
returns-clause-sound c = λ bytes e.
    let r = c.in_ok-reader.ensures.read bytes e in
    sound_for bytes c.args.piece.now c.args.feed.now c.args.self.now e (room_for bytes c.args.piece.now c.args.feed.now c.args.self.now e c.if-piece-self.false) r.sound.0 r.sound.1 r.same
