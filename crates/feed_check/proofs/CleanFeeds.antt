-- Checks of feeds warn of nothing exactly where the feeds are without a fault, and note nothing either where they are clean.
use Rattle.std.proofs.Common.{◌≡◌, ◌↔◌, ◌∙◌, ℕ, zero, suc, ◌+◌, ◌<◌, arith, Bool, true, false, List, [], ◌∷◌, ◌++◌, length, map, reverse, Option, Some, None, Result, Ok, Err, refl, sym, ap, subst}
use Rattle.std.specs.Prelude.{◌||◌, slice_get}
use Rattle.std.specs.Option.{option_map}
use Rattle.std.specs.Result.{result_ok, ok_prefix}
use Rattle.std.specs.declared.cmp.Ordering.TheVariants.{Equal}
use Rattle.std.proofs.lemmas.Bool.{true≢false}
use Rattle.std.proofs.lemmas.Option.{same_Some, none-some, slice_get-map}
use Rattle.list_laws.proofs.Choices.{mapped}
use Rattle.list_laws.specs.Outcome.{◌>>=◌, each}
use Rattle.board_laws.specs.Runs.{IsTouchedIn, AreDisjoint}
use Rattle.pk_copy.specs.KeyOrder.{key_cmp}
use Rattle.pk_copy.specs.KeyValue.{KeyValue}
use Rattle.proto_wire.specs.Frame.{frames_of}
use Rattle.source_feed.specs.declared.fault.FeedFault.{FeedFault}
use Rattle.source_feed.specs.GroupValue.{GroupValue}
use Rattle.source_feed.specs.Groups.{groups}
use Rattle.source_feed.specs.Planned.{FeedValue, source_of}
use Rattle.source_feed.specs.SoundGroups.{sound_groups}
use Rattle.source_feed.specs.Touches.{PreparedValue, prepared}
use Rattle.feed_check.specs.Checked.{CheckedValue, history_of, rows_at_end, checked, checked_feeds}
use Rattle.feed_check.specs.Clean.{HasPassingRow, AreNamed, KeepTheirKeys, IsFaultlessFeed, IsPlainFeed, EachFeed, WarnsUnlessFaultless, TellsUnlessClean}
use Rattle.feed_check.specs.Findings.{AreTrue, findings_of, moves_of}
use Rattle.feed_check.specs.KeyedChanges.{keyed_changes}
use Rattle.feed_check.specs.declared.finding.Doubt.TheVariants.{Moved}
use Rattle.feed_check.specs.Report.{groups_warning, start_note, table_notes, name_warnings, change_warnings, skipped_warnings, told_lines, stream_notes, stream_warnings, notes_from, warnings_from, tables_of, shared_line, shared_warning, has_some, all_notes, all_warnings}
use Rattle.feed_check.specs.Shared.{History, SharedValue, TouchesKey, IsTold, histories_of, shared_of}
use Rattle.feed_check.specs.Skipped.{skipped_of}
use Rattle.feed_check.specs.Unknown.{unknown_tables}
use Rattle.feed_check.proofs.CleanLaws.{left_empty, right_empty, both_empty, groups-none, start-none, tables-none, names-none, unknown-none, findings-no_move, moves-are, moves-none, changes-none, still-none, skipped-none, messages-none}
use Rattle.feed_check.proofs.FindingLaws.{none_where_true}
use Rattle.feed_check.proofs.SharedLaws.{told}

-- ---- what a check is of

abbrev ok : {A : Type 0} → A → Result A FeedFault
ok x = Ok x

never : {A P : Type 0} (fault : FeedFault) (x : A) → Err fault ≡ ok x → P
never fault x e = absurd (none-some x (ap result_ok e))

same_ok : {A : Type 0} (x y : A) → ok x ≡ ok y → x ≡ y
same_ok x y e = same_Some x y (ap result_ok e)

-- the check of a feed by its groups, and by the changes that its bytes say
abbrev check_by : List ℕ → FeedValue → List PreparedValue → List GroupValue → CheckedValue
check_by bytes feed history read = record {
  plan = feed.plan;
  history = history;
  rows = rows_at_end history;
  findings = findings_of (keyed_changes feed.plan read);
  moves = moves_of (keyed_changes feed.plan read);
  unknown = unknown_tables feed.plan read;
  skipped = skipped_of bytes;
}

record IsCheckOf (bytes : List ℕ) (feed : FeedValue) (check : CheckedValue) : Type 0 where
  sound : length (sound_groups feed) ≡ length feed.groups
  changes : List GroupValue
  read : groups bytes (source_of feed.plan) ≡ Ok changes
  is : check_by bytes feed (sound_groups feed) changes ≡ check

-- steps that all succeed are the beginning before the first that doesn't
all_ok : {A B F : Type 0} (step : A → Result B F) (xs : List A) (ys : List B) → each step xs ≡ Ok ys → (ok_prefix (map step xs) ≡ ys) × (length ys ≡ length xs)
all_ok step [] ys e = let same : [] ≡ ys = same_Some [] ys (ap result_ok e) in (same, ap length (sym same))
all_ok {A} {B} {F} step (x ∷ xs) ys e = by (step x) refl (each step xs) refl e (all_ok step xs)
  where
    no_value : (fault : F) → Err fault ≡ Ok ys → ⊥
    no_value fault e = none-some ys (ap result_ok e)

    by : (r : Result B F) → step x ≡ r → (rs : Result (List B) F) → each step xs ≡ rs → (r >>= λ y. rs >>= λ more. Ok (y ∷ more)) ≡ Ok ys
        → ((zs : List B) → each step xs ≡ Ok zs → (ok_prefix (map step xs) ≡ zs) × (length zs ≡ length xs)) → (ok_prefix (map step (x ∷ xs)) ≡ ys) × (length ys ≡ suc (length xs))
    by (Err fault) is rs are e behind = absurd (no_value fault e)
    by (Ok y) is (Err fault) are e behind = absurd (no_value fault e)
    by (Ok y) is (Ok more) are e behind =
        let same : y ∷ more ≡ ys = same_Some (y ∷ more) ys (ap result_ok e) in
        let rest = behind more are in (
          ap (λ (r : Result B F). ok_prefix (r ∷ map step xs)) is ∙ ap (λ (l : List B). y ∷ l) rest.0 ∙ same,
          ap length (sym same) ∙ ap suc rest.1,
        )

is_check : (bytes : List ℕ) (feed : FeedValue) (check : CheckedValue) → checked bytes feed ≡ Ok check → IsCheckOf bytes feed check
is_check bytes feed check e = by (history_of feed) refl (groups bytes (source_of feed.plan)) refl e
  where
    by : (h : Result (List PreparedValue) FeedFault) → history_of feed ≡ h → (g : Result (List GroupValue) FeedFault) → groups bytes (source_of feed.plan) ≡ g
        → (h >>= λ history. g >>= λ read. ok (check_by bytes feed history read)) ≡ Ok check → IsCheckOf bytes feed check
    by (Err fault) h g are e = never fault check e
    by (Ok history) h (Err fault) are e = never fault check e
    by (Ok history) h (Ok read) are e =
        let sound = all_ok (prepared feed.plan) feed.groups history h in
        record {
          sound = ap length sound.0 ∙ sound.1;
          changes = read;
          read = are;
          is = ap (λ (groups : List PreparedValue). check_by bytes feed groups read) sound.0 ∙ same_ok (check_by bytes feed history read) check e;
        }

-- ---- one feed

from_zero : (P : ℕ → Type 0) (n : ℕ) → ((u : ℕ) → u < n → P (0 + u)) → (t : ℕ) → t < n → P t
from_zero P n h t within = let e : 0 + t ≡ t = omega arith in subst P e (h t within)

to_zero : (P : ℕ → Type 0) (n : ℕ) → ((t : ℕ) → t < n → P t) → (u : ℕ) → u < n → P (0 + u)
to_zero P n h u within = let e : u ≡ 0 + u = omega arith in subst P e (h u within)

fault_none : (i : ℕ) (bytes : List ℕ) (feed : FeedValue) (changes : List GroupValue) → length (sound_groups feed) ≡ length feed.groups → groups bytes (source_of feed.plan) ≡ Ok changes
    → (stream_warnings i (check_by bytes feed (sound_groups feed) changes) ≡ []) ↔ IsFaultlessFeed bytes feed
fault_none i bytes feed changes sound read = (to, from)
  where
    check : CheckedValue
    check = check_by bytes feed (sound_groups feed) changes

    one : List ℕ
    one = groups_warning i (length check.history)

    two : List ℕ
    two = name_warnings i check.plan check.unknown

    three : List ℕ
    three = change_warnings i check

    four : List ℕ
    four = skipped_warnings i check.skipped

    are_changes : (three ≡ []) ↔ (check.findings ≡ [])
    are_changes = changes-none i check (findings-no_move (reverse (keyed_changes feed.plan changes)))

    to : one ++ (two ++ (three ++ four)) ≡ [] → IsFaultlessFeed bytes feed
    to e =
        let e2 = right_empty one (two ++ (three ++ four)) e in
        let e3 = right_empty two (three ++ four) e2 in
        record {
          sound = sound;
          some = (groups-none i (length check.history)).0 (left_empty one (two ++ (three ++ four)) e);
          changes = changes;
          read = read;
          named = (unknown-none feed.plan changes).0 ((names-none i check.plan check.unknown).0 (left_empty two (three ++ four) e2));
          true_of_rows = (none_where_true (reverse (keyed_changes feed.plan changes))).0 (are_changes.0 (left_empty three four e3));
          told = (messages-none 1 (frames_of bytes).items).0 ((skipped-none i check.skipped).0 (right_empty three four e3));
        }

    from : IsFaultlessFeed bytes feed → one ++ (two ++ (three ++ four)) ≡ []
    from good =
        let same : good.changes ≡ changes = same_ok good.changes changes (sym good.read ∙ read) in
        both_empty one (two ++ (three ++ four)) ((groups-none i (length check.history)).1 good.some)
        (both_empty two (three ++ four) ((names-none i check.plan check.unknown).1 ((unknown-none feed.plan changes).1 (subst (AreNamed feed.plan) same good.named)))
        (both_empty three four
        (are_changes.1 ((none_where_true (reverse (keyed_changes feed.plan changes))).1 (subst (λ (gs : List GroupValue). AreTrue (reverse (keyed_changes feed.plan gs))) same good.true_of_rows)))
        ((skipped-none i check.skipped).1 ((messages-none 1 (frames_of bytes).items).1 good.told))))

module _ (ties : (a b : KeyValue) → key_cmp a b ≡ Equal → a ≡ b) where
  note_none : (i : ℕ) (bytes : List ℕ) (feed : FeedValue) (changes : List GroupValue) → groups bytes (source_of feed.plan) ≡ Ok changes
      → (stream_notes i (check_by bytes feed (sound_groups feed) changes) ≡ []) ↔ IsPlainFeed bytes feed
  note_none i bytes feed changes read = (to, from)
    where
      check : CheckedValue
      check = check_by bytes feed (sound_groups feed) changes

      one : List ℕ
      one = start_note i (slice_get check.history 0)

      two : List ℕ
      two = table_notes i check 0 check.plan.tables

      three : List ℕ
      three = told_lines i check Moved check.moves

      are_moves : (three ≡ []) ↔ (check.moves ≡ [])
      are_moves = still-none i check (moves-are (keyed_changes feed.plan changes))

      to : one ++ (two ++ three) ≡ [] → IsPlainFeed bytes feed
      to e =
          let e2 = right_empty one (two ++ three) e in
          record {
            start = (start-none i (slice_get check.history 0)).0 (left_empty one (two ++ three) e);
            tables = from_zero (HasPassingRow (sound_groups feed)) (length feed.plan.tables) ((tables-none i check 0 check.plan.tables).0 (left_empty two three e2));
            changes = changes;
            read = read;
            still = (moves-none ties (keyed_changes feed.plan changes)).0 (are_moves.0 (right_empty two three e2));
          }

      from : IsPlainFeed bytes feed → one ++ (two ++ three) ≡ []
      from plain =
          let same : plain.changes ≡ changes = same_ok plain.changes changes (sym plain.read ∙ read) in
          both_empty one (two ++ three) ((start-none i (slice_get check.history 0)).1 plain.start)
          (both_empty two three ((tables-none i check 0 check.plan.tables).1 (to_zero (HasPassingRow (sound_groups feed)) (length feed.plan.tables) plain.tables))
          (are_moves.1 ((moves-none ties (keyed_changes feed.plan changes)).1 (subst (λ (gs : List GroupValue). KeepTheirKeys (keyed_changes feed.plan gs)) same plain.still))))

-- what is told of a stream, where nothing is told exactly of feeds that are so
abbrev TellsUnless : (ℕ → CheckedValue → List ℕ) → (List ℕ → FeedValue → Type 0) → Type 0
TellsUnless text Is = (i : ℕ) (bytes : List ℕ) (feed : FeedValue) (check : CheckedValue) → IsCheckOf bytes feed check → (text i check ≡ []) ↔ Is bytes feed

stream_warns : TellsUnless stream_warnings IsFaultlessFeed
stream_warns i bytes feed check of = subst (λ (c : CheckedValue). (stream_warnings i c ≡ []) ↔ IsFaultlessFeed bytes feed) of.is (fault_none i bytes feed of.changes of.sound of.read)

stream_tells : ((a b : KeyValue) → key_cmp a b ≡ Equal → a ≡ b) → TellsUnless stream_notes IsPlainFeed
stream_tells ties i bytes feed check of = subst (λ (c : CheckedValue). (stream_notes i c ≡ []) ↔ IsPlainFeed bytes feed) of.is (note_none ties i bytes feed of.changes of.read)

-- ---- all feeds

-- each check is that of the feed of its number
abbrev AreChecksOf : List (List ℕ) → List FeedValue → List CheckedValue → Type 0
AreChecksOf [] [] [] = Unit {0}
AreChecksOf (one ∷ bytes) (feed ∷ feeds) (check ∷ checks) = IsCheckOf one feed check × AreChecksOf bytes feeds checks
AreChecksOf _ _ _ = ⊥

are_checks : (bytes : List (List ℕ)) (feeds : List FeedValue) (checks : List CheckedValue) → length bytes ≡ length feeds → checked_feeds bytes feeds ≡ Ok checks → AreChecksOf bytes feeds checks
are_checks [] [] checks many e = subst (AreChecksOf [] []) (same_ok [] checks e) tt
are_checks [] (feed ∷ feeds) checks many e = absurd (omega (arith, many))
are_checks (one ∷ bytes) [] checks many e = absurd (omega (arith, many))
are_checks (one ∷ bytes) (feed ∷ feeds) checks many e =
    by (checked one feed) refl (checked_feeds bytes feeds) refl e (λ later are. are_checks bytes feeds later (omega (arith, many)) are)
  where
    by : (r : Result CheckedValue FeedFault) → checked one feed ≡ r → (rs : Result (List CheckedValue) FeedFault) → checked_feeds bytes feeds ≡ rs → (r >>= λ check. rs >>= λ later. ok (check ∷ later)) ≡ Ok checks
        → ((later : List CheckedValue) → checked_feeds bytes feeds ≡ Ok later → AreChecksOf bytes feeds later) → AreChecksOf (one ∷ bytes) (feed ∷ feeds) checks
    by (Err fault) is rs are e rest = never fault checks e
    by (Ok check) is (Err fault) are e rest = never fault checks e
    by (Ok check) is (Ok later) are e rest = subst (AreChecksOf (one ∷ bytes) (feed ∷ feeds)) (same_ok (check ∷ later) checks e) (is_check one feed check is, rest later are)

each_more : (Is : List ℕ → FeedValue → Type 0) (one : List ℕ) (feed : FeedValue) (bytes : List (List ℕ)) (feeds : List FeedValue) → Is one feed → EachFeed Is bytes feeds → EachFeed Is (one ∷ bytes) (feed ∷ feeds)
each_more Is one feed bytes feeds first rest zero x f at_x at_f = subst (λ (b : List ℕ). Is b f) (same_Some one x at_x) (subst (Is one) (same_Some feed f at_f) first)
each_more Is one feed bytes feeds first rest (suc s) x f at_x at_f = rest s x f at_x at_f

each_warns : (i : ℕ) (bytes : List (List ℕ)) (feeds : List FeedValue) (checks : List CheckedValue) → AreChecksOf bytes feeds checks → (warnings_from i checks ≡ []) ↔ EachFeed IsFaultlessFeed bytes feeds
each_warns i [] [] [] of = (λ _ s one feed at_b at_f. absurd (none-some one at_b), λ _. refl)
each_warns i [] [] (check ∷ checks) of = absurd of
each_warns i [] (feed ∷ feeds) checks of = absurd of
each_warns i (one ∷ bytes) [] checks of = absurd of
each_warns i (one ∷ bytes) (feed ∷ feeds) [] of = absurd of
each_warns i (one ∷ bytes) (feed ∷ feeds) (check ∷ checks) of =
    let here = stream_warns i one feed check of.0 in
    let rest = each_warns (i + 1) bytes feeds checks of.1 in
    let first = stream_warnings i check in
    let others = warnings_from (i + 1) checks in (
      λ e. each_more IsFaultlessFeed one feed bytes feeds (here.0 (left_empty first others e)) (rest.0 (right_empty first others e)),
      λ h. both_empty first others (here.1 (h 0 one feed refl refl)) (rest.1 (λ s x f at_x at_f. h (suc s) x f at_x at_f)),
    )

module _ (ties : (a b : KeyValue) → key_cmp a b ≡ Equal → a ≡ b) where
  each_notes : (i : ℕ) (bytes : List (List ℕ)) (feeds : List FeedValue) (checks : List CheckedValue) → AreChecksOf bytes feeds checks → (notes_from i checks ≡ []) ↔ EachFeed IsPlainFeed bytes feeds
  each_notes i [] [] [] of = (λ _ s one feed at_b at_f. absurd (none-some one at_b), λ _. refl)
  each_notes i [] [] (check ∷ checks) of = absurd of
  each_notes i [] (feed ∷ feeds) checks of = absurd of
  each_notes i (one ∷ bytes) [] checks of = absurd of
  each_notes i (one ∷ bytes) (feed ∷ feeds) [] of = absurd of
  each_notes i (one ∷ bytes) (feed ∷ feeds) (check ∷ checks) of =
      let here = stream_tells ties i one feed check of.0 in
      let rest = each_notes (i + 1) bytes feeds checks of.1 in
      let first = stream_notes i check in
      let others = notes_from (i + 1) checks in (
        λ e. each_more IsPlainFeed one feed bytes feeds (here.0 (left_empty first others e)) (rest.0 (right_empty first others e)),
        λ h. both_empty first others (here.1 (h 0 one feed refl refl)) (rest.1 (λ s x f at_x at_f. h (suc s) x f at_x at_f)),
      )

-- ---- keys of two feeds

histories : (bytes : List (List ℕ)) (feeds : List FeedValue) (checks : List CheckedValue) → AreChecksOf bytes feeds checks → histories_of checks ≡ map sound_groups feeds
histories [] [] [] of = refl
histories [] [] (check ∷ checks) of = absurd of
histories [] (feed ∷ feeds) checks of = absurd of
histories (one ∷ bytes) [] checks of = absurd of
histories (one ∷ bytes) (feed ∷ feeds) [] of = absurd of
histories (one ∷ bytes) (feed ∷ feeds) (check ∷ checks) of =
    ap (λ (c : CheckedValue). c.history ∷ histories_of checks) (sym of.0.is) ∙ ap (λ (l : List History). sound_groups feed ∷ l) (histories bytes feeds checks of.1)

touches : (feeds : List FeedValue) (s : ℕ) (feed : FeedValue) (key : KeyValue) → slice_get feeds s ≡ Some feed → IsTouchedIn (sound_groups feed) key → TouchesKey (map sound_groups feeds) s key
touches feeds s feed key at touched = record { history = sound_groups feed; fed = slice_get-map sound_groups feeds s ∙ ap (option_map sound_groups) at; touched = touched }

-- the feed that touches a key
record IsOfFeed (feeds : List FeedValue) (s : ℕ) (key : KeyValue) : Type 0 where
  feed : FeedValue
  there : slice_get feeds s ≡ Some feed
  touched : IsTouchedIn (sound_groups feed) key

of_feed : (feeds : List FeedValue) (s : ℕ) (key : KeyValue) → TouchesKey (map sound_groups feeds) s key → IsOfFeed feeds s key
of_feed feeds s key at =
    let found = mapped sound_groups (slice_get feeds s) at.history (sym (slice_get-map sound_groups feeds s) ∙ at.fed) in
    record { feed = found.0; there = found.1; touched = subst (λ (h : History). IsTouchedIn h key) (sym found.2) at.touched }

-- no key is told exactly where the feeds are disjoint
shared_none : (tables : List _) (feeds : List FeedValue) (o : Option SharedValue) → IsTold (map sound_groups feeds) o → (shared_warning tables o ≡ []) ↔ AreDisjoint feeds
shared_none tables feeds None of_one = (λ _ s t one other key at_s at_t by_one by_other. of_one key s t (touches feeds s one key at_s by_one) (touches feeds t other key at_t by_other), λ _. refl)
shared_none tables feeds (Some shared) least = (
  λ e. absurd (true≢false (let some : has_some (shared_line tables shared) ≡ true = refl in sym some ∙ ap has_some e)),
  λ apart. absurd (let one = of_feed feeds shared.one shared.key least.one in
      let other = of_feed feeds shared.other shared.key least.other in
      let same : shared.one ≡ shared.other = apart shared.one shared.other one.feed other.feed shared.key one.there other.there one.touched other.touched in
      let less : shared.one < shared.other = least.apart in
      omega (arith, same, less)),
)

-- ---- the law

none_shown : (text : List ℕ) → has_some text ≡ false → text ≡ []
none_shown [] e = refl
none_shown (byte ∷ text) e = absurd (true≢false e)

either_none : (a b : Bool) → ((a || b) ≡ false) ↔ ((a ≡ false) × (b ≡ false))
either_none true b = (λ e. absurd (true≢false e), λ h. absurd (true≢false h.0))
either_none false b = (λ e. (refl, e), λ h. h.1)

module _ (ties : (a b : KeyValue) → key_cmp a b ≡ Equal → a ≡ b) where
  pub warns_unless_faultless : (checks : List CheckedValue) → WarnsUnlessFaultless checks (has_some (all_warnings checks))
  warns_unless_faultless checks bytes feeds many e = (
    λ none. let empty = none_shown (all_warnings checks) none in record { each = each_feed.0 (left_empty first second empty); apart = no_key.0 (right_empty first second empty) },
    λ good. ap has_some (both_empty first second (each_feed.1 good.each) (no_key.1 good.apart)),
  )
    where
      of : AreChecksOf bytes feeds checks
      of = are_checks bytes feeds checks many e

      first : List ℕ
      first = warnings_from 0 checks

      second : List ℕ
      second = shared_warning (tables_of checks) (shared_of checks)

      each_feed : (first ≡ []) ↔ EachFeed IsFaultlessFeed bytes feeds
      each_feed = each_warns 0 bytes feeds checks of

      no_key : (second ≡ []) ↔ AreDisjoint feeds
      no_key = shared_none (tables_of checks) feeds (shared_of checks) (subst (λ (hs : List History). IsTold hs (shared_of checks)) (histories bytes feeds checks of) (told ties (histories_of checks)))

  notes_unless_plain : (checks : List CheckedValue) (bytes : List (List ℕ)) (feeds : List FeedValue) → AreChecksOf bytes feeds checks → (has_some (all_notes checks) ≡ false) ↔ EachFeed IsPlainFeed bytes feeds
  notes_unless_plain checks bytes feeds of = let each = each_notes ties 0 bytes feeds checks of in (λ none. each.0 (none_shown (all_notes checks) none), λ plain. ap has_some (each.1 plain))

  pub tells_unless_clean : (checks : List CheckedValue) → TellsUnlessClean checks (has_some (all_warnings checks)) (has_some (all_notes checks))
  tells_unless_clean checks bytes feeds many e =
      let faults = warns_unless_faultless checks bytes feeds many e in
      let notes = notes_unless_plain checks bytes feeds (are_checks bytes feeds checks many e) in
      let both = either_none (has_some (all_warnings checks)) (has_some (all_notes checks)) in (
        λ none. let h = both.0 none in
            let good = faults.0 h.0 in
            let plain = notes.0 h.1 in
            record { each = λ s one feed at_b at_f. record { faultless = good.each s one feed at_b at_f; plain = plain s one feed at_b at_f }; apart = good.apart },
        λ clean. both.1 (
          faults.1 (record { each = λ s one feed at_b at_f. (clean.each s one feed at_b at_f).faultless; apart = clean.apart }),
          notes.1 (λ s one feed at_b at_f. (clean.each s one feed at_b at_f).plain),
        ),
      )
