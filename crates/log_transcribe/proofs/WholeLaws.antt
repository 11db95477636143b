-- The whole of what is told, file by file, is the feed of the definition.
use Rattle.std.proofs.Common.{◌≡◌, inl, inr, ℕ, ◌+◌, ◌-◌, ◌^◌, ◌<◌, ◌≤◌, List, [], ◌∷◌, ◌++◌, length, Option, None, Some, Result, Ok, Err, refl, sym, ap, subst, ◌∙◌, arith, append-nil}
use Rattle.std.proofs.lemmas.Bool.{cond-true, cond-false, lt-ltb, le-ltb}
use Rattle.std.specs.Prelude.{nat_lt}
use Rattle.list_laws.specs.Outcome.{◌>>=◌, Refuses}
use Rattle.printing.specs.Printing.{Written}
use Rattle.gtid_set.specs.declared.interval.Interval.{Interval}
use Rattle.vevent.specs.EventValue.{EventValue}
use Rattle.source_feed.specs.declared.fault.FeedFault.{FeedFault}
use Rattle.source_feed.specs.declared.fault.FeedFault.TheVariants as feed_fault
use Rattle.log_feed.specs.declared.table.Stage.{Stage}
use Rattle.log_laws.specs.Source.{SourceTables, IsSource}
use Rattle.log_laws.specs.Transcript.{written}
use Rattle.log_transcribe.specs.declared.fault.LogsFault.{LogsFault}
use Rattle.log_transcribe.specs.declared.fault.LogsFault.TheVariants.{TooLong}
use Rattle.log_transcribe.specs.declared.fault.LogsError.{LogsError}
use Rattle.log_transcribe.specs.declared.fault.LogsError.TheVariants as logs_error
use Rattle.log_transcribe.specs.declared.fault.BehindFault.{BehindFault}
use Rattle.log_transcribe.specs.declared.fault.BehindFault.TheVariants as behind_fault
use Rattle.log_transcribe.specs.declared.fault.StreamError.{StreamError}
use Rattle.log_transcribe.specs.declared.fault.StreamError.TheVariants as stop
use Rattle.log_transcribe.specs.declared.files.LogBytes.{LogBytes}
use Rattle.log_transcribe.specs.Behind.{Along, along_of, begun, behind_told, bytes_behind, behind_of_logs, log_behind, short_behind}
use Rattle.log_transcribe.specs.Fault.{meant, of_logs, behind_meant, feed_error, logs_error as error_of}
use Rattle.log_transcribe.specs.Feed.{IsFeedOfLogs}
use Rattle.log_transcribe.specs.Files.{GaveFrom, log_bytes}
use Rattle.log_transcribe.specs.Further.{IsFeedBehind}
use Rattle.log_transcribe.specs.Said.{feed_end}
use Rattle.log_transcribe.specs.Standing as stands
use Rattle.log_transcribe.specs.Standing.{IsByteBeyond, IsByteIn, IsByteInBehind, IsByteOfFirst, told_in}
use Rattle.log_transcribe.specs.Streamed.{EndsSo, IsUnreadAt}
use Rattle.log_transcribe.specs.Transcript.{feed_told, feed_of_logs, log_told, nothing_told}
use Rattle.log_transcribe.specs.Private.Bytes.{bytes_told}
use Rattle.log_transcribe.specs.Private.Goes.{SequelValue}
use Rattle.log_transcribe.specs.Private.Opens.{HasFirst, Gave, IsFirst, IsOpened, OpensBehind, StopsFirst, logs_from, place_behind, stop_of}
use Rattle.log_transcribe.specs.Private.Sends.{AreUnread, IsOfLogs, TellsAll, counted}
use Rattle.log_transcribe.proofs.FeedLaws.{FeedLaws, feed_right}
use Rattle.log_transcribe.proofs.FurtherLaws.{BehindLaws, further_right}
use Rattle.log_transcribe.proofs.GoingLaws.{bytes-given, bytes-refused}
use Rattle.log_transcribe.proofs.NowhereLaws.{nowhere_in, too_long_nowhere}
use Rattle.log_transcribe.proofs.StreamLaws.{no_others}
use Rattle.log_transcribe.proofs.WritingLaws.{feed-given, feed-long, told_so}

short_by : (n size limit : ℕ) → size ≡ counted n → size < limit → limit ≤ 2 ^ 31 → n < limit
short_by n size limit is short within = omega (arith, is, short, within)

long_by : (n size limit : ℕ) → size ≡ counted n → limit ≤ size → limit ≤ n
long_by n size limit is long = omega (arith, is, long)

unread_at : (Gives : ℕ → List ℕ → Type 0) (many at : ℕ) → AreUnread Gives 0 many at → IsUnreadAt Gives many at
unread_at Gives many at u = record { within = u.within; logs = u.logs; gave = u.gave; before = omega (arith, u.before) }

-- ---- of logs

feed_unmade : (s : SourceTables) (logs : List (List ℕ)) (fault : LogsFault) → feed_told s logs ≡ Err fault → feed_of_logs s logs ≡ Err fault
unfolding feed_of_logs
feed_unmade s logs fault e = rw e refl

module _ (s : SourceTables) (Gives : ℕ → List ℕ → Type 0) (many : ℕ) where
  abbrev Ends : Result (Unit {0}) StreamError → Written → Written → Type 0
  Ends result old new = EndsSo (λ logs. of_logs (feed_of_logs s logs)) (λ logs fault byte. IsByteIn s logs fault byte) (λ logs feed. IsSource s → IsFeedOfLogs s logs feed) Gives many result old new

  pub feed_written : FeedLaws → (size : ℕ) (old new : Written) → TellsAll (λ logs. feed_told s logs) (λ logs fault byte. IsByteIn s logs fault byte) Gives 0 many (Ok size) old new → size < 2 ^ 31 → Ends (Ok tt) old new
  feed_written laws size old new w short =
      let made : feed_of_logs s w.logs ≡ Ok w.feed = feed-given s w.logs w.feed w.is (short_by (length w.feed) size (2 ^ 31) w.many_bytes short (omega arith)) in
      record {
        logs = w.logs;
        gave = w.gave;
        all = omega (arith, w.all);
        feed = w.feed;
        is = ap (λ (r : Result (List ℕ) LogsFault). of_logs r) made;
        right = λ right. feed_right laws s w.logs w.feed right made;
        written = w.written;
      }

  pub feed_too_long : (size : ℕ) (old new : Written) → TellsAll (λ logs. feed_told s logs) (λ logs fault byte. IsByteIn s logs fault byte) Gives 0 many (Ok size) old new → 2 ^ 31 ≤ size → Ends (Err (stop.Fault (TooLong many) None)) old new
  feed_too_long size old new w long = record {
    refused = record {
      logs = w.logs;
      gave = w.gave;
      is = λ others both.
          subst (λ (o : List (List ℕ)). of_logs (feed_of_logs s (w.logs ++ o)) ≡ Err (behind_fault.Logs (TooLong many))) (sym (no_others w.logs others 0 many w.all (omega (arith, both))))
          (ap (λ (r : Result (List ℕ) LogsFault). of_logs r) (ap (feed_of_logs s) (append-nil w.logs) ∙ feed-long s w.logs many w.feed (omega (arith, w.all)) w.is (long_by (length w.feed) size (2 ^ 31) w.many_bytes long)));
    };
    there = nowhere_in (λ at left bytes f. log_told at s left bytes f) (λ at left bytes f. told_in at s left bytes f) w.logs (nothing_told s) (TooLong many) (too_long_nowhere many);
  }

  pub feed_stopped : (error : StreamError) (old new : Written) → TellsAll (λ logs. feed_told s logs) (λ logs fault byte. IsByteIn s logs fault byte) Gives 0 many (Err error) old new → Ends (Err error) old new
  feed_stopped stop.Memory old new w = tt
  feed_stopped stop.Unwritten old new w = w
  feed_stopped (stop.Unread file) old new w = unread_at Gives many file w
  feed_stopped (stop.Feed fault) old new w = absurd w
  feed_stopped (stop.Fault fault byte) old new w = record {
    refused = record {
      logs = w.logs;
      gave = w.gave;
      is = λ others both. ap (λ (r : Result (List ℕ) LogsFault). of_logs r) (feed_unmade s (w.logs ++ others) fault (w.is others (omega (arith, both))));
    };
    there = w.there;
  }

-- ---- of logs behind a feed

behind_short : (r : Result (List (List EventValue)) LogsFault) (n size : ℕ) (more : List ℕ) → bytes_told r ≡ Ok more → size + length more < 2 ^ 31 → r >>= (λ messages. short_behind n size (written messages)) ≡ Ok more
behind_short r n size more e few =
    let told = told_so r more e in
    ap (λ (r : Result (List (List EventValue)) LogsFault). r >>= λ messages. short_behind n size (written messages)) told.1
    ∙ ap (short_behind n size) told.2
    ∙ cond-true (nat_lt (size + length more) (2 ^ 31)) (Ok more) (Err (TooLong n)) (lt-ltb _ _ few)

behind_long : (r : Result (List (List EventValue)) LogsFault) (n size : ℕ) (more : List ℕ) → bytes_told r ≡ Ok more → 2 ^ 31 ≤ size + length more → r >>= (λ messages. short_behind n size (written messages)) ≡ Err (TooLong n)
behind_long r n size more e long =
    let told = told_so r more e in
    ap (λ (r : Result (List (List EventValue)) LogsFault). r >>= λ messages. short_behind n size (written messages)) told.1
    ∙ ap (short_behind n size) told.2
    ∙ cond-false (nat_lt (size + length more) (2 ^ 31)) (Ok more) (Err (TooLong n)) (le-ltb _ _ long)

module _ (s : SourceTables) (feed : List ℕ) (Gives : ℕ → List ℕ → Type 0) (many : ℕ) where
  abbrev EndsBehind : Result (Unit {0}) StreamError → Written → Written → Type 0
  EndsBehind result old new = EndsSo (λ logs. behind_of_logs s feed logs) (λ logs fault byte. IsByteInBehind s feed logs fault byte) (λ logs more. IsSource s → IsFeedBehind s feed logs more) Gives many result old new

  -- the first log can't be read
  pub first_unread : (error : StreamError) (old : Written) → IsFirst Gives many (Err error) → EndsBehind (Err error) old old
  first_unread stop.Memory old e = tt
  first_unread stop.Unwritten old e = absurd e
  first_unread (stop.Unread at) old e = record { within = omega (arith, e.0, e.1); logs = []; gave = tt; before = sym e.0 }
  first_unread (stop.Feed fault) old e = absurd e
  first_unread (stop.Fault fault byte) old e = absurd e

  -- with others behind the first one, if there is one, these are all
  gave_all : (log : Option LogBytes) (logs : List (List ℕ)) → Gave Gives log → GaveFrom Gives (place_behind log) logs → GaveFrom Gives 0 (logs_from log logs)
  gave_all None logs first gave = tt
  gave_all (Some log) logs first gave = (first, gave)

  all_are : (log : Option LogBytes) (logs : List (List ℕ)) → HasFirst many log → place_behind log + length logs ≡ many → length (logs_from log logs) ≡ many
  all_are None logs first all = sym first
  all_are (Some log) logs first all = omega (arith, all)

  none_within : (log : Option LogBytes) → HasFirst many log → place_behind log + 0 ≤ many
  none_within None first = omega arith
  none_within (Some log) first = omega (arith, first)

  -- a file behind the first one can't be read
  unread_behind : (log : Option LogBytes) (at : ℕ) → HasFirst many log → Gave Gives log → AreUnread Gives (place_behind log) many at → IsUnreadAt Gives many at
  unread_behind None at first gave u = absurd (omega (arith, first, u.within))
  unread_behind (Some log) at first gave u = record { within = u.within; logs = log_bytes log ∷ u.logs; gave = (gave, u.gave); before = omega (arith, u.before) }

  unmade : (had : List Stage) (a : Along) (logs : List (List ℕ)) (fault : LogsFault) → behind_told s had a logs ≡ Err fault → bytes_behind s feed had a logs ≡ Err fault
  unmade had a logs fault e = rw e refl

  -- whatever the others have
  refused_so : (log : Option LogBytes) (logs : List (List ℕ)) (fault : BehindFault) → HasFirst many log → place_behind log + length logs ≤ many
      → ((others : List (List ℕ)) → place_behind log + (length logs + length others) ≡ many → behind_of_logs s feed (logs_from log (logs ++ others)) ≡ Err fault)
      → (others : List (List ℕ)) → length (logs_from log logs) + length others ≡ many → behind_of_logs s feed (logs_from log logs ++ others) ≡ Err fault
  refused_so (Some log) logs fault first within is others both = is others (omega (arith, both))
  refused_so None [] fault first within is [] both = is [] (omega (arith, first))
  refused_so None (l ∷ logs) fault first within is others both = absurd (omega (arith, first, within))
  refused_so None [] fault first within is (o ∷ others) both = absurd (omega (arith, first, both))

  -- the feed, or where the first log begins
  pub first_stops : (log : Option LogBytes) (error : StreamError) (old : Written) → HasFirst many log → Gave Gives log → OpensBehind s feed log (Err error) → EndsBehind (Err error) old old
  first_stops log stop.Memory old first gave e = tt
  first_stops log stop.Unwritten old first gave e = absurd e
  first_stops log (stop.Unread file) old first gave e = absurd e
  first_stops log (stop.Feed fault) old first gave e = record {
    logs = logs_from log [];
    gave = gave_all log [] gave tt;
    is = refused_so log [] (behind_fault.Feed fault) first (none_within log first) (λ others both. e others);
  }
  first_stops log (stop.Fault fault byte) old first gave e = record {
    refused = record {
      logs = logs_from log [];
      gave = gave_all log [] gave tt;
      is = refused_so log [] (behind_fault.Logs fault) first (none_within log first) (λ others both. e.0 others);
    };
    there = e.1;
  }

  module _ (log : Option LogBytes) (first : HasFirst many log) (gave : Gave Gives log) (q : SequelValue) (o : IsOpened s feed log q) where
    abbrev Tells : Result ℕ StreamError → Written → Written → Type 0
    Tells result old new = TellsAll (λ others. behind_told q.source q.had q.along (logs_from log others)) (λ others fault byte. IsByteBeyond q.source q.had (logs_from log others) q.along fault byte) Gives (place_behind log) many result old new

    abbrev so : SequelValue → List (List ℕ) → Result (List (List EventValue)) LogsFault
    so q logs = behind_told q.source q.had q.along logs

    told_is : (logs : List (List ℕ)) → so q logs ≡ behind_told s o.had (along_of o.reached o.first o.had) logs
    told_is logs = ap (λ (q : SequelValue). so q logs) o.is

    -- where a fault of theirs stands
    gone_behind : (logs : List (List ℕ)) (fault : LogsFault) (byte : Option ℕ) → IsByteBeyond q.source q.had (logs_from log logs) q.along fault byte → IsByteInBehind s feed (logs_from log logs) fault byte
    gone_behind logs fault byte is = inr (record {
      reached = o.reached;
      end = o.end;
      first = o.first;
      begins = o.begins logs;
      had = o.had;
      said = o.said;
      byte_there = subst (λ (q : SequelValue). IsByteBeyond q.source q.had (logs_from log logs) q.along fault byte) o.is is;
    })

    pub behind_written : BehindLaws → (size : ℕ) (old new : Written) → Tells (Ok size) old new → size < 2 ^ 31 - length feed → EndsBehind (Ok tt) old new
    behind_written laws size old new w short =
        let logs : List (List ℕ) = logs_from log w.logs in
        let told : bytes_told (behind_told s o.had (along_of o.reached o.first o.had) logs) ≡ Ok w.feed = ap (λ (r : Result (List (List EventValue)) LogsFault). bytes_told r) (sym (told_is logs)) ∙ w.is in
        let few : length w.feed < 2 ^ 31 - length feed = short_by (length w.feed) size (2 ^ 31 - length feed) w.many_bytes short (omega arith) in
        let made : bytes_behind s feed o.had (along_of o.reached o.first o.had) logs ≡ Ok w.feed =
        behind_short (behind_told s o.had (along_of o.reached o.first o.had) logs) (length logs) (length feed) w.feed told (omega (arith, few)) in
        record {
          logs = logs;
          gave = gave_all log w.logs gave w.gave;
          all = all_are log w.logs first w.all;
          feed = w.feed;
          is = bytes-given s feed logs o.reached o.first o.had w.feed o.end (o.begins w.logs) o.said made;
          right = λ right. further_right laws s feed logs o.reached o.first o.had w.feed right o.canonical o.first_canonical o.end (o.begins w.logs) o.said made;
          written = w.written;
        }

    -- a fault of what is told behind the feed
    faulty : (logs : List (List ℕ)) (fault : LogsFault) → bytes_behind s feed o.had (along_of o.reached o.first o.had) (logs_from log logs) ≡ Err fault → behind_of_logs s feed (logs_from log logs) ≡ Err (behind_fault.Logs fault)
    faulty logs fault e = bytes-refused s feed (logs_from log logs) o.reached o.first o.had (logs_error.Fault fault) o.end (o.begins logs) o.said e

    pub behind_too_long : (size : ℕ) (old new : Written) → Tells (Ok size) old new → 2 ^ 31 - length feed ≤ size → EndsBehind (Err (stop.Fault (TooLong many) None)) old new
    behind_too_long size old new w long =
        let logs : List (List ℕ) = logs_from log w.logs in
        let told : bytes_told (behind_told s o.had (along_of o.reached o.first o.had) logs) ≡ Ok w.feed = ap (λ (r : Result (List (List EventValue)) LogsFault). bytes_told r) (sym (told_is logs)) ∙ w.is in
        let many_bytes : 2 ^ 31 - length feed ≤ length w.feed = long_by (length w.feed) size (2 ^ 31 - length feed) w.many_bytes long in
        let made : bytes_behind s feed o.had (along_of o.reached o.first o.had) logs ≡ Err (TooLong many) =
        behind_long (behind_told s o.had (along_of o.reached o.first o.had) logs) (length logs) (length feed) w.feed told (omega (arith, many_bytes)) ∙ ap (λ (n : ℕ). Err (TooLong n)) (all_are log w.logs first w.all) in record {
          refused = record {
            logs = logs;
            gave = gave_all log w.logs gave w.gave;
            is = refused_so log w.logs (behind_fault.Logs (TooLong many)) first (omega (arith, w.all))
                (λ others both. subst (λ (o : List (List ℕ)). behind_of_logs s feed (logs_from log (w.logs ++ o)) ≡ Err (behind_fault.Logs (TooLong many))) (sym (no_others w.logs others (place_behind log) many w.all both))
                (subst (λ (ls : List (List ℕ)). behind_of_logs s feed (logs_from log ls) ≡ Err (behind_fault.Logs (TooLong many))) (sym (append-nil w.logs)) (faulty w.logs (TooLong many) made)));
          };
          there = gone_behind w.logs (TooLong many) None (nowhere_in (λ at left bytes b. log_behind at q.source q.had left bytes b) (λ at left bytes b. stands.told_behind at q.source q.had left bytes b) (logs_from log w.logs) q.along (TooLong many) (too_long_nowhere many));
        }

    pub behind_stopped : (error : StreamError) (old new : Written) → Tells (Err error) old new → EndsBehind (Err error) old new
    behind_stopped stop.Memory old new w = tt
    behind_stopped stop.Unwritten old new w = w
    behind_stopped (stop.Unread file) old new w = unread_behind log file first gave w
    behind_stopped (stop.Feed fault) old new w = absurd w
    behind_stopped (stop.Fault fault byte) old new w = record {
      refused = record {
        logs = logs_from log w.logs;
        gave = gave_all log w.logs gave w.gave;
        is = refused_so log w.logs (behind_fault.Logs fault) first w.within
            (λ others both. faulty (w.logs ++ others) fault (unmade o.had (along_of o.reached o.first o.had) (logs_from log (w.logs ++ others)) fault (sym (told_is (logs_from log (w.logs ++ others))) ∙ w.is others both)));
      };
      there = gone_behind w.logs fault byte w.there;
    }

-- ---- what is wrong with the feed, or where the first log begins

module _ (s : SourceTables) (feed : List ℕ) (log : Option LogBytes) where
  pub feed_stops : (fault : FeedFault) → ((others : List (List ℕ)) → Refuses behind_meant (feed_error fault) (behind_of_logs s feed (logs_from log others))) → OpensBehind s feed log (Err (stop_of fault))
  feed_stops feed_fault.Memory e = tt
  feed_stops fault e = e

  first_byte : (log : Option LogBytes) (fault : LogsFault) (byte : Option ℕ) → StopsFirst log (stop.Fault fault byte) → IsByteOfFirst (logs_from log []) fault byte
  first_byte None fault byte is = is
  first_byte (Some log) fault None is = is
  first_byte (Some log) fault (Some byte) is = is

  pub logs_stop : (reached : List Interval) (error : LogsError) (stops : StreamError) → feed_end s feed ≡ Ok reached → Refuses meant error (begun reached (logs_from log [])) → IsOfLogs error stops → StopsFirst log stops
      → ((others : List (List ℕ)) → Refuses behind_meant (error_of error) (behind_of_logs s feed (logs_from log others))) → OpensBehind s feed log (Err stops)
  logs_stop reached logs_error.Memory stops end begin is at e = rw is tt
  logs_stop reached (logs_error.Fault fault) stop.Memory end begin is at e = tt
  logs_stop reached (logs_error.Fault fault) stop.Unwritten end begin is at e = absurd is
  logs_stop reached (logs_error.Fault fault) (stop.Unread file) end begin is at e = absurd is
  logs_stop reached (logs_error.Fault fault) (stop.Feed other) end begin is at e = absurd is
  logs_stop reached (logs_error.Fault fault) (stop.Fault other byte) end begin is at e =
      let there = first_byte log fault byte (subst (λ (f : LogsFault). StopsFirst log (stop.Fault f byte)) is at) in
      rw is (e, inl (reached, end, begin, there))

-- where the logs begin the others have no part
pub begun_same : (reached : List Interval) (log : Option LogBytes) (others : List (List ℕ)) → begun reached (logs_from log others) ≡ begun reached (logs_from log [])
begun_same reached None others = refl
begun_same reached (Some log) others = refl

pub begun_refused : (reached : List Interval) (log : Option LogBytes) (others : List (List ℕ)) (error : LogsError) → Refuses meant error (begun reached (logs_from log [])) → Refuses meant error (begun reached (logs_from log others))
begun_refused reached None others error e = e
begun_refused reached (Some log) others error e = e
