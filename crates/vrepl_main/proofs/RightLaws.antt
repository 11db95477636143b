-- What the commands hand on, in bytes alone.
use Rattle.std.proofs.Common.{◌≡◌, ◌≢◌, ◌∙◌, ℕ, zero, suc, Bool, true, false, List, [], ◌∷◌, length, map, Option, Some, None, Result, Ok, Err, refl, sym, ap, subst, arith}
use Rattle.std.specs.Prelude.{◌==◌, not, slice_get}
use Rattle.std.specs.Option.{option_or}
use Rattle.std.specs.Result.{result_ok}
use Rattle.std.proofs.lemmas.Option.{same_Some, none-some}
use borrow.Author.Tests.{eqb-true}
use Rattle.list_laws.specs.Outcome.{◌>>=◌, refused_if}
use Rattle.filter_rule.specs.PlanValue.{PlanValue}
use Rattle.filter_rule.specs.Reading.{plans_of}
use Rattle.filter_rule.specs.Faults as faults
use Rattle.pk_copy.specs.KeyValue.{KeyValue}
use Rattle.source_feed.specs.History.{KeptRow}
use Rattle.source_feed.specs.Planned.{PlannedGroupValue, FeedValue, groups_under}
use Rattle.source_feed.specs.declared.fault.FeedFault.{FeedFault}
use Rattle.dump.specs.Dump.{dump_of}
use Rattle.dump.specs.DumpRowsValue.{DumpRowsValue, row_with_key}
use Rattle.printing.specs.Printing.{Written, IsWritten}
use Rattle.apply_core.specs.Ended.{AreSound, IsRowsUnion, kept_of_feed, kept_by}
use Rattle.vrepl_main.specs.HexText.{feed_bytes}
use Rattle.vrepl_main.specs.InputList.{bytes_of}
use Rattle.vrepl_choices.specs.UntilValue.{UntilValue, until_value}
use Rattle.feed_ends.specs.EndedFeeds.{AreEnded, ended_feeds}
use Rattle.feed_ends.specs.Faults.{EndReason}
use Rattle.feed_ends.proofs.EndLaws.{are_ended}
use Rattle.vrepl_main.specs.Ending.{ended_over, opened_until}
use Rattle.vrepl_main.specs.Opening.{OpenedValue, feed_under, opened_feed, opened_feeds, opened_then, opened_with, opened_bytes, said_plans}
use Rattle.vrepl_main.specs.Reasons.{Reason, feed_count}
use Rattle.vrepl_main.specs.RunIsRight.{IsOpened, AreOpened, Keeps, AreKeptRows, RunIsRight, WritesRight}
use Rattle.vrepl_main.specs.Running.{IsFilled, PrintsDump, opened_asked}
use Rattle.vrepl_main.specs.declared.named_inputs.RunInputs.{RunInputs}

-- ---- what was opened

abbrev pub ok : {A : Type 0} → A → Result A Reason
ok x = Ok x

-- what a fault can't give
pub never : {A : Type 0} (reason : Reason) (x : A) → Err reason ≡ ok x → ⊥
never reason x e = none-some x (ap result_ok e)

-- the bytes of feeds that could be opened
pub record Opens (plans : List PlanValue) (given : List (Option (List ℕ))) (feeds : List FeedValue) : Type 0 where
  pub bytes : List (List ℕ)
  pub are : given ≡ map Some bytes
  pub fed : AreOpened plans bytes feeds

opens-one : (plan : PlanValue) (o : Option (List ℕ)) (feed : FeedValue) → opened_feed plan o ≡ Ok feed → (bytes : List ℕ) × (o ≡ Some bytes) × IsOpened plan bytes feed
opens-one plan None feed e = absurd (never _ feed e)
opens-one plan (Some bytes) feed e = by (groups_under bytes plan) refl e
  where
    by : (r : Result (List PlannedGroupValue) FeedFault) → groups_under bytes plan ≡ r → feed_under plan r ≡ Ok feed → (one : List ℕ) × (Some bytes ≡ Some one) × IsOpened plan one feed
    by (Err fault) is e = absurd (never _ feed e)
    by (Ok groups) is e =
        let same : record { plan = plan; groups = groups } ≡ feed = same_Some (record { plan = plan; groups = groups }) feed (ap result_ok e) in
        (bytes, refl, record { plan_of = sym (ap (λ (f : FeedValue). f.plan) same); groups = is ∙ ap (λ (f : FeedValue). Ok f.groups) same })

opens-more : (plan : PlanValue) (bytes : List ℕ) (feed : FeedValue) (plans : List PlanValue) (given : List (Option (List ℕ))) (feeds : List FeedValue) → IsOpened plan bytes feed → Opens plans given feeds
    → Opens (plan ∷ plans) (Some bytes ∷ given) (feed ∷ feeds)
opens-more plan bytes feed plans given feeds first rest = record {
  bytes = bytes ∷ rest.bytes;
  are = ap (λ (l : List (Option (List ℕ))). Some bytes ∷ l) rest.are;
  fed = record { given = ap suc rest.fed.given; count = ap suc rest.fed.count; each = each };
}
  where
    each : (s : ℕ) (p : PlanValue) (one : List ℕ) (f : FeedValue) → slice_get (plan ∷ plans) s ≡ Some p → slice_get (bytes ∷ rest.bytes) s ≡ Some one → slice_get (feed ∷ feeds) s ≡ Some f → IsOpened p one f
    each zero p one f at_p at_b at_f =
        subst (λ (x : FeedValue). IsOpened p one x) (same_Some feed f at_f)
        (subst (λ (b : List ℕ). IsOpened p b feed) (same_Some bytes one at_b) (subst (λ (q : PlanValue). IsOpened q bytes feed) (same_Some plan p at_p) first))
    each (suc s) p one f at_p at_b at_f = rest.fed.each s p one f at_p at_b at_f

opens : (plans : List PlanValue) (given : List (Option (List ℕ))) (feeds : List FeedValue) → length plans ≡ length given → opened_feeds plans given ≡ Ok feeds → Opens plans given feeds
opens [] [] feeds long e =
    subst (λ (fs : List FeedValue). Opens [] [] fs) (same_Some [] feeds (ap result_ok e))
    (record { bytes = []; are = refl; fed = record { given = refl; count = refl; each = λ s p one f at_p at_b at_f. absurd (none-some p at_p) } })
opens [] (o ∷ given) feeds long e = absurd (omega (arith, long))
opens (plan ∷ plans) [] feeds long e = absurd (omega (arith, long))
opens (plan ∷ plans) (o ∷ given) feeds long e =
    by (opened_feed plan o) refl (opened_feeds plans given) refl e (λ later are. opens plans given later (omega (arith, long)) are)
  where
    by : (r : Result FeedValue Reason) → opened_feed plan o ≡ r → (rs : Result (List FeedValue) Reason) → opened_feeds plans given ≡ rs → (r >>= λ first. opened_then first rs) ≡ Ok feeds
        → ((later : List FeedValue) → opened_feeds plans given ≡ Ok later → Opens plans given later) → Opens (plan ∷ plans) (o ∷ given) feeds
    by (Err reason) is rs are e rest = absurd (never reason feeds e)
    by (Ok feed) is (Err reason) are e rest = absurd (never reason feeds e)
    by (Ok feed) is (Ok later) are e rest =
        let one : (bytes : List ℕ) × (o ≡ Some bytes) × IsOpened plan bytes feed = opens-one plan o feed is in
        subst (λ (fs : List FeedValue). Opens (plan ∷ plans) (o ∷ given) fs) (same_Some (feed ∷ later) feeds (ap result_ok e))
        (subst (λ (x : Option (List ℕ)). Opens (plan ∷ plans) (x ∷ given) (feed ∷ later)) (sym one.1) (opens-more plan one.0 feed plans given later one.2 (rest later are)))

-- a workflow's plans with their feeds
pub record SaysWhole (workflow : List ℕ) (given : List (Option (List ℕ))) (found : OpenedValue) : Type 0 where
  pub says : plans_of workflow ≡ Ok found.plans
  pub fed : Opens found.plans given found.feeds

pub says_whole : (workflow : List ℕ) (given : List (Option (List ℕ))) (found : OpenedValue) → opened_bytes workflow given ≡ Ok found → SaysWhole workflow given found
says_whole workflow given found e = by (plans_of workflow) refl e
  where
    as_many : (b : Bool) → not b ≡ false → b ≡ true
    as_many true e = refl
    as_many false e = sym e

    of_plans : (plans : List PlanValue) → plans_of workflow ≡ Ok plans → (b : Bool) → not (length plans == length given) ≡ b → (rs : Result (List FeedValue) Reason) → opened_feeds plans given ≡ rs
        → (refused_if b feed_count >>= λ _. rs >>= λ feeds. ok (record { plans = plans; feeds = feeds })) ≡ Ok found → SaysWhole workflow given found
    of_plans plans said true is rs are e = absurd (never feed_count found e)
    of_plans plans said false is (Err reason) are e = absurd (never reason found e)
    of_plans plans said false is (Ok feeds) are e =
        let same : record { plans = plans; feeds = feeds } ≡ found = same_Some (record { plans = plans; feeds = feeds }) found (ap result_ok e) in
        subst (SaysWhole workflow given) same
        (record { says = said; fed = opens plans given feeds (eqb-true (length plans) (length given) (as_many (length plans == length given) is)) are })

    by : (r : Result (List PlanValue) faults.Fault) → plans_of workflow ≡ r → (said_plans r >>= opened_with given) ≡ Ok found → SaysWhole workflow given found
    by (Err fault) is e = absurd (never _ found e)
    by (Ok plans) is e = of_plans plans is (not (length plans == length given)) refl (opened_feeds plans given) refl e

-- the same with the feeds up to positions
pub record SaysUntil (workflow : List ℕ) (given : List (Option (List ℕ))) (untils : List UntilValue) (found : OpenedValue) : Type 0 where
  pub says : plans_of workflow ≡ Ok found.plans
  pub whole : List FeedValue
  pub fed : Opens found.plans given whole
  pub ended : AreEnded untils whole found.feeds

pub says_until : (workflow : List ℕ) (given : List (Option (List ℕ))) (untils : List UntilValue) (found : OpenedValue) → opened_until untils (opened_bytes workflow given) ≡ Ok found → SaysUntil workflow given untils found
says_until workflow given untils found e = by (opened_bytes workflow given) refl e
  where
    of_ends : (whole : OpenedValue) → opened_bytes workflow given ≡ Ok whole → (r : Result (List FeedValue) EndReason) → ended_feeds untils whole.feeds ≡ r → ended_over whole.plans r ≡ Ok found
        → SaysUntil workflow given untils found
    of_ends whole is (Err reason) ends e = absurd (never _ found e)
    of_ends whole is (Ok feeds) ends e =
        let same : record { plans = whole.plans; feeds = feeds } ≡ found = same_Some (record { plans = whole.plans; feeds = feeds }) found (ap result_ok e) in
        let says : SaysWhole workflow given whole = says_whole workflow given whole is in
        subst (SaysUntil workflow given untils) same
        (record { says = says.says; whole = whole.feeds; fed = says.fed; ended = are_ended untils whole.feeds feeds ends })

    by : (r : Result OpenedValue Reason) → opened_bytes workflow given ≡ r → opened_until untils r ≡ Ok found → SaysUntil workflow given untils found
    by (Err reason) is e = absurd (never reason found e)
    by (Ok whole) is e = of_ends whole is (ended_feeds untils whole.feeds) refl e

-- ---- the rows

-- the first feed that keeps a row at a key
some-keeps : (feeds : List FeedValue) (key : KeyValue) (row : KeptRow) → kept_by feeds key ≡ Some row → (s : ℕ) × Keeps feeds s key row
some-keeps [] key row e = absurd (none-some row e)
some-keeps (feed ∷ later) key row e = by (kept_of_feed feed key) refl e (some-keeps later key row)
  where
    behind : (s : ℕ) × Keeps later s key row → (s : ℕ) × Keeps (feed ∷ later) s key row
    behind (s, k) = (suc s, record { feed = k.feed; there = k.there; kept = k.kept })

    by : (o : Option KeptRow) → kept_of_feed feed key ≡ o → option_or o (kept_by later key) ≡ Some row → (kept_by later key ≡ Some row → (s : ℕ) × Keeps later s key row) → (s : ℕ) × Keeps (feed ∷ later) s key row
    by None is e rest = behind (rest e)
    by (Some x) is e rest = (zero, record { feed = feed; there = refl; kept = is ∙ e })

-- where no other one does, the row that a feed keeps is the one that all keep
one-keeps : (feeds : List FeedValue) (key : KeyValue) (s : ℕ) (row : KeptRow) → Keeps feeds s key row
    → ((t : ℕ) (other : FeedValue) → slice_get feeds t ≡ Some other → kept_of_feed other key ≢ None → t ≡ s) → kept_by feeds key ≡ Some row
one-keeps [] key s row k alone = absurd (none-some k.feed k.there)
one-keeps (feed ∷ later) key zero row k alone =
    ap (λ (f : FeedValue). option_or (kept_of_feed f key) (kept_by later key)) (same_Some feed k.feed k.there) ∙ ap (λ (o : Option KeptRow). option_or o (kept_by later key)) k.kept
one-keeps (feed ∷ later) key (suc s) row k alone =
    by (kept_of_feed feed key) refl
    (one-keeps later key s row (record { feed = k.feed; there = k.there; kept = k.kept })
    (λ t other at keeps. let same : suc t ≡ suc s = alone (suc t) other at keeps in omega (arith, same)))
  where
    by : (o : Option KeptRow) → kept_of_feed feed key ≡ o → kept_by later key ≡ Some row → option_or o (kept_by later key) ≡ Some row
    by None is rest = rest
    by (Some x) is rest = absurd (let same : zero ≡ suc s = alone zero feed refl (λ none. none-some x (sym none ∙ is)) in omega (arith, same))

keeps-some : (feeds : List FeedValue) (s : ℕ) (key : KeyValue) (row : KeptRow) (k : Keeps feeds s key row) → kept_of_feed k.feed key ≢ None
keeps-some feeds s key row k none = none-some row (sym none ∙ k.kept)

kept_rows : (feeds : List FeedValue) (rows : DumpRowsValue) → IsRowsUnion feeds rows → AreKeptRows feeds rows
kept_rows feeds rows union = record {
  rising = union.rising;
  each_key = λ key row. (
    λ at. some-keeps feeds key row (sym (union.each_key key) ∙ at),
    λ (s, k). union.each_key key ∙ one-keeps feeds key s row k (λ t other at keeps. union.apart t s other k.feed key at k.there keeps (keeps-some feeds s key row k)),
  );
  apart = λ s t key row other k l. union.apart s t k.feed l.feed key k.there l.there (keeps-some feeds s key row k) (keeps-some feeds t key other l);
}

-- ---- the text

-- the dump of the rows that the feeds keep
pub run_is_right : (workflow : List ℕ) (given : List (Option (List ℕ))) (untils : List UntilValue) (found : OpenedValue) (says : SaysUntil workflow given untils found) (rows : DumpRowsValue) (first : PlanValue)
    → AreSound found.feeds → IsRowsUnion found.feeds rows → slice_get found.plans 0 ≡ Some first → RunIsRight workflow says.fed.bytes untils (dump_of first rows)
run_is_right workflow given untils found says rows first sound union tables = record {
  plans = found.plans;
  says = says.says;
  whole = says.whole;
  fed = says.fed.fed;
  opened = found.feeds;
  ended = says.ended;
  sound = sound;
  rows = rows;
  kept = kept_rows found.feeds rows union;
  first = first;
  tables = tables;
  dump = refl;
}

pub writes_right : (inputs : RunInputs) (old new : Written) → PrintsDump (opened_asked inputs) old new → WritesRight inputs old new
writes_right inputs old new (filled, is, written) = by (opened_asked inputs) refl is
  where
    given : List (Option (List ℕ))
    given = map (feed_bytes inputs.feed_form) (bytes_of inputs.feeds.items)

    untils : List UntilValue
    untils = map until_value inputs.until.now

    by : (r : Result OpenedValue Reason) → opened_asked inputs ≡ r → IsFilled r filled → WritesRight inputs old new
    by (Err reason) e is = absurd is
    by (Ok found) e is =
        let says : SaysUntil inputs.workflow.items given untils found = says_until inputs.workflow.items given untils found e in (
          says.fed.bytes,
          says.fed.are,
          dump_of filled.plan filled.rows,
          run_is_right inputs.workflow.items given untils found says filled.rows filled.plan is.ends.sound (subst (IsRowsUnion found.feeds) (sym is.rows) is.ends.union) is.first,
          written,
        )
