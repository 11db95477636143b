-- What a run writes by the exact functions, the workflow and the feeds say.
use Rattle.std.proofs.Common.{ℕ, List, map, sym, subst}
use Rattle.pk_copy.specs.KeyValue.{KeyValue}
use Rattle.row_view.specs.Row.{RowValue}
use Rattle.source_feed.specs.Planned.{FeedValue}
use Rattle.dump.specs.DumpRowsValue.{DumpRowsValue}
use Rattle.printing.specs.Printing.{Written}
use Rattle.vrepl_choices.specs.UntilValue.{UntilValue, until_value}
use Rattle.run_says.specs.Laws.{AreGiven, FeedKeeps, AreRowsOf, RunsAreRight}
use Rattle.run_says.specs.RunIsRight as said
use Rattle.vrepl_main.specs.RunIsRight.{Keeps, AreKeptRows, RunIsRight, WritesRight}
use Rattle.vrepl_main.specs.RunSays.{WritesSaid}
use Rattle.vrepl_main.specs.declared.named_inputs.RunInputs.{RunInputs}

feed_keeps : (feeds : List FeedValue) (s : ℕ) (key : KeyValue) (row : RowValue) → Keeps feeds s key row → FeedKeeps feeds s key row
feed_keeps feeds s key row keeps = record { feed = keeps.feed; there = keeps.there; kept = keeps.kept }

keeps_of : (feeds : List FeedValue) (s : ℕ) (key : KeyValue) (row : RowValue) → FeedKeeps feeds s key row → Keeps feeds s key row
keeps_of feeds s key row keeps = record { feed = keeps.feed; there = keeps.there; kept = keeps.kept }

rows_of : (feeds : List FeedValue) (rows : DumpRowsValue) → AreKeptRows feeds rows → AreRowsOf feeds rows
rows_of feeds rows kept = record {
  rising = kept.rising;
  each_key = λ key row. (
    λ there. (let one = (kept.each_key key row).0 there in (one.0, feed_keeps feeds one.0 key row one.1)),
    λ some. (kept.each_key key row).1 (some.0, keeps_of feeds some.0 key row some.1),
  );
  apart = λ s t key row other one two. kept.apart s t key row other (keeps_of feeds s key row one) (keeps_of feeds t key other two);
}

said_right : RunsAreRight → (workflow : List ℕ) (feeds : List (List ℕ)) (until : List UntilValue) (written : List ℕ) → RunIsRight workflow feeds until written → said.RunIsRight workflow feeds until written
said_right laws workflow feeds until written right =
    let given : AreGiven right.plans feeds until right.opened = record {
      given = right.fed.given;
      whole = right.whole;
      count = right.fed.count;
      each = λ s plan one feed plan_is one_is feed_is. (let opened = right.fed.each s plan one feed plan_is one_is feed_is in record { plan_of = opened.plan_of; groups = opened.groups });
      ended = right.ended;
      sound = right.sound;
    } in
    subst (said.RunIsRight workflow feeds until) (sym right.dump) (laws workflow feeds until right.plans right.opened right.rows right.first right.says given (rows_of right.opened right.rows right.kept) right.tables)

pub writes_said : RunsAreRight → (inputs : RunInputs) (old new : Written) → WritesRight inputs old new → WritesSaid inputs old new
writes_said laws inputs old new (feeds, are, text, right, written) = (feeds, are, text, said_right laws inputs.workflow.items feeds (map until_value inputs.until.now) text right, written)
