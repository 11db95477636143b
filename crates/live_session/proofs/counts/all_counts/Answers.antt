use Rattle.std.proofs.Common.{◌≡◌, ◌+◌, ℕ, length, length-append, ap, ◌∷◌, [], List, ◌∙◌}
use Rattle.filter_rule.specs.PlanTable.{TableValue}
use Rattle.live_json.specs.Answers.{TableCounts}
use Rattle.live_json.specs.Private.Parts.{counts_value}
use Rattle.live_json.specs.declared.counts.CountsTold.{CountsTold}
use Rattle.live_session.specs.Counts.{AreCounts}
use Rattle.live_session.proofs.Walking.{at-index, each-mapped}
use Rattle.live_session.proofs.counts.all_counts.Goals as goal

pub loop-t-preserved : goal.loop-t-preserved
loop-t-preserved c =
    let told : CountsTold = record { table = c.name.result; rows = c.in_ok-rows.rows } in
    let counted : ℕ → TableValue → TableCounts → Type 0 = λ t table one. (one.table ≡ table.name) × AreCounts c.args.board.now.rows t (length c.args.board.now.streams) one.rows in
    record {
      count = ap (λ (all : List CountsTold). length all) c.in_ok-push.ensures.items ∙ length-append c.loop-t.all.items (told ∷ []) ∙ ap (λ n. n + 1) c.loop-t.invariant.count;
      each =
          each-mapped counted counts_value c.args.tables.now c.loop-t.all.items c.push.new.self.items told c.loop-t.t c.in_ok-push.ensures.items c.loop-t.invariant.count
          (at-index (λ (table : TableValue). counted c.loop-t.t table (counts_value told)) c.args.tables.now c.loop-t.t c.index-tables-t.result c.index-tables-t.is (c.name.ensures, c.in_ok-rows.ensures))
          c.loop-t.invariant.each;
    }
