use Rattle.std.proofs.Common.{List, length, map, refl, sym, subst}
use Rattle.live_json.specs.Answers.{ok_line, counts_data}
use Rattle.live_json.specs.Private.Parts.{counts_value}
use Rattle.live_json.specs.declared.counts.CountsTold.{CountsTold}
use Rattle.live_session.specs.Counts.{AreAllCounts}
use Rattle.live_session.proofs.looking.tell_counts.Goals as goal

pub returns : goal.returns
returns g c = (
  ok_line (counts_data (map counts_value c.deref.result.now)),
  record {
    all = map counts_value c.deref.result.now;
    counted = subst (λ (told : List CountsTold). AreAllCounts c.args.board.now.rows c.args.plan.now.tables (length c.args.board.now.streams) (map counts_value told)) (sym c.deref.ensures.value) (rw c.tables.ensures.tables at c.in_ok-counts.ensures);
    line = refl;
  },
  c.print_counts.ensures,
)
