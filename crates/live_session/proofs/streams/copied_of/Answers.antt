use Rattle.std.proofs.Common.{◌≡◌, ◌+◌, ◌∷◌, [], ℕ, List, length, length-append, slice_get, ap, ◌∙◌}
use Rattle.filter_rule.specs.PlanTable.{TableValue}
use Rattle.pk_copy.specs.Marks.{mark_of}
use Rattle.pk_copy.specs.MarkView.{mark_value}
use Rattle.board_laws.specs.Meaning.{State}
use Rattle.live_json.specs.Answers.{CopiedValue}
use Rattle.live_json.specs.Private.Parts.{copied_value}
use Rattle.live_json.specs.declared.streams.CopiedTold.{CopiedTold}
use Rattle.live_session.proofs.StreamLaws.{copied-as, some-at, told_copied}
use Rattle.live_session.proofs.Walking.{at-index, each-mapped}
use Rattle.live_session.proofs.streams.copied_of.Goals as goal

pub loop-t-preserved : goal.loop-t-preserved
loop-t-preserved c =
    let told : CopiedTold = record { table = c.name.result; mark = c.in-Ok.mark } in
    record {
      count = ap (λ (all : List CopiedTold). length all) c.in_ok-push.ensures.items ∙ length-append c.loop-t.copied.items (told ∷ []) ∙ ap (λ n. n + 1) c.loop-t.invariant.count;
      each = λ state stands.
          each-mapped (λ (t : ℕ) (table : TableValue) (one : CopiedValue). one ≡ told_copied table.name (mark_of state.marks t)) copied_value c.args.tables.now c.loop-t.copied.items c.push.new.self.items told c.loop-t.t c.in_ok-push.ensures.items c.loop-t.invariant.count
          (at-index (λ (table : TableValue). copied_value told ≡ told_copied table.name (mark_of state.marks c.loop-t.t)) c.args.tables.now c.loop-t.t c.index-tables-t.result c.index-tables-t.is
          (copied-as c.name.result.now c.index-tables-t.result.name (mark_value c.in-Ok.mark) (mark_of state.marks c.loop-t.t) c.name.ensures
          (some-at (λ (state : State). mark_value c.in-Ok.mark ≡ mark_of state.marks c.loop-t.t) (slice_get c.args.board.now.streams c.args.s) state stands c.in-Ok.ensures.mark)))
          (c.loop-t.invariant.each state stands);
    }
