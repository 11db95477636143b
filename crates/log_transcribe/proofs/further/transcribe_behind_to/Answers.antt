use Rattle.std.proofs.Common.{List, ℕ, Err, subst, arith}
use Rattle.log_transcribe.specs.Transcript.{source_value}
use Rattle.log_transcribe.specs.Private.Opens.{OpensBehind}
use Rattle.log_transcribe.proofs.WholeLaws.{behind_written, behind_too_long, behind_stopped, first_stops, first_unread}
use Rattle.log_transcribe.proofs.further.transcribe_behind_to.Goals as goal

pub returns-in-Err : goal.returns-in-Err
returns-in-Err g c = first_unread (source_value c.args.source) c.args.feed.items (g.L.LogFiles.gives c.args.files.now) (g.L.LogFiles.many c.args.files.now) c.in-Err.error (g.W.Out.written c.args.out.now) c.in-Err.ensures

pub returns-in-Err-opened_behind : goal.returns-in-Err-opened_behind
returns-in-Err-opened_behind g c =
    first_stops (source_value c.args.source) c.args.feed.items (g.L.LogFiles.gives c.args.files.now) (g.L.LogFiles.many c.args.files.now) c.in-Ok.log c.in-Err-opened_behind.error (g.W.Out.written c.args.out.now) c.in-Ok.ensures.0 c.in-Ok.ensures.1
    (subst (λ (feed : List ℕ). OpensBehind (source_value c.args.source) feed c.in-Ok.log (Err c.in-Err-opened_behind.error)) c.deref.ensures.value c.in-Err-opened_behind.ensures)

pub returns-in-Err-told_behind : goal.returns-in-Err-told_behind
returns-in-Err-told_behind g c =
    behind_stopped (source_value c.args.source) c.args.feed.items (g.L.LogFiles.gives c.args.files.now) (g.L.LogFiles.many c.args.files.now) c.in-Ok.log c.in-Ok.ensures.0 c.in-Ok.ensures.1 c.in-Ok-opened_behind.sequel (rw c.deref.ensures.value at c.in-Ok-opened_behind.ensures)
    c.in-Err-told_behind.error (g.W.Out.written c.args.out.now) (g.W.Out.written c.told_behind.new.out) c.in-Err-told_behind.ensures

pub returns-then-size-room : goal.returns-then-size-room
returns-then-size-room g c =
    behind_written (source_value c.args.source) c.args.feed.items (g.L.LogFiles.gives c.args.files.now) (g.L.LogFiles.many c.args.files.now) c.in-Ok.log c.in-Ok.ensures.0 c.in-Ok.ensures.1 c.in-Ok-opened_behind.sequel (rw c.deref.ensures.value at c.in-Ok-opened_behind.ensures)
    (record {
      base = record {
        told = c.transactions_are_told.ensures;
        reach = c.transactions_reach.ensures;
        ends = c.ends_are_told.ensures;
        rise = c.courses_rise.ensures;
        read = c.messages_are_read.ensures;
        has = c.feeds_have_their_groups.ensures;
        courses = record { spelled = c.courses_are_read.ensures.spelled; only = c.courses_are_read.ensures.only };
      };
      opened = c.opened_feeds_are_whole.ensures;
      cuts = c.whole_feeds_are_cuts.ensures;
      joined = c.whole_goes_behind_whole.ensures;
      within = c.within_is_subset.ensures;
      canonical = c.union_is_the_least_set_over_both.ensures.canonical;
      one = c.union_is_the_least_set_over_both.ensures.holds_one;
      other = c.union_is_the_least_set_over_both.ensures.holds_other;
    }) c.in-Ok-told_behind.size (g.W.Out.written c.args.out.now) (g.W.Out.written c.told_behind.new.out) c.in-Ok-told_behind.ensures (omega (arith, c.len.ensures, c.saturating_sub-room.ensures, c.if-size-room.true))

pub returns : goal.returns
returns g c =
    rw c.count.ensures
    (behind_too_long (source_value c.args.source) c.args.feed.items (g.L.LogFiles.gives c.args.files.now) (g.L.LogFiles.many c.args.files.now) c.in-Ok.log c.in-Ok.ensures.0 c.in-Ok.ensures.1 c.in-Ok-opened_behind.sequel (rw c.deref.ensures.value at c.in-Ok-opened_behind.ensures)
    c.in-Ok-told_behind.size (g.W.Out.written c.args.out.now) (g.W.Out.written c.told_behind.new.out) c.in-Ok-told_behind.ensures (omega (arith, c.len.ensures, c.saturating_sub-room.ensures, c.if-size-room.false)))
