use Rattle.std.proofs.Common.{ℕ, List, length, drop, arith, ap, subst, sym, ◌∙◌}
use Rattle.pk_copy.specs.KeyOrder.{key_cmp}
use Rattle.target_tables.specs.Contents.{from_key}
use Rattle.board_laws.specs.Meaning.{TargetRows}
use Rattle.live_session.specs.Counts.{AreCounts}
use Rattle.live_session.proofs.CountLaws.{counts-are, few-zeros, scans-fewer, written-back}
use Rattle.live_session.proofs.PageLaws.{rising-from}
use Rattle.live_session.proofs.counts.counts_of.Goals as goal

pub count_from-requires-clause-rising : goal.count_from-requires-clause-rising
count_from-requires-clause-rising c = rising-from c.target-2.result.now.entries c.scan.result c.in_ok-first.first c.scan.ensures.entries c.scan.ensures.rising

pub count_from-requires-clause-few : goal.count_from-requires-clause-few
count_from-requires-clause-few c =
    let fewer = scans-fewer c.target-2.result.now.entries c.scan.result c.in_ok-first.first c.scan.ensures.entries in
    let same = ap (λ (rows : TargetRows). length rows) (c.target-2.ensures ∙ sym c.target.ensures) in
    few-zeros c.len.result (length c.scan.result) c.deref_mut.result.now (c.deref_mut.ensures.value ∙ c.in_ok-counts.ensures.items_if_clones_equal (λ y h. cc)) (omega (arith, fewer, same, c.len-2.ensures))

pub returns : goal.returns
returns c =
    let back = written-back c.count_from.new.counts (drop (length c.count_from.new.counts) c.in_ok-counts.counts.items) c.in_ok-counts.counts.len (omega (arith, c.count_from.ensures.count, c.deref_mut.ensures.len)) in
    subst (λ (counts : List ℕ). AreCounts c.args.board.now.rows c.args.t (length c.args.board.now.streams) counts) (sym back)
    (subst (λ (n : ℕ). AreCounts c.args.board.now.rows c.args.t n c.count_from.new.counts) c.len.ensures
    (counts-are c.args.board.now.rows c.scan.result c.args.t c.len.result c.in_ok-first.first c.deref_mut.result.now c.count_from.new.counts (c.scan.ensures.entries ∙ ap (λ (rows : TargetRows). from_key key_cmp rows c.in_ok-first.first) c.target-2.ensures) c.in_ok-first.ensures.least
    (c.deref_mut.ensures.value ∙ c.in_ok-counts.ensures.items_if_clones_equal (λ y h. cc)) c.count_from.ensures))
