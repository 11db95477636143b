use Rattle.std.proofs.Common.{◌≡◌, ◌<◌, ◌++◌, [], ◌∷◌, length, map, length-append, arith, refl, sym, ap, eq-eqb, ◌∙◌}
use Rattle.std.proofs.lemmas.Bool.{ne_eqb}
use Rattle.target_tables.specs.Contents.{entry}
use Rattle.live_session.proofs.PageLaws.{ends-later, rises-on, skipped, pushed}
use Rattle.live_session.proofs.page.first_rows.Goals as goal

pub returns-then-table-t : goal.returns-then-table-t
returns-then-table-t c =
    let table : c.table.result ≡ c.in-Some.key.now.table = c.table.ensures in
    let later : c.args.t < c.in-Some.key.now.table = omega arith in
    ends-later c.loop-entries.entries c.next.new.self (c.in-Some.key.now, (c.in-Some.stream, c.in-Some.row.now)) c.args.t c.in-Some.ensures.steps _ (map entry c.loop-entries.found.items) _ later c.loop-entries.invariant.rising c.loop-entries.invariant.seen

pub loop-entries-preserved : goal.loop-entries-preserved
loop-entries-preserved c = record {
  few = c.loop-entries.invariant.few;
  rising = rises-on c.loop-entries.entries c.next.new.self (c.in-Some.key.now, (c.in-Some.stream, c.in-Some.row.now)) c.args.t c.in-Some.ensures.steps c.loop-entries.invariant.rising;
  seen =
      skipped c.loop-entries.entries c.next.new.self (c.in-Some.key.now, (c.in-Some.stream, c.in-Some.row.now)) c.args.t c.in-Some.ensures.steps _ (map entry c.loop-entries.found.items) _
      (ne_eqb c.in-Some.key.now.table c.args.t (λ same. c.if-table-t-2.false (c.table-in-loop-entries.ensures ∙ same))) c.loop-entries.invariant.seen;
}

pub loop-entries-preserved-in-Continue-1 : goal.loop-entries-preserved-in-Continue-1
loop-entries-preserved-in-Continue-1 c =
    let within : length c.loop-entries.found.items < c.args.rows = omega (arith, c.loop-entries.found.ok.0) in
    let count : length c.push.new.self.items ≡ length (c.loop-entries.found.items ++ (c.in-Some.key, c.in-Some.stream, c.in-Some.row) ∷ []) = ap length c.in_ok-push.ensures.items in
    record {
      few = omega (arith, length-append c.loop-entries.found.items ((c.in-Some.key, c.in-Some.stream, c.in-Some.row) ∷ []));
      rising = rises-on c.loop-entries.entries c.next.new.self (c.in-Some.key.now, (c.in-Some.stream, c.in-Some.row.now)) c.args.t c.in-Some.ensures.steps c.loop-entries.invariant.rising;
      seen =
          pushed c.loop-entries.entries c.next.new.self (c.in-Some.key.now, (c.in-Some.stream, c.in-Some.row.now)) c.args.t c.in-Some.ensures.steps _ c.loop-entries.found.items c.push.new.self.items (c.in-Some.key, c.in-Some.stream, c.in-Some.row) c.args.rows c.in_ok-push.ensures.items refl
          (eq-eqb c.in-Some.key.now.table c.args.t (sym c.table-in-loop-entries.ensures ∙ c.if-table-t-2.true)) within c.loop-entries.invariant.seen;
    }
