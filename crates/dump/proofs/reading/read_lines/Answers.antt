use Rattle.std.proofs.Common.{◌≡◌, ◌<◌, ◌≤◌, ◌∙◌, ℕ, length, ap, sym, subst, arith, inl, Ok, Err}
use Rattle.dump.specs.declared.reading.DumpFault.TheVariants.{BadDump}
use Rattle.dump.specs.DumpReading.{Behind, IsDump, IsFirstBad}
use Rattle.dump.specs.DumpRowsValue.{DumpRowsValue}
use Rattle.dump.specs.Private.Known.{AreLinesOf, texts_of}
use Rattle.dump.proofs.KnownLaws.{lines_follow, rest_within}
use Rattle.dump.proofs.StandLaws.{bad_line, missing_line, read_all, read_more, no_dump, one_bad, dumps_determine, is_zero, is_more}
use Rattle.dump.proofs.reading.read_lines.Goals as goal

pub keep_line-requires : goal.keep_line-requires
keep_line-requires g c = rest_within _ _ _ _ _ c.in-Ok.ensures.taken

pub loop-rest-preserved : goal.loop-rest-preserved
loop-rest-preserved g c = (
  read_more _ _ _ _ _ _ _ c.loop-rest.invariant.0 c.in-Ok.ensures.taken,
  lines_follow c.args.plan.now _ _ _ _ _ _ _ c.loop-rest.invariant.1 (c.len-count.ensures ∙ ap (λ (s : Behind). length s.rows) c.read.view_is) c.in-Ok.ensures.taken (rw (ap (λ (s : Behind). s.rows) c.read-in-loop-rest.view_is) at c.keep_line.ensures),
)

pub new-requires : goal.new-requires
new-requires g c = subst (AreLinesOf (texts_of c.loop-rest.lines.items)) (sym (ap (λ (s : Behind). s.rows) c.read-2.view_is)) c.loop-rest.invariant.1

pub returns-in-Err-Bad-clause-only : goal.returns-in-Err-Bad-clause-only
returns-in-Err-Bad-clause-only g c =
    let bad = bad_line _ _ _ _ _ c.loop-rest.invariant.0 (c.in-Err-Bad.ensures.bad (ap Err c.in-Err-Bad.field-0-is)) (is_more _ _ c.is_empty.ensures c.loop-rest-test.true) in
    λ rows dump. absurd (no_dump _ _ _ _ bad dump)

pub returns-in-Err-Bad-clause-bad : goal.returns-in-Err-Bad-clause-bad
returns-in-Err-Bad-clause-bad g c =
    let bad = bad_line _ _ _ _ _ c.loop-rest.invariant.0 (c.in-Err-Bad.ensures.bad (ap Err c.in-Err-Bad.field-0-is)) (is_more _ _ c.is_empty.ensures c.loop-rest-test.true) in
    λ n e.
    let is : c.loop-rest.line ≡ n = cc in
    subst (IsFirstBad c.args.plan.now c.args.bytes.now) is bad

pub returns-in-Err-Bad-clause-first : goal.returns-in-Err-Bad-clause-first
returns-in-Err-Bad-clause-first g c =
    let bad = bad_line _ _ _ _ _ c.loop-rest.invariant.0 (c.in-Err-Bad.ensures.bad (ap Err c.in-Err-Bad.field-0-is)) (is_more _ _ c.is_empty.ensures c.loop-rest-test.true) in
    λ n other. inl (ap (λ (k : ℕ). Err (BadDump k)) (one_bad _ _ _ _ bad other))

pub returns-then-read-tables-clause-only : goal.returns-then-read-tables-clause-only
returns-then-read-tables-clause-only g c =
    let lt : c.loop-rest.read.begun < length c.args.plan.now.tables = omega (arith, c.if-read-tables.true, ap (λ (s : Behind). s.begun) c.read-2.view_is, ap length c.tables.ensures.tables) in
    let bad = missing_line _ _ _ _ _ c.loop-rest.invariant.0 (is_zero _ _ c.is_empty.ensures c.loop-rest-test.false) lt in
    λ rows dump. absurd (no_dump _ _ _ _ bad dump)

pub returns-then-read-tables-clause-bad : goal.returns-then-read-tables-clause-bad
returns-then-read-tables-clause-bad g c =
    let lt : c.loop-rest.read.begun < length c.args.plan.now.tables = omega (arith, c.if-read-tables.true, ap (λ (s : Behind). s.begun) c.read-2.view_is, ap length c.tables.ensures.tables) in
    let bad = missing_line _ _ _ _ _ c.loop-rest.invariant.0 (is_zero _ _ c.is_empty.ensures c.loop-rest-test.false) lt in
    λ n e.
    let is : c.loop-rest.line ≡ n = cc in
    subst (IsFirstBad c.args.plan.now c.args.bytes.now) is bad

pub returns-then-read-tables-clause-first : goal.returns-then-read-tables-clause-first
returns-then-read-tables-clause-first g c =
    let lt : c.loop-rest.read.begun < length c.args.plan.now.tables = omega (arith, c.if-read-tables.true, ap (λ (s : Behind). s.begun) c.read-2.view_is, ap length c.tables.ensures.tables) in
    let bad = missing_line _ _ _ _ _ c.loop-rest.invariant.0 (is_zero _ _ c.is_empty.ensures c.loop-rest-test.false) lt in
    λ n other. inl (ap (λ (k : ℕ). Err (BadDump k)) (one_bad _ _ _ _ bad other))

pub returns-clause-ok : goal.returns-clause-ok
returns-clause-ok g c =
    let all : length c.args.plan.now.tables ≤ c.loop-rest.read.begun = omega (arith, c.if-read-tables.false, ap (λ (s : Behind). s.begun) c.read-2.view_is, ap length c.tables.ensures.tables) in
    let dump = read_all _ _ _ _ _ c.loop-rest.invariant.0 (is_zero _ _ c.is_empty.ensures c.loop-rest-test.false) all in
    subst (λ (rows : DumpRowsValue). IsDump c.args.plan.now rows c.args.bytes.now) (sym (c.new.ensures ∙ ap (λ (s : Behind). s.rows) c.read-2.view_is)) dump

pub returns-clause-only : goal.returns-clause-only
returns-clause-only g c =
    let all : length c.args.plan.now.tables ≤ c.loop-rest.read.begun = omega (arith, c.if-read-tables.false, ap (λ (s : Behind). s.begun) c.read-2.view_is, ap length c.tables.ensures.tables) in
    let dump = read_all _ _ _ _ _ c.loop-rest.invariant.0 (is_zero _ _ c.is_empty.ensures c.loop-rest-test.false) all in
    λ rows other. inl (ap Ok (c.new.ensures ∙ ap (λ (s : Behind). s.rows) c.read-2.view_is ∙ dumps_determine _ _ _ _ dump other))

pub returns-clause-first : goal.returns-clause-first
returns-clause-first g c =
    let all : length c.args.plan.now.tables ≤ c.loop-rest.read.begun = omega (arith, c.if-read-tables.false, ap (λ (s : Behind). s.begun) c.read-2.view_is, ap length c.tables.ensures.tables) in
    let dump = read_all _ _ _ _ _ c.loop-rest.invariant.0 (is_zero _ _ c.is_empty.ensures c.loop-rest-test.false) all in
    λ n bad. absurd (no_dump _ _ _ _ bad dump)
