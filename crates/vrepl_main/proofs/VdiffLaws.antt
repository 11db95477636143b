-- What the command `vdiff` prints, and why it is refused, by what its inputs say.
use Rattle.std.proofs.Common.{◌≡◌, ◌∙◌, ap, sym, subst, ℕ, ◌≤◌, List, [], ◌∷◌, ◌⊎◌, ◌++◌, length, drop, get_or, map, refl, inl, inr, arith, Option, None, Some, Result, Ok, Err}
use Rattle.std.specs.Prelude.{◌≢◌, MatchOption, option_map}
use Rattle.filter_rule.specs.Faults as plans
use Rattle.filter_rule.specs.PlanValue.{PlanValue}
use Rattle.filter_rule.specs.Reading.{plans_of}
use Rattle.filter_rule.specs.declared.fault.PlanFault.{PlanFault}
use Rattle.filter_rule.specs.declared.fault.PlanFault.TheVariants as errors
use Rattle.pk_copy.specs.KeyValue.{KeyValue}
use Rattle.dump.specs.DumpReading as dump
use Rattle.dump.specs.DumpReading.{IsFirstBad, IsDumpReading}
use Rattle.printing.specs.Printing.{Written, BreaksOff}
use Rattle.vdiff.specs.Report.{report_of, IsFirstDifference}
use Rattle.dump.specs.DumpRowsValue.{DumpRowsValue, row_with_key}
use Rattle.dump.specs.declared.reading.DumpFault.{DumpFault}
use Rattle.dump.specs.declared.reading.DumpFault.TheVariants as faults
use Rattle.vdiff.specs.declared.report.Report.{Report}
use Rattle.vrepl_main.specs.declared.refusal.CommandRefusal.{CommandRefusal}
use Rattle.vrepl_main.specs.declared.refusal.CommandRefusal.TheVariants.{Memory, Workflow, NoStream, FeedCount, NotReached, Feed, BadHex, BadScript, BadDump, Changed, CannotRead, CannotWrite}
use Rattle.vrepl_main.specs.Reasons.{bad_workflow, no_stream, feed_count, not_reached, bad_hex, bad_feed, bad_script, bad_dump}
use Rattle.vrepl_main.specs.RefusalOf.{refusal_of_workflow, refusal_of_dump}
use Rattle.vrepl_main.specs.Command.{IsUnwritten}
use Rattle.vrepl_main.specs.Comparison.{Compared, IsComparison, AreDumps, IsBadLine, AreTextsReadOnce, RefusesDumps, report_text, first_text}

-- ---- the difference

-- the least difference, by what its key is seen as
least_is : {R : Type 0} (first : Option R) (now : R → KeyValue) (same : Type 0) (differ : KeyValue → Type 0) → MatchOption first same (λ key. differ (now key)) → MatchOption (option_map now first) same differ
least_is None now same differ is = is
least_is (Some key) now same differ is = is

pub comparison_is : {R : Type 0} (first : Option R) (now : R → KeyValue) (compared : Compared) (report : Report) → report ≡ report_of compared.source compared.target
    → MatchOption first (compared.source ≡ compared.target) (λ key. IsFirstDifference compared.source compared.target (now key))
    → IsComparison compared (report_text report ++ first_text compared.plan.tables (option_map now first))
comparison_is first now compared report is least = record {
  first = option_map now first;
  least = least_is first now (compared.source ≡ compared.target) (IsFirstDifference compared.source compared.target) least;
  is_text = ap (λ (r : Report). report_text r ++ first_text compared.plan.tables (option_map now first)) is;
}

-- rows that differ at a key aren't the same
pub differ_at : (source target : DumpRowsValue) (key : KeyValue) → IsFirstDifference source target key → source ≢ target
differ_at source target key is same = is.differ (ap (λ (rows : DumpRowsValue). row_with_key rows key) same)

-- ---- refusals

-- the workflow's fault
pub refuses_workflow : (fault : PlanFault) (workflow source target : List ℕ) (now : Written) → plans.Fails {Y = List PlanValue} fault (plans_of workflow) → RefusesDumps workflow source target (refusal_of_workflow fault) now now
refuses_workflow errors.Memory workflow source target now is = refl
refuses_workflow errors.Json workflow source target now is = (Err (bad_workflow plans.json), is, (refl, refl))
refuses_workflow errors.Shape workflow source target now is = (Err (bad_workflow plans.shape), is, (refl, refl))
refuses_workflow errors.Limit workflow source target now is = (Err (bad_workflow plans.limit), is, (refl, refl))
refuses_workflow (errors.NoSuchColumn table column) workflow source target now is = (Err (bad_workflow _), is, (refl, refl))
refuses_workflow (errors.KeyType table column) workflow source target now is = (Err (bad_workflow _), is, (refl, refl))
refuses_workflow (errors.BadRule stream rule) workflow source target now is = (Err (bad_workflow _), is, (refl, refl))
refuses_workflow (errors.ColumnsDiffer table) workflow source target now is = (Err (bad_workflow _), is, (refl, refl))

module _ (workflow source target : List ℕ) (plan : PlanValue) (others : List PlanValue) (is : plans_of workflow ≡ Ok (plan ∷ others)) (now : Written) where
  -- the source's bad line
  pub refuses_source : {X : Type 0} (fault : DumpFault) → ((n : ℕ) → ◌≡◌ {A = Result X DumpFault} (Err fault) (Err (faults.BadDump n)) → IsFirstBad plan source n) → RefusesDumps workflow source target (refusal_of_dump fault) now now
  refuses_source faults.Memory bad = refl
  refuses_source (faults.BadDump n) bad = (Err (bad_dump n), record { plan = plan; others = others; plans = is; bad = inl (bad n refl) }, (refl, refl))

  -- the target's, behind a dump of the source
  pub refuses_target : {X : Type 0} (fault : DumpFault) (rows : DumpRowsValue) → IsDumpReading plan source (Ok rows) → ((n : ℕ) → ◌≡◌ {A = Result X DumpFault} (Err fault) (Err (faults.BadDump n)) → IsFirstBad plan target n)
      → RefusesDumps workflow source target (refusal_of_dump fault) now now
  refuses_target faults.Memory rows read bad = refl
  refuses_target (faults.BadDump n) rows read bad = (Err (bad_dump n), record { plan = plan; others = others; plans = is; bad = inr (rows, read, bad n refl) }, (refl, refl))

-- the comparison can't be written
pub unwritten_comparison : (workflow source target : List ℕ) (compared : Compared) (refusal : CommandRefusal) (old new : Written) → AreDumps workflow source target compared
    → (text : List ℕ) × IsComparison compared text × BreaksOff old new text → IsUnwritten refusal → RefusesDumps workflow source target refusal old new
unwritten_comparison workflow source target compared (CannotWrite file) old new dumps (text, comparison, broken) is = (Ok compared, dumps, (is, (text, comparison, broken)))
unwritten_comparison workflow source target compared Memory old new dumps printed is = absurd is
unwritten_comparison workflow source target compared (Workflow fault) old new dumps printed is = absurd is
unwritten_comparison workflow source target compared NoStream old new dumps printed is = absurd is
unwritten_comparison workflow source target compared (Changed file) old new dumps printed is = absurd is
unwritten_comparison workflow source target compared FeedCount old new dumps printed is = absurd is
unwritten_comparison workflow source target compared (NotReached stream) old new dumps printed is = absurd is
unwritten_comparison workflow source target compared (Feed fault) old new dumps printed is = absurd is
unwritten_comparison workflow source target compared BadHex old new dumps printed is = absurd is
unwritten_comparison workflow source target compared (BadScript bad) old new dumps printed is = absurd is
unwritten_comparison workflow source target compared (BadDump bad) old new dumps printed is = absurd is
unwritten_comparison workflow source target compared (CannotRead file) old new dumps printed is = absurd is

-- ---- what is read

-- the first of a workflow's plans, and the others
pub first_plan : {A : Type 0} (f : A → PlanValue) (reading : Result (List PlanValue) plans.Fault) (all : List A) (plan : A) → reading ≡ Ok (map f all) → 1 ≤ length all → plan ≡ get_or all 0 plan
    → reading ≡ Ok (f plan ∷ map f (drop 1 all))
first_plan f reading [] plan is some first = absurd (omega (arith, some))
first_plan {A} f reading (x ∷ all) plan is some first = is ∙ ap (λ (y : A). Ok (f y ∷ map f all)) (sym first)

-- ---- what the files are read as

module _ (once : dump.AreReadOnce) (workflow source target : List ℕ) where
  same_plan : (plan other : PlanValue) (behind others : List PlanValue) → plans_of workflow ≡ Ok (plan ∷ behind) → plans_of workflow ≡ Ok (other ∷ others) → plan ≡ other
  same_plan plan other behind others is too = cc

  no_plan : (plan : PlanValue) (behind : List PlanValue) (fault : plans.Fault) → plans_of workflow ≡ Ok (plan ∷ behind) → plans_of workflow ≡ Err fault → ⊥
  no_plan plan behind fault is too = cc

  same_fault : (fault other : plans.Fault) → plans_of workflow ≡ Err fault → plans_of workflow ≡ Err other → fault ≡ other
  same_fault fault other is too = cc

  same_rows : (plan other : PlanValue) (text : List ℕ) (rows others : DumpRowsValue) → plan ≡ other → IsDumpReading plan text (Ok rows) → IsDumpReading other text (Ok others) → rows ≡ others
  same_rows plan other text rows others is one two =
      let same : ◌≡◌ {A = Result DumpRowsValue ℕ} (Ok rows) (Ok others) = once other text (Ok rows) (Ok others) (subst (λ (p : PlanValue). IsDumpReading p text (Ok rows)) is one) two in
      cc

  same_bad : (plan other : PlanValue) (text : List ℕ) (n m : ℕ) → plan ≡ other → IsDumpReading plan text (Err n) → IsDumpReading other text (Err m) → n ≡ m
  same_bad plan other text n m is one two =
      let same : ◌≡◌ {A = Result DumpRowsValue ℕ} (Err n) (Err m) = once other text (Err n) (Err m) (subst (λ (p : PlanValue). IsDumpReading p text (Err n)) is one) two in
      cc

  not_both : (plan other : PlanValue) (text : List ℕ) (rows : DumpRowsValue) (n : ℕ) → plan ≡ other → IsDumpReading plan text (Ok rows) → IsDumpReading other text (Err n) → ⊥
  not_both plan other text rows n is one two =
      let same : ◌≡◌ {A = Result DumpRowsValue ℕ} (Ok rows) (Err n) = once other text (Ok rows) (Err n) (subst (λ (p : PlanValue). IsDumpReading p text (Ok rows)) is one) two in
      cc

  no_bad_line : (compared : Compared) (n : ℕ) → AreDumps workflow source target compared → IsBadLine workflow source target n → ⊥
  no_bad_line compared n dumps bad = by bad.bad
    where
      same : compared.plan ≡ bad.plan
      same = same_plan compared.plan bad.plan dumps.others bad.others dumps.plans bad.plans

      by : IsDumpReading bad.plan source (Err n) ⊎ ((rows : DumpRowsValue) × IsDumpReading bad.plan source (Ok rows) × IsDumpReading bad.plan target (Err n)) → ⊥
      by (inl line) = not_both compared.plan bad.plan source compared.source n same dumps.source_read line
      by (inr (rows, read, line)) = not_both compared.plan bad.plan target compared.target n same dumps.target_read line

  same_dumps : (one other : Compared) → AreDumps workflow source target one → AreDumps workflow source target other → one ≡ other
  same_dumps one other x y =
      let plan = same_plan one.plan other.plan x.others y.others x.plans y.plans in
      let ours = same_rows one.plan other.plan source one.source other.source plan x.source_read y.source_read in
      let theirs = same_rows one.plan other.plan target one.target other.target plan x.target_read y.target_read in
      λ i. record { plan = plan i; source = ours i; target = theirs i }

  same_line : (n m : ℕ) → IsBadLine workflow source target n → IsBadLine workflow source target m → n ≡ m
  same_line n m x y = by x.bad y.bad
    where
      same : x.plan ≡ y.plan
      same = same_plan x.plan y.plan x.others y.others x.plans y.plans

      by : IsDumpReading x.plan source (Err n) ⊎ ((rows : DumpRowsValue) × IsDumpReading x.plan source (Ok rows) × IsDumpReading x.plan target (Err n)) → IsDumpReading y.plan source (Err m) ⊎ ((rows : DumpRowsValue) × IsDumpReading y.plan source (Ok rows) × IsDumpReading y.plan target (Err m)) → n ≡ m
      by (inl a) (inl b) = same_bad x.plan y.plan source n m same a b
      by (inl a) (inr (rows, read, b)) = absurd (not_both y.plan x.plan source rows n (sym same) read a)
      by (inr (rows, read, a)) (inl b) = absurd (not_both x.plan y.plan source rows m same read b)
      by (inr (rows, read, a)) (inr (others, too, b)) = same_bad x.plan y.plan target n m same a b

  pub read_once : AreTextsReadOnce workflow source target
  read_once (Ok one) (Ok other) x y = ap Ok (same_dumps one other x y)
  read_once (Ok one) (Err (bad_workflow fault)) x y = absurd (no_plan one.plan x.others fault x.plans y)
  read_once (Ok one) (Err (bad_dump n)) x y = absurd (no_bad_line one n x y)
  read_once (Ok one) (Err no_stream) x y = absurd y
  read_once (Ok one) (Err feed_count) x y = absurd y
  read_once (Ok one) (Err (not_reached stream)) x y = absurd y
  read_once (Ok one) (Err bad_hex) x y = absurd y
  read_once (Ok one) (Err (bad_feed fault)) x y = absurd y
  read_once (Ok one) (Err (bad_script n)) x y = absurd y
  read_once (Err (bad_workflow fault)) (Ok other) x y = absurd (no_plan other.plan y.others fault y.plans x)
  read_once (Err (bad_workflow fault)) (Err (bad_workflow other)) x y = ap (λ (f : plans.Fault). Err (bad_workflow f)) (same_fault fault other x y)
  read_once (Err (bad_workflow fault)) (Err (bad_dump n)) x y = absurd (no_plan y.plan y.others fault y.plans x)
  read_once (Err (bad_workflow fault)) (Err no_stream) x y = absurd y
  read_once (Err (bad_workflow fault)) (Err feed_count) x y = absurd y
  read_once (Err (bad_workflow fault)) (Err (not_reached stream)) x y = absurd y
  read_once (Err (bad_workflow fault)) (Err bad_hex) x y = absurd y
  read_once (Err (bad_workflow fault)) (Err (bad_feed other)) x y = absurd y
  read_once (Err (bad_workflow fault)) (Err (bad_script n)) x y = absurd y
  read_once (Err (bad_dump n)) (Ok other) x y = absurd (no_bad_line other n y x)
  read_once (Err (bad_dump n)) (Err (bad_workflow fault)) x y = absurd (no_plan x.plan x.others fault x.plans y)
  read_once (Err (bad_dump n)) (Err (bad_dump m)) x y = ap (λ (k : ℕ). Err (bad_dump k)) (same_line n m x y)
  read_once (Err (bad_dump n)) (Err no_stream) x y = absurd y
  read_once (Err (bad_dump n)) (Err feed_count) x y = absurd y
  read_once (Err (bad_dump n)) (Err (not_reached stream)) x y = absurd y
  read_once (Err (bad_dump n)) (Err bad_hex) x y = absurd y
  read_once (Err (bad_dump n)) (Err (bad_feed fault)) x y = absurd y
  read_once (Err (bad_dump n)) (Err (bad_script m)) x y = absurd y
  read_once (Err no_stream) other x y = absurd x
  read_once (Err feed_count) other x y = absurd x
  read_once (Err (not_reached stream)) other x y = absurd x
  read_once (Err bad_hex) other x y = absurd x
  read_once (Err (bad_feed fault)) other x y = absurd x
  read_once (Err (bad_script n)) other x y = absurd x
