-- Status 0 of `check`, and runs of what it is said of.
use Rattle.std.proofs.Common.{◌≡◌, ◌↔◌, ◌∙◌, ℕ, zero, suc, Bool, true, false, List, [], ◌∷◌, length, map, Option, Some, None, Result, Ok, Err, refl, sym, ap, subst, arith}
use Rattle.std.specs.Prelude.{◌==◌, ◌||◌, not, slice_get}
use Rattle.std.specs.Result.{result_ok}
use Rattle.std.proofs.lemmas.Bool.{true≢false, eqb-true}
use Rattle.std.proofs.lemmas.List.{length-map}
use Rattle.std.proofs.lemmas.Option.{same_Some, none-some}
use Rattle.list_laws.specs.Outcome.{◌>>=◌, each, refused_if}
use Rattle.serde_json.specs.Data.{Data}
use Rattle.filter_rule.specs.Document.{document_of}
use Rattle.filter_rule.specs.Faults as faults
use Rattle.filter_rule.specs.Limits.{known_vindexes, within_limits}
use Rattle.filter_rule.specs.PlanTable.{TableValue}
use Rattle.filter_rule.specs.PlanValue.{PlanValue}
use Rattle.filter_rule.specs.Reading.{Decided, json_of, decided_from, closed_from, plan_over, plans_of_document, plans_of}
use Rattle.filter_rule.specs.Resolving.{resolved}
use Rattle.filter_rule.proofs.FollowLaws.{mapped_at}
use Rattle.filter_rule.proofs.StepLaws as steps
use Rattle.source_feed.specs.Planned.{PlannedGroupValue, FeedValue, groups_under}
use Rattle.source_feed.specs.SoundGroups.{sound_groups}
use Rattle.source_feed.specs.declared.fault.FeedFault.{FeedFault}
use Rattle.feed_check.specs.Checked.{CheckedValue, checked_feeds}
use Rattle.feed_check.specs.Clean.{AreCleanFeeds, AreFaultlessFeeds, WarnsUnlessFaultless, TellsUnlessClean}
use Rattle.feed_check.specs.Report.{ReportValue, all_notes, all_warnings, has_some}
use Rattle.check_said.specs.Said.{are_noted, are_warned, said_of}
use Rattle.vrepl_choices.specs.declared.report_form.ReportForm.{ReportForm}
use Rattle.vrepl_choices.specs.declared.report_form.ReportForm.TheVariants.{Lines, Json}
use Rattle.workflow_check.specs.File.{value_in, notes_of}
use Rattle.apply_core.specs.Feeds.{AreFed}
use Rattle.apply_core.specs.Fresh.{HaveSameTables}
use Rattle.apply_core.specs.RunRefused.{IsRefusedRun, number_of_run}
use Rattle.apply_core.specs.declared.run_refusal.RunRefusal.{RunRefusal}
use Rattle.apply_core.specs.declared.run_refusal.RunRefusal.TheVariants as runs
use Rattle.vrepl_main.specs.HexText.{feed_bytes}
use Rattle.vrepl_main.specs.InputList.{bytes_of}
use Rattle.vrepl_main.specs.Opening.{OpenedValue, feed_under, opened_feed, opened_feeds, opened_then, opened_with, opened_bytes, opened, said_plans}
use Rattle.vrepl_main.specs.Reasons.{Reason, feed_count}
use Rattle.vrepl_choices.specs.UntilValue.{until_value}
use Rattle.vrepl_choices.specs.declared.until.Until.{Until}
use Rattle.vrepl_main.specs.Ending.{opened_until}
use Rattle.vrepl_main.specs.Running.{opened_asked}
use Rattle.vrepl_main.proofs.EndLaws.{opened_whole}
use Rattle.vrepl_main.specs.declared.named_inputs.RunInputs.{RunInputs}
use Rattle.vrepl_check.specs.Checking.{IsFound, finds, bytes_or_none, names_of, said_checks, report_with, report_asked}
use Rattle.vrepl_check.specs.Clean.{HasFile, IsFaultlessFile, IsCleanFile, IsFaultless, IsClean, IsGood, bytes_given, AreSameInputs, FaultlessRunsAreNotRefused, CleanIsFaultless}
use Rattle.vrepl_check.specs.declared.inputs.CheckInputs.{CheckInputs}
use Rattle.vrepl_check.proofs.FileLaws.{either, faults_none, all_none}

abbrev ok : {A : Type 0} → A → Result A Reason
ok x = Ok x

never : {P A : Type 0} (reason : Reason) (x : A) → Err reason ≡ ok x → P
never reason x e = absurd (none-some x (ap result_ok e))

same_ok : {A : Type 0} (x y : A) → ok x ≡ ok y → x ≡ y
same_ok x y e = same_Some x y (ap result_ok e)

-- ---- what was opened

-- feeds under plans
record AreUnder (plans : List PlanValue) (feeds : List FeedValue) : Type 0 where
  count : length feeds ≡ length plans
  plan_of : map (λ (feed : FeedValue). feed.plan) feeds ≡ plans

under-one : (plan : PlanValue) (o : Option (List ℕ)) (feed : FeedValue) → opened_feed plan o ≡ Ok feed → feed.plan ≡ plan
under-one plan None feed e = never _ feed e
under-one plan (Some bytes) feed e = by (groups_under bytes plan) e
  where
    by : (r : Result (List PlannedGroupValue) FeedFault) → feed_under plan r ≡ Ok feed → feed.plan ≡ plan
    by (Err fault) e = never _ feed e
    by (Ok groups) e = sym (ap (λ (f : FeedValue). f.plan) (same_ok (record { plan = plan; groups = groups }) feed e))

under : (plans : List PlanValue) (given : List (Option (List ℕ))) (feeds : List FeedValue) → length plans ≡ length given → opened_feeds plans given ≡ Ok feeds → AreUnder plans feeds
under [] given feeds long e = subst (AreUnder []) (same_ok [] feeds e) (record { count = refl; plan_of = refl })
under (plan ∷ plans) [] feeds long e = absurd (omega (arith, long))
under (plan ∷ plans) (o ∷ given) feeds long e =
    by (opened_feed plan o) refl (opened_feeds plans given) refl e (λ later are. under plans given later (omega (arith, long)) are)
  where
    by : (r : Result FeedValue Reason) → opened_feed plan o ≡ r → (rs : Result (List FeedValue) Reason) → opened_feeds plans given ≡ rs → (r >>= λ first. opened_then first rs) ≡ Ok feeds
        → ((later : List FeedValue) → opened_feeds plans given ≡ Ok later → AreUnder plans later) → AreUnder (plan ∷ plans) feeds
    by (Err reason) is rs are e rest = never reason feeds e
    by (Ok feed) is (Err reason) are e rest = never reason feeds e
    by (Ok feed) is (Ok later) are e rest =
        let behind = rest later are in
        subst (AreUnder (plan ∷ plans)) (same_ok (feed ∷ later) feeds e)
        (record { count = ap suc behind.count; plan_of = ap (λ (p : PlanValue). p ∷ map (λ (f : FeedValue). f.plan) later) (under-one plan o feed is) ∙ ap (λ (ps : List PlanValue). plan ∷ ps) behind.plan_of })

-- a workflow's plans, with the feeds under them
record IsOpen (workflow : List ℕ) (given : List (Option (List ℕ))) (found : OpenedValue) : Type 0 where
  says : plans_of workflow ≡ Ok found.plans
  given_count : length found.plans ≡ length given
  fed : AreUnder found.plans found.feeds

is_open : (workflow : List ℕ) (given : List (Option (List ℕ))) (found : OpenedValue) → opened_bytes workflow given ≡ Ok found → IsOpen workflow given found
is_open workflow given found e = by (plans_of workflow) refl e
  where
    as_many : (b : Bool) → not b ≡ false → b ≡ true
    as_many true e = refl
    as_many false e = sym e

    of_plans : (plans : List PlanValue) → plans_of workflow ≡ Ok plans → (b : Bool) → not (length plans == length given) ≡ b → (rs : Result (List FeedValue) Reason) → opened_feeds plans given ≡ rs
        → (refused_if b feed_count >>= λ _. rs >>= λ feeds. ok (record { plans = plans; feeds = feeds })) ≡ Ok found → IsOpen workflow given found
    of_plans plans said true is rs are e = never feed_count found e
    of_plans plans said false is (Err reason) are e = never reason found e
    of_plans plans said false is (Ok feeds) are e =
        let same : record { plans = plans; feeds = feeds } ≡ found = same_ok (record { plans = plans; feeds = feeds }) found e in
        let many : length plans ≡ length given = eqb-true (length plans) (length given) (as_many (length plans == length given) is) in
        subst (IsOpen workflow given) same (record { says = said; given_count = many; fed = under plans given feeds many are })

    by : (r : Result (List PlanValue) faults.Fault) → plans_of workflow ≡ r → (said_plans r >>= opened_with given) ≡ Ok found → IsOpen workflow given found
    by (Err fault) is e = never _ found e
    by (Ok plans) is e = of_plans plans is (not (length plans == length given)) refl (opened_feeds plans given) refl e

-- ---- the plans of a text

record AreOver (workflow : List ℕ) (plans : List PlanValue) : Type 0 where
  file : Data
  said : value_in workflow ≡ Some file
  same : HaveSameTables plans

over_one : (keyspace : List ℕ) (tables : List TableValue) (streams : List Decided) (plans : List PlanValue) → map (plan_over keyspace tables) streams ≡ plans → HaveSameTables plans
over_one keyspace tables streams plans are s t one other at_s at_t =
    let first = mapped_at (plan_over keyspace tables) streams s one (ap (λ (ps : List PlanValue). slice_get ps s) are ∙ at_s) in
    let second = mapped_at (plan_over keyspace tables) streams t other (ap (λ (ps : List PlanValue). slice_get ps t) are ∙ at_t) in
    sym (ap (λ (p : PlanValue). p.tables) first.2) ∙ ap (λ (p : PlanValue). p.tables) second.2

are_over : (workflow : List ℕ) (plans : List PlanValue) → plans_of workflow ≡ Ok plans → AreOver workflow plans
unfolding plans_of plans_of_document
are_over workflow plans is =
    steps.then_ok _ (json_of workflow) plans is (λ value value_is h2. steps.then_ok _ (document_of value) plans h2 (λ said said_is h3. steps.then_ok _ (known_vindexes said) plans h3 (λ known known_is h4.
    steps.then_ok _ (within_limits said) plans h4 (λ document document_is h5. steps.then_ok _ (each resolved document.tables) plans h5 (λ tables tables_are h6. steps.then_ok _ (decided_from tables 0 document.streams) plans h6 (λ streams streams_are h7.
    steps.then_ok _ (closed_from streams 0 tables) plans h7 (λ closed closed_are h8.
    record { file = value; said = ap result_ok value_is; same = over_one document.keyspace closed streams plans (steps.same_ok (map (plan_over document.keyspace closed) streams) plans h8) })))))))

-- ---- the report

-- what a report is of
record IsReportOf (inputs : CheckInputs) (report : ReportValue) : Type 0 where
  given : OpenedValue
  opens : opened inputs.feed_form inputs.workflow.items (bytes_of inputs.feeds.items) ≡ Ok given
  checks : List CheckedValue
  checked : checked_feeds (bytes_given inputs) given.feeds ≡ Ok checks
  is : said_of inputs.report_form inputs.workflow.items (names_of inputs) checks ≡ report

report_of : (inputs : CheckInputs) (report : ReportValue) → report_asked inputs ≡ Ok report → IsReportOf inputs report
report_of inputs report e = by (opened inputs.feed_form inputs.workflow.items (bytes_of inputs.feeds.items)) refl e
  where
    of_checks : (found : OpenedValue) → opened inputs.feed_form inputs.workflow.items (bytes_of inputs.feeds.items) ≡ Ok found → (r : Result (List CheckedValue) FeedFault) → checked_feeds (bytes_given inputs) found.feeds ≡ r
        → (said_checks r >>= λ checks. ok (said_of inputs.report_form inputs.workflow.items (names_of inputs) checks)) ≡ Ok report → IsReportOf inputs report
    of_checks found opens (Err fault) is e = never _ report e
    of_checks found opens (Ok checks) is e = record {
      given = found;
      opens = opens;
      checks = checks;
      checked = is;
      is = same_ok (said_of inputs.report_form inputs.workflow.items (names_of inputs) checks) report e;
    }

    by : (r : Result OpenedValue Reason) → opened inputs.feed_form inputs.workflow.items (bytes_of inputs.feeds.items) ≡ r
        → (r >>= report_with inputs.report_form (names_of inputs) inputs.workflow.items (map (feed_bytes inputs.feed_form) (bytes_of inputs.feeds.items))) ≡ Ok report → IsReportOf inputs report
    by (Err reason) is e = never reason report e
    by (Ok found) is e = of_checks found is (checked_feeds (bytes_given inputs) found.feeds) refl e

said-warned : (form : ReportForm) (workflow : List ℕ) (files : List (List ℕ)) (checks : List CheckedValue) → (said_of form workflow files checks).warned ≡ (has_some (all_warnings checks) || are_warned (notes_of workflow))
said-warned Lines workflow files checks = refl
said-warned Json workflow files checks = refl

said-noted : (form : ReportForm) (workflow : List ℕ) (files : List (List ℕ)) (checks : List CheckedValue) → (said_of form workflow files checks).noted ≡ (has_some (all_notes checks) || are_noted (notes_of workflow))
said-noted Lines workflow files checks = refl
said-noted Json workflow files checks = refl

or-none : (a : Bool) → (a || false) ≡ a
or-none true = refl
or-none false = refl

-- what a report's parts say
record IsOver (inputs : CheckInputs) (found : OpenedValue) : Type 0 where
  many : length (bytes_given inputs) ≡ length found.feeds
  file : Data
  said : value_in inputs.workflow.items ≡ Some file

is_over : (inputs : CheckInputs) (found : OpenedValue) → opened inputs.feed_form inputs.workflow.items (bytes_of inputs.feeds.items) ≡ Ok found → IsOver inputs found
is_over inputs found opens =
    let given : List (Option (List ℕ)) = map (feed_bytes inputs.feed_form) (bytes_of inputs.feeds.items) in
    let is : IsOpen inputs.workflow.items given found = is_open inputs.workflow.items given found opens in
    let over : AreOver inputs.workflow.items found.plans = are_over inputs.workflow.items found.plans is.says in
    record { many = length-map given bytes_or_none ∙ sym is.given_count ∙ sym is.fed.count; file = over.file; said = over.said }

module _ (faults : (checks : List CheckedValue) → WarnsUnlessFaultless checks (has_some (all_warnings checks))) (notes : (checks : List CheckedValue) → TellsUnlessClean checks (has_some (all_warnings checks)) (has_some (all_notes checks)))
    (inputs : CheckInputs) (report : ReportValue) (of : IsReportOf inputs report) where
  abbrev workflow : List ℕ
  workflow = inputs.workflow.items

  over : IsOver inputs of.given
  over = is_over inputs of.given of.opens

  abbrev any_fault : Bool
  any_fault = has_some (all_warnings of.checks)

  abbrev any_note : Bool
  any_note = has_some (all_notes of.checks)

  warned_is : report.warned ≡ (any_fault || are_warned (notes_of workflow))
  warned_is = sym (ap (λ (r : ReportValue). r.warned) of.is) ∙ said-warned inputs.report_form workflow (names_of inputs) of.checks

  noted_is : report.noted ≡ (any_note || are_noted (notes_of workflow))
  noted_is = sym (ap (λ (r : ReportValue). r.noted) of.is) ∙ said-noted inputs.report_form workflow (names_of inputs) of.checks

  feeds_faultless : (any_fault ≡ false) ↔ AreFaultlessFeeds (bytes_given inputs) of.given.feeds
  feeds_faultless = faults of.checks (bytes_given inputs) of.given.feeds over.many of.checked

  feeds_clean : ((any_fault || any_note) ≡ false) ↔ AreCleanFeeds (bytes_given inputs) of.given.feeds
  feeds_clean = notes of.checks (bytes_given inputs) of.given.feeds over.many of.checked

  report_faultless : (report.warned ≡ false) ↔ IsFaultless inputs
  report_faultless =
      let both = either any_fault (are_warned (notes_of workflow)) in
      let file = faults_none workflow over.file over.said in (
        λ e. let h = both.0 (sym warned_is ∙ e) in record { given = of.given; opens = of.opens; feeds = feeds_faultless.0 h.0; file = file.0 h.1 },
        λ good. let same : good.given ≡ of.given = same_ok good.given of.given (sym good.opens ∙ of.opens) in
            warned_is ∙ both.1 (feeds_faultless.1 (subst (λ (o : OpenedValue). AreFaultlessFeeds (bytes_given inputs) o.feeds) same good.feeds), file.1 good.file),
      )

  report_clean : ((report.warned ≡ false) × (report.noted ≡ false)) ↔ IsClean inputs
  report_clean =
      let warns = either any_fault (are_warned (notes_of workflow)) in
      let tells = either any_note (are_noted (notes_of workflow)) in
      let file = all_none workflow over.file over.said in (
        λ e. let h = warns.0 (sym warned_is ∙ e.0) in
            let k = tells.0 (sym noted_is ∙ e.1) in
            record { given = of.given; opens = of.opens; feeds = feeds_clean.0 ((either any_fault any_note).1 (h.0, k.0)); file = file.0 (h.1, k.1) },
        λ clean. let same : clean.given ≡ of.given = same_ok clean.given of.given (sym clean.opens ∙ of.opens) in
            let feeds = (either any_fault any_note).0 (feeds_clean.1 (subst (λ (o : OpenedValue). AreCleanFeeds (bytes_given inputs) o.feeds) same clean.feeds)) in
            let said = file.1 clean.file in
            (warned_is ∙ warns.1 (feeds.0, said.0), noted_is ∙ tells.1 (feeds.1, said.1)),
      )

  report_good : (strict : Bool) → (finds strict report ≡ false) ↔ IsGood strict inputs
  report_good false = (λ e. report_faultless.0 (sym (or-none report.warned) ∙ e), λ good. or-none report.warned ∙ report_faultless.1 good)
  report_good true = let both = either report.warned report.noted in (λ e. report_clean.0 (both.0 e), λ clean. both.1 (report_clean.1 clean))

module _ (faults : (checks : List CheckedValue) → WarnsUnlessFaultless checks (has_some (all_warnings checks))) (notes : (checks : List CheckedValue) → TellsUnlessClean checks (has_some (all_warnings checks)) (has_some (all_notes checks))) where
  -- the verdict
  good_as : (found : Bool) (inputs : CheckInputs) → IsFound inputs.strict found (report_asked inputs) → (found ≡ false) ↔ IsGood inputs.strict inputs
  good_as found inputs is = by (report_asked inputs) refl is
    where
      by : (r : Result ReportValue Reason) → report_asked inputs ≡ r → IsFound inputs.strict found r → (found ≡ false) ↔ IsGood inputs.strict inputs
      by (Err reason) e is = absurd is
      by (Ok report) e is = let law_of = report_good faults notes inputs report (report_of inputs report e) inputs.strict in (λ f. law_of.0 (is ∙ f), λ good. sym is ∙ law_of.1 good)

  -- by the status
  pub status-none : (inputs : CheckInputs) (status : ℕ) → status ≡ 0 → IsFound inputs.strict false (report_asked inputs) → (status ≡ 0) ↔ IsGood inputs.strict inputs
  status-none inputs status zero_is is = (λ _. (good_as false inputs is).0 refl, λ _. zero_is)

  pub status-some : (inputs : CheckInputs) (status : ℕ) → status ≡ 3 → IsFound inputs.strict true (report_asked inputs) → (status ≡ 0) ↔ IsGood inputs.strict inputs
  status-some inputs status three is = (λ e. absurd (omega (arith, three, e)), λ good. absurd (true≢false ((good_as true inputs is).1 good)))

-- ---- a run

module _ (found : OpenedValue) (bytes : List (List ℕ)) (count : length found.feeds ≡ length found.plans) (fed : AreFed found.plans found.feeds)
    (each_sound : (s : ℕ) (feed : FeedValue) → slice_get found.feeds s ≡ Some feed → length (sound_groups feed) ≡ length feed.groups)
    (good : AreFaultlessFeeds bytes found.feeds) where
  not_refused : (refusal : RunRefusal) → IsRefusedRun found.plans found.feeds refusal → refusal ≡ runs.Memory
  not_refused runs.FeedCount h = absurd (h count)
  not_refused runs.WrongPlan h = absurd (h.1 fed)
  not_refused (runs.Unsound stream fault) h =
      let bad = h.1 in
      let sound : length (sound_groups bad.feed) ≡ length bad.feed.groups = each_sound stream bad.feed bad.fed in
      absurd (past bad.feed.groups (length (sound_groups bad.feed)) bad.first.group sound bad.first.place)
    where
      past : {A : Type 0} (xs : List A) (i : ℕ) (x : A) → i ≡ length xs → slice_get xs i ≡ Some x → ⊥
      past [] i x e at = none-some x at
      past (y ∷ ys) zero x e at = absurd (omega (arith, e))
      past (y ∷ ys) (suc i) x e at = past ys i x (omega (arith, e)) at
  not_refused (runs.OwnedByOther stream key owner) h =
      let one = h.1.1 in
      let other = h.1.2 in
      absurd (h.1.0 (good.apart owner stream other.feed one.feed key other.fed one.fed other.touched one.touched))
  not_refused runs.Memory h = refl

-- each feed of those given has its bytes
bytes_at : (bytes : List (List ℕ)) (feeds : List FeedValue) (s : ℕ) (feed : FeedValue) → length bytes ≡ length feeds → slice_get feeds s ≡ Some feed → (one : List ℕ) × (slice_get bytes s ≡ Some one)
bytes_at [] [] s feed many at = absurd (none-some feed at)
bytes_at [] (f ∷ feeds) s feed many at = absurd (omega (arith, many))
bytes_at (b ∷ bytes) [] s feed many at = absurd (omega (arith, many))
bytes_at (b ∷ bytes) (f ∷ feeds) zero feed many at = (b, refl)
bytes_at (b ∷ bytes) (f ∷ feeds) (suc s) feed many at = bytes_at bytes feeds s feed (omega (arith, many)) at

-- a run of the same inputs opens the same
same_opened : (checked : CheckInputs) (run : RunInputs) (found : OpenedValue) → AreSameInputs checked run → opened checked.feed_form checked.workflow.items (bytes_of checked.feeds.items) ≡ Ok found
    → opened_asked run ≡ Ok found
same_opened checked run found same opens =
    ap (λ (until : List Until). opened_until (map until_value until) (opened run.feed_form run.workflow.items (bytes_of run.feeds.items))) same.whole
    ∙ opened_whole (opened run.feed_form run.workflow.items (bytes_of run.feeds.items))
    ∙ ap (λ form. opened form run.workflow.items (bytes_of run.feeds.items)) same.form
    ∙ ap (λ workflow. opened checked.feed_form workflow (bytes_of run.feeds.items)) same.workflow
    ∙ ap (opened checked.feed_form checked.workflow.items) same.feeds
    ∙ opens

pub not_refused_runs : FaultlessRunsAreNotRefused
not_refused_runs checked run good same =
    let given : List (Option (List ℕ)) = map (feed_bytes checked.feed_form) (bytes_of checked.feeds.items) in
    let is : IsOpen checked.workflow.items given good.given = is_open checked.workflow.items given good.given good.opens in
    let many : length (bytes_given checked) ≡ length good.given.feeds = length-map given bytes_or_none ∙ sym is.given_count ∙ sym is.fed.count in
    let over : AreOver checked.workflow.items good.given.plans = are_over checked.workflow.items good.given.plans is.says in (
      good.given,
      same_opened checked run good.given same good.opens,
      λ refusal refused. ap number_of_run (not_refused good.given (bytes_given checked) is.fed.count (record { tables = over.same; opened = is.fed.plan_of })
          (λ s feed at. let one = bytes_at (bytes_given checked) good.given.feeds s feed many at in (good.feeds.each s one.0 feed one.1 at).sound)
          good.feeds refusal refused),
    )

-- ---- what is clean

clean_file : (workflow : List ℕ) → HasFile IsCleanFile workflow → HasFile IsFaultlessFile workflow
clean_file workflow has = record { file = has.file; said = has.said; is = has.is.faultless }

pub clean_faultless : CleanIsFaultless
clean_faultless inputs clean = record {
  given = clean.given;
  opens = clean.opens;
  feeds = record { each = λ s one feed at_b at_f. (clean.feeds.each s one feed at_b at_f).faultless; apart = clean.feeds.apart };
  file = clean_file inputs.workflow.items clean.file;
}
