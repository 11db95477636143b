-- What is true of all plans of a text.
use Rattle.std.proofs.Common.{◌≡◌, ℕ, ◌+◌, List, [], ◌∷◌, length, map, true, Some, option_map, Result, Ok, Err, refl, sym, ap, subst, ◌∙◌, arith}
use Rattle.std.specs.Prelude.{slice_get, slice_index_or, IfOk}
use Rattle.std.proofs.lemmas.List.{length-map}
use Rattle.std.proofs.lemmas.Option.{slice_get-map}
use Rattle.filter_rule.specs.Document.{StreamSaid, TableSaid, DocumentSaid, document_of}
use Rattle.list_laws.specs.Outcome.{◌>>=◌, each}
use Rattle.filter_rule.specs.Faults.{GivesOrFails}
use Rattle.filter_rule.specs.FirstRule.{document_in}
use Rattle.filter_rule.specs.Limits.{is_within, known_vindexes, within_limits}
use Rattle.filter_rule.specs.PlanTable.{TableValue}
use Rattle.filter_rule.specs.PlanValue.{PlanValue}
use Rattle.filter_rule.specs.Reading.{Decided, decided_from, closed_from, plan_over, json_of, plans_of_document, plans_of}
use Rattle.filter_rule.specs.Resolving.{all_places, resolved}
use Rattle.filter_rule.specs.Streams.{with_all, AreOfStreams, FollowStreams}
use Rattle.filter_rule.specs.WellFormed.{AreDistinct, IsPlan, KeepUnmatched, ArePlans}
use Rattle.filter_rule.specs.declared.fault.PlanFault.{PlanFault}
use Rattle.filter_rule.specs.declared.decision.Decision.TheVariants.{NoRule}
use Rattle.filter_rule.proofs.DecidedLaws.{decided_shards}
use Rattle.filter_rule.proofs.FollowLaws.{mapped_at}
use Rattle.filter_rule.proofs.KeepingLaws.{Agreement, closed_at, closed_map, unmatched_kept}
use Rattle.filter_rule.proofs.PlanLaws.{over_plans}
use Rattle.filter_rule.proofs.ReadLaws.{Plans, values}
use Rattle.filter_rule.proofs.StepLaws.{then_ok, same_ok, each_at}
use Rattle.filter_rule.proofs.TableLaws.{HasNames, limits_kept, document_names, few_streams, resolved_parts}

-- what a text says that has plans
pub record Whole (text : List ℕ) (plans : List PlanValue) : Type 0 where
  pub document : DocumentSaid
  pub says : document_in text ≡ Ok document
  pub names : HasNames document
  pub within : is_within document ≡ true
  pub known : document.uses_no_other ≡ true
  pub tables : List TableValue
  pub tables_are : each resolved document.tables ≡ Ok tables
  pub streams : List Decided
  pub streams_are : decided_from tables 0 document.streams ≡ Ok streams
  pub closed : List TableValue
  pub closed_are : closed_from streams 0 tables ≡ Ok closed
  pub plans_are : map (plan_over document.keyspace closed) streams ≡ plans

pub whole_at : (text : List ℕ) (plans : List PlanValue) → plans_of text ≡ Ok plans → Whole text plans
unfolding plans_of plans_of_document
whole_at text plans is =
    then_ok _ (json_of text) plans is (λ value value_is h2. then_ok _ (document_of value) plans h2 (λ said said_is h2k. then_ok _ (known_vindexes said) plans h2k (λ known known_is h3. then_ok _ (within_limits said) plans h3 (λ document document_is h4.
    then_ok _ (each resolved document.tables) plans h4 (λ tables tables_are h5. then_ok _ (decided_from tables 0 document.streams) plans h5 (λ streams streams_are h6.
    then_ok _ (closed_from streams 0 tables) plans h6 (λ closed closed_are h7.
    let kept = limits_kept (is_within said) said document document_is in
    record {
      document = document;
      says = ap (λ r. r >>= document_of) value_is ∙ said_is ∙ ap Ok kept.1;
      names = subst HasNames kept.1 (document_names value said said_is);
      within = subst (λ d. is_within d ≡ true) kept.1 kept.0;
      known = ap (λ (d : DocumentSaid). d.uses_no_other) (sym kept.1) ∙ (limits_kept said.uses_no_other said known known_is).0;
      tables = tables;
      tables_are = tables_are;
      streams = streams;
      streams_are = streams_are;
      closed = closed;
      closed_are = closed_are;
      plans_are = same_ok (map (plan_over document.keyspace closed) streams) plans h7;
    })))))))

-- a plan of the text, and the stream that it is of
plan_there : (text : List ℕ) (plans : List PlanValue) (whole : Whole text plans) (i : ℕ) (plan : PlanValue) → slice_get plans i ≡ Some plan
    → (stream : Decided) × (slice_get whole.streams i ≡ Some stream) × (plan_over whole.document.keyspace whole.closed stream ≡ plan)
plan_there text plans whole i plan is = mapped_at (plan_over whole.document.keyspace whole.closed) whole.streams i plan (ap (λ xs. slice_get xs i) whole.plans_are ∙ is)

over_shards : (keyspace : List ℕ) (closed : List TableValue) (streams : List Decided) → map (λ (p : PlanValue). p.shard) (map (plan_over keyspace closed) streams) ≡ map (λ (s : Decided). s.shard) streams
over_shards keyspace closed [] = refl
over_shards keyspace closed (s ∷ ss) = ap (λ shards. s.shard ∷ shards) (over_shards keyspace closed ss)

shards_are : (text : List ℕ) (plans : List PlanValue) (whole : Whole text plans) → map (λ (p : PlanValue). p.shard) plans ≡ map (λ (s : StreamSaid). s.shard) whole.document.streams
shards_are text plans whole =
    ap (map (λ (p : PlanValue). p.shard)) (sym whole.plans_are) ∙ over_shards whole.document.keyspace whole.closed whole.streams
    ∙ decided_shards whole.tables 0 whole.document.streams whole.streams whole.streams_are

keeps_all : (said : TableSaid) (t : TableValue) → resolved said ≡ Ok t → t.kept ≡ all_places t.columns
keeps_all said t is = ap (λ (x : TableValue). x.kept) (sym (resolved_parts said t is).whole)

unmatched : (text : List ℕ) (plans : List PlanValue) → Whole text plans → KeepUnmatched plans
unmatched text plans whole t i plan table plan_is table_is no_rule =
    let one = plan_there text plans whole i plan plan_is in
    let there : slice_get whole.closed t ≡ Some table = ap (λ (p : PlanValue). slice_get p.tables t) one.2 ∙ table_is in
    let at = closed_at whole.streams 0 whole.tables whole.closed whole.closed_are t table there in
    let from = each_at resolved whole.document.tables whole.tables whole.tables_are t at.table at.stands in
    let zero_at : 0 + t ≡ t = omega arith in
    let none : (j : ℕ) (stream : Decided) → slice_get whole.streams j ≡ Some stream → slice_index_or stream.decisions t NoRule ≡ NoRule =
    λ j stream is. no_rule j (plan_over whole.document.keyspace whole.closed stream)
    (ap (λ xs. slice_get xs j) (sym whole.plans_are) ∙ slice_get-map (plan_over whole.document.keyspace whole.closed) whole.streams j ∙ ap (option_map (plan_over whole.document.keyspace whole.closed)) is) in
    let kept : at.kept ≡ at.table.kept = unmatched_kept whole.streams t at.table at.kept (subst (λ n. Agreement whole.streams n at.table at.kept) zero_at at.agrees) none in
    subst (λ (x : TableValue). x.kept ≡ all_places x.columns) at.is (kept ∙ keeps_all from.item at.table from.gives)

made_plans : (text : List ℕ) (plans : List PlanValue) → Whole text plans → ArePlans plans
made_plans text plans whole =
    let streams = whole.document.streams in
    let few = few_streams whole.document whole.within in
    let shards = shards_are text plans whole in
    let over = over_plans whole.document whole.tables whole.closed whole.streams whole.names whole.within whole.tables_are whole.streams_are whole.closed_are in
    let count : length plans ≡ length streams = sym (length-map plans (λ (p : PlanValue). p.shard)) ∙ ap length shards ∙ length-map streams (λ (s : StreamSaid). s.shard) in
    record {
      count = (omega arith, omega arith);
      shards = subst AreDistinct (sym shards) whole.names.shards;
      each_plan = λ i plan is. let one = plan_there text plans whole i plan is in subst IsPlan one.2 (over i one.0 one.1);
      same = λ i j plan other plan_is other_is.
          let one = plan_there text plans whole i plan plan_is in
          let another = plan_there text plans whole j other other_is in
          (sym (ap (λ (p : PlanValue). p.keyspace) one.2) ∙ ap (λ (p : PlanValue). p.keyspace) another.2, sym (ap (λ (p : PlanValue). p.tables) one.2) ∙ ap (λ (p : PlanValue). p.tables) another.2);
      unmatched = unmatched text plans whole;
    }

all_whole : (said : List TableSaid) (tables : List TableValue) → each resolved said ≡ Ok tables → map with_all tables ≡ tables
all_whole [] tables h = ap (map with_all) (sym (same_ok [] tables h)) ∙ same_ok [] tables h
all_whole (s ∷ said) tables h =
    then_ok _ (resolved s) tables h (λ t t_is h2. then_ok _ (each resolved said) tables h2 (λ ts ts_is h3.
    ap (map with_all) (sym (same_ok (t ∷ ts) tables h3)) ∙ ap (λ x. x ∷ map with_all ts) (resolved_parts s t t_is).whole ∙ ap (λ xs. t ∷ xs) (all_whole said ts ts_is) ∙ same_ok (t ∷ ts) tables h3))

made_streams : (text : List ℕ) (plans : List PlanValue) → Whole text plans → FollowStreams text plans
made_streams text plans whole document says =
    let same : whole.document ≡ document = same_ok whole.document document (sym whole.says ∙ says) in
    let back : map with_all whole.closed ≡ whole.tables =
    closed_map with_all (λ table kept. refl) whole.streams 0 whole.tables whole.closed whole.closed_are ∙ all_whole whole.document.tables whole.tables whole.tables_are in
    subst (λ d. AreOfStreams d plans) same (record {
      shards = shards_are text plans whole;
      shared = λ i plan is.
          let one = plan_there text plans whole i plan is in
          (sym (ap (λ (p : PlanValue). p.keyspace) one.2), whole.tables_are ∙ ap Ok (sym back ∙ ap (λ (p : PlanValue). map with_all p.tables) one.2));
    })

pub are_plans : (text : List ℕ) (r : Result Plans PlanFault) → GivesOrFails values r (plans_of text) → IfOk r (λ v. ArePlans (values v))
are_plans text (Ok v) h = made_plans text (values v) (whole_at text (values v) h)
are_plans text (Err e) h = tt

pub are_of_streams : (text : List ℕ) (r : Result Plans PlanFault) → GivesOrFails values r (plans_of text) → IfOk r (λ v. FollowStreams text (values v))
are_of_streams text (Ok v) h = made_streams text (values v) (whole_at text (values v) h)
are_of_streams text (Err e) h = tt
