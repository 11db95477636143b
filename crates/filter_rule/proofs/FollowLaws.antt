-- Each stream's plan has the decisions of the first rules that match.
use Rattle.std.proofs.Common.{◌≡◌, ℕ, ◌+◌, List, map, Bool, true, false, cond, Option, Some, None, Ok, Err, refl, sym, ap, subst, ◌∙◌, zero-add}
use Rattle.std.specs.Prelude.{slice_get, MatchOption}
use Rattle.std.proofs.lemmas.Option.{slice_get-map, same_Some}
use Rattle.list_laws.proofs.Choices.{mapped}
use Rattle.vindex.specs.Bounds.{Bounds}
use Rattle.vindex.specs.declared.vindexes.Vindex.{Vindex}
use Rattle.list_laws.specs.Outcome.{◌>>=◌, each}
use Rattle.filter_text.specs.FilterText.{RowsSaid, every_row, in_own_range, in_range_of}
use Rattle.filter_rule.specs.Document.{RuleSaid, StreamSaid, DocumentSaid, document_of}
use Rattle.filter_rule.specs.Faults.{limit}
use Rattle.filter_rule.specs.FirstRule.{first_match, Decides, IsByFirst, AreByFirst, FollowFirstRules}
use Rattle.filter_rule.specs.Limits.{is_within, known_vindexes, within_limits}
use Rattle.filter_rule.specs.PlanTable.{TableValue, keeping}
use Rattle.filter_rule.specs.PlanValue.{PlanValue}
use Rattle.filter_rule.specs.Reading.{Decided, decided_from, closed_from, plan_over, json_of, plans_of_document, plans_of}
use Rattle.filter_rule.specs.Resolving.{place_in, vindex_type, resolved}
use Rattle.filter_rule.specs.Rules.{kept_by, own_decision, decide}
use Rattle.filter_rule.specs.declared.decision.Decision.{Decision}
use Rattle.filter_rule.specs.declared.decision.Decision.TheVariants.{NoRule, EveryRow, InRange}
use Rattle.filter_rule.proofs.DecidedLaws.{decided_at}
use Rattle.filter_rule.proofs.KeepingLaws.{closed_at}
use Rattle.filter_rule.proofs.StepLaws.{then_ok, same_ok, read_as}

-- ---- a rule decides the same of a table whatever is kept of it

kept_whatever : (s n : ℕ) (columns : Option (List (List ℕ))) (t : TableValue) (kept : List ℕ) → kept_by s n columns (keeping t kept) ≡ kept_by s n columns t
kept_whatever s n None t kept = refl
kept_whatever s n (Some names) t kept = refl

own_whatever : (s n : ℕ) (columns : Option (List (List ℕ))) (t : TableValue) (kept : List ℕ) (range : Bounds) (v : Option (ℕ × Vindex)) → own_decision s n columns (keeping t kept) range v ≡ own_decision s n columns t range v
own_whatever s n columns t kept range None = refl
own_whatever s n columns t kept range (Some v) = ap (λ r. r >>= λ k. Ok (InRange v.0 v.1 range k)) (kept_whatever s n columns t kept)

decide_whatever : (s n : ℕ) (columns : Option (List (List ℕ))) (rows : RowsSaid) (t : TableValue) (kept : List ℕ) → decide s n columns rows (keeping t kept) ≡ decide s n columns rows t
decide_whatever s n columns every_row t kept = ap (λ r. r >>= λ k. Ok (EveryRow k)) (kept_whatever s n columns t kept)
decide_whatever s n columns (in_own_range range) t kept = own_whatever s n columns t kept range t.vindex
decide_whatever s n columns (in_range_of column vindex range) t kept =
    ap (λ r. r >>= λ k. place_in t.name t.columns column >>= λ place. vindex_type t.name t.columns column vindex >>= λ _. Ok (InRange place vindex range k)) (kept_whatever s n columns t kept)

first_whatever : (s : ℕ) (o : Option (ℕ × RuleSaid)) (t : TableValue) (kept : List ℕ) (d : Decision) → MatchOption o (d ≡ NoRule) (λ p. Decides s p.0 p.1 t d) → MatchOption o (d ≡ NoRule) (λ p. Decides s p.0 p.1 (keeping t kept) d)
first_whatever s None t kept d h = h
first_whatever s (Some p) t kept d h = record { form = h.form; formed = h.formed; decided = decide_whatever s p.0 h.form.columns h.form.rows t kept ∙ h.decided }

pub by_first_closed : (s : ℕ) (rs : List RuleSaid) (streams : List Decided) (tables closed : List TableValue) (ds : List Decision) → closed_from streams 0 tables ≡ Ok closed → AreByFirst s tables rs ds → AreByFirst s closed rs ds
by_first_closed s rs streams tables closed ds h first i t d t_is d_is =
    let at = closed_at streams 0 tables closed h i t t_is in
    subst (λ (x : TableValue). IsByFirst s 0 rs x d) at.is (first_whatever s (first_match 0 rs at.table.name) at.table at.kept d (first i at.table d at.stands d_is))

-- ---- all streams

-- what a mapped list has at a place
pub mapped_at : {A B : Type 0} (f : A → B) (xs : List A) (i : ℕ) (y : B) → slice_get (map f xs) i ≡ Some y → (x : A) × (slice_get xs i ≡ Some x) × (f x ≡ y)
mapped_at f xs i y h = mapped f (slice_get xs i) y (sym (slice_get-map f xs i) ∙ h)

limits_keep : (b : Bool) (d e : DocumentSaid) → cond b (read_as d) (Err limit) ≡ Ok e → d ≡ e
limits_keep true d e h = same_ok d e h
limits_keep false d e h = cc

pub follows_first : (text : List ℕ) (plans : List PlanValue) → plans_of text ≡ Ok plans → FollowFirstRules text plans
unfolding plans_of plans_of_document
follows_first text plans is d d_is i s p s_is p_is =
    then_ok _ (json_of text) plans is (λ value value_is h2. then_ok _ (document_of value) plans h2 (λ e e_is h2k. then_ok _ (known_vindexes e) plans h2k (λ known known_is h3. then_ok _ (within_limits e) plans h3 (λ within within_is h4.
    then_ok _ (each resolved within.tables) plans h4 (λ tables tables_is h5. then_ok _ (decided_from tables 0 within.streams) plans h5 (λ decided decided_is h6.
    then_ok _ (closed_from decided 0 tables) plans h6 (λ closed closed_is h7.
    let same : e ≡ d = same_ok e d (sym e_is ∙ ap (λ r. r >>= document_of) (sym value_is) ∙ d_is) in
    let kept : e ≡ within = limits_keep (is_within e) e within within_is in
    let here : slice_get within.streams i ≡ Some s = ap (λ (x : DocumentSaid). slice_get x.streams i) (sym kept ∙ same) ∙ s_is in
    let one = mapped_at (plan_over within.keyspace closed) decided i p (ap (λ xs. slice_get xs i) (same_ok (map (plan_over within.keyspace closed) decided) plans h7) ∙ p_is) in
    let at = decided_at tables 0 within.streams decided decided_is i one.0 one.1 in
    let stream : at.stream ≡ s = same_Some at.stream s (sym at.stands ∙ here) in
    subst (λ (q : PlanValue). AreByFirst i q.tables s.rules q.decisions) one.2
    (subst (λ (x : StreamSaid). AreByFirst i closed x.rules one.0.decisions) stream
    (subst (λ n. AreByFirst n closed at.stream.rules one.0.decisions) (zero-add i) (by_first_closed (0 + i) at.stream.rules decided tables closed one.0.decisions closed_is at.is.first))))))))))
