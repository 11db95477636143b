-- Taking the rules one after another gives each table the decision of the first rule that matches it.
use Rattle.std.proofs.Common.{◌≡◌, ℕ, zero, suc, ◌+◌, List, [], ◌∷◌, Bool, true, false, cond, Option, Some, None, Ok, refl, sym, ap, subst, ◌∙◌, codes}
use Rattle.std.specs.Prelude.{◌||◌}
use Rattle.std.specs.Str.{bytes_eq}
use Rattle.std.proofs.lemmas.Option.{same_Some}
use Rattle.vindex.specs.Bounds.{Bounds}
use Rattle.vindex.specs.declared.vindexes.Vindex.{Vindex}
use Rattle.filter_rule.specs.Document.{RuleSaid}
use Rattle.filter_text.specs.FilterText.{RowsSaid, every_row, in_own_range, in_range_of, filter_of}
use Rattle.filter_text.specs.RuleScope.{TablesSaid, every_table, one_table, begins_with_slash, scope_of, is_for}
use Rattle.filter_rule.specs.FirstRule.{is_match, Decides, IsByFirst, AreByFirst}
use Rattle.filter_rule.specs.PlanTable.{TableValue}
use Rattle.filter_rule.specs.Reading.{rule_over, decide_in_turn, undecided, decisions_of}
use Rattle.filter_rule.specs.Resolving.{place_in, vindex_type}
use Rattle.filter_rule.specs.Rules.{RuleForm, form_of, or_bad, agreeing, kept_by, own_decision, decide, decide_once, decide_each}
use Rattle.filter_rule.specs.declared.decision.Decision.{Decision}
use Rattle.filter_rule.specs.declared.decision.Decision.TheVariants.{NoRule, EveryRow, InRange}
use Rattle.filter_rule.proofs.StepLaws.{then_ok, same_ok, read_as}

-- ---- a rule's form is for the tables that the rule matches

scope_match : (b c : Bool) (matches table : List ℕ) (scope : TablesSaid) → bytes_eq matches (codes "/.*") ≡ b → begins_with_slash matches ≡ c
    → cond b (Some every_table) (cond c None (Some (one_table matches))) ≡ Some scope → is_for scope table ≡ (b || bytes_eq table matches)
scope_match true c matches table scope e f is = let same : every_table ≡ scope = cc in ap (λ s. is_for s table) (sym same)
scope_match false true matches table scope e f is = cc
scope_match false false matches table scope e f is = let same : one_table matches ≡ scope = cc in ap (λ s. is_for s table) (sym same)

pub found_ok : {A : Type 0} (s n : ℕ) (o : Option A) (x : A) → or_bad s n o ≡ Ok x → o ≡ Some x
found_ok s n None x e = cc
found_ok s n (Some y) x e = cc

pub form_match : (s n : ℕ) (r : RuleSaid) (form : RuleForm) (table : List ℕ) → form_of s n r ≡ Ok form → is_for form.scope table ≡ is_match r table
unfolding form_of
form_match s n r form table is =
    then_ok _ (or_bad s n (scope_of r.matches)) form is (λ scope scope_is h2.
    then_ok _ (or_bad s n (filter_of r.filter)) form h2 (λ filter filter_is h3.
    then_ok _ (agreeing s n r.uses_hash scope filter) form h3 (λ a a_is h4.
    ap (λ (f : RuleForm). is_for f.scope table) (sym (same_ok (record { scope = scope; columns = filter.columns; rows = filter.rows }) form h4))
    ∙ scope_match (bytes_eq r.matches (codes "/.*")) (begins_with_slash r.matches) r.matches table scope refl refl (found_ok s n (scope_of r.matches) scope scope_is))))

no_every : (kept : List ℕ) → EveryRow kept ≡ NoRule → ⊥
no_every kept e = cc

no_range : (place : ℕ) (vindex : Vindex) (range : Bounds) (kept : List ℕ) → InRange place vindex range kept ≡ NoRule → ⊥
no_range place vindex range kept e = cc

-- ---- a rule that is for a table decides it

own_decides : (s n : ℕ) (columns : Option (List (List ℕ))) (t : TableValue) (range : Bounds) (v : Option (ℕ × Vindex)) → own_decision s n columns t range v ≡ Ok NoRule → ⊥
own_decides s n columns t range None h = cc
own_decides s n columns t range (Some v) h =
    then_ok _ (kept_by s n columns t) NoRule h (λ kept kept_is h2. no_range v.0 v.1 range kept (same_ok (InRange v.0 v.1 range kept) NoRule h2))

pub decide_decides : (s n : ℕ) (columns : Option (List (List ℕ))) (rows : RowsSaid) (t : TableValue) → decide s n columns rows t ≡ Ok NoRule → ⊥
decide_decides s n columns every_row t h = then_ok _ (kept_by s n columns t) NoRule h (λ kept kept_is h2. no_every kept (same_ok (EveryRow kept) NoRule h2))
decide_decides s n columns (in_own_range range) t h = own_decides s n columns t range t.vindex h
decide_decides s n columns (in_range_of column vindex range) t h =
    then_ok _ (kept_by s n columns t) NoRule h (λ kept kept_is h2. then_ok _ (place_in t.name t.columns column) NoRule h2 (λ place place_is h3.
    then_ok _ (vindex_type t.name t.columns column vindex) NoRule h3 (λ a a_is h4. no_range place vindex range kept (same_ok (InRange place vindex range kept) NoRule h4))))

-- ---- one table

-- what the rules from n on leave of a table's decision
abbrev After : ℕ → ℕ → List RuleSaid → TableValue → Decision → Decision → Type 0
After s n rs t NoRule e = IsByFirst s n rs t e
After s n rs t (EveryRow kept) e = e ≡ EveryRow kept
After s n rs t (InRange place vindex range kept) e = e ≡ InRange place vindex range kept

at_end : (s n : ℕ) (t : TableValue) (d : Decision) → After s n [] t d d
at_end s n t NoRule = refl
at_end s n t (EveryRow kept) = refl
at_end s n t (InRange place vindex range kept) = refl

-- a decision that a rule made stays
made : (s n m : ℕ) (rs : List RuleSaid) (r : RuleSaid) (form : RuleForm) (t : TableValue) (d e : Decision) → form_of s n r ≡ Ok form → decide s n form.columns form.rows t ≡ Ok d → After s m rs t d e → Decides s n r t e
made s n m rs r form t NoRule e formed is after = absurd (decide_decides s n form.columns form.rows t is)
made s n m rs r form t (EveryRow kept) e formed is after = record { form = form; formed = formed; decided = is ∙ ap read_as (sym after) }
made s n m rs r form t (InRange place vindex range kept) e formed is after = record { form = form; formed = formed; decided = is ∙ ap read_as (sym after) }

by_rule : (b : Bool) (s n : ℕ) (rs : List RuleSaid) (r : RuleSaid) (form : RuleForm) (t : TableValue) (m e : Decision) → is_match r t.name ≡ b → form_of s n r ≡ Ok form
    → cond b (decide s n form.columns form.rows t) (Ok NoRule) ≡ Ok m → After s (n + 1) rs t m e → IsByFirst s n (r ∷ rs) t e
by_rule true s n rs r form t m e match formed is after = rw match (made s n (n + 1) rs r form t m e formed is after)
by_rule false s n rs r form t m e match formed is after =
    let none : m ≡ NoRule = sym (same_ok NoRule m is) in
    rw match (subst (λ x. After s (n + 1) rs t x e) none after)

one_step : (s n : ℕ) (rs : List RuleSaid) (r : RuleSaid) (form : RuleForm) (t : TableValue) (d m e : Decision) → form_of s n r ≡ Ok form → decide_once s n form t d ≡ Ok m → After s (n + 1) rs t m e → After s n (r ∷ rs) t d e
one_step s n rs r form t NoRule m e formed is after =
    by_rule (is_match r t.name) s n rs r form t m e refl formed (ap (λ b. cond b (decide s n form.columns form.rows t) (Ok NoRule)) (sym (form_match s n r form t.name formed)) ∙ is) after
one_step s n rs r form t (EveryRow kept) m e formed is after = subst (λ x. After s (n + 1) rs t x e) (sym (same_ok (EveryRow kept) m is)) after
one_step s n rs r form t (InRange place vindex range kept) m e formed is after = subst (λ x. After s (n + 1) rs t x e) (sym (same_ok (InRange place vindex range kept) m is)) after

-- ---- all tables

abbrev AllAfter : ℕ → ℕ → List RuleSaid → List TableValue → List Decision → List Decision → Type 0
AllAfter s n rs [] ds es = Unit {0}
AllAfter s n rs (t ∷ ts) [] es = Unit {0}
AllAfter s n rs (t ∷ ts) (d ∷ ds) [] = ⊥
AllAfter s n rs (t ∷ ts) (d ∷ ds) (e ∷ es) = After s n rs t d e × AllAfter s n rs ts ds es

all_end : (s n : ℕ) (ts : List TableValue) (ds : List Decision) → AllAfter s n [] ts ds ds
all_end s n [] ds = tt
all_end s n (t ∷ ts) [] = tt
all_end s n (t ∷ ts) (d ∷ ds) = (at_end s n t d, all_end s n ts ds)

step_parts : (s n : ℕ) (rs : List RuleSaid) (r : RuleSaid) (form : RuleForm) (t : TableValue) (ts : List TableValue) (d : Decision) (ds : List Decision) (m : Decision) (ms es : List Decision)
    → form_of s n r ≡ Ok form → decide_once s n form t d ≡ Ok m → decide_each s n form ts ds ≡ Ok ms → AllAfter s (n + 1) rs (t ∷ ts) (m ∷ ms) es
    → ((rest : List Decision) → form_of s n r ≡ Ok form → decide_each s n form ts ds ≡ Ok ms → AllAfter s (n + 1) rs ts ms rest → AllAfter s n (r ∷ rs) ts ds rest)
    → AllAfter s n (r ∷ rs) (t ∷ ts) (d ∷ ds) es
step_parts s n rs r form t ts d ds m ms [] formed one rest after more = absurd after
step_parts s n rs r form t ts d ds m ms (e ∷ es) formed one rest after more = (one_step s n rs r form t d m e formed one after.0, more es formed rest after.1)

all_step : (s n : ℕ) (rs : List RuleSaid) (r : RuleSaid) (form : RuleForm) (ts : List TableValue) (ds ms es : List Decision) → form_of s n r ≡ Ok form → decide_each s n form ts ds ≡ Ok ms
    → AllAfter s (n + 1) rs ts ms es → AllAfter s n (r ∷ rs) ts ds es
unfolding decide_each
all_step s n rs r form [] ds ms es formed is after = tt
all_step s n rs r form (t ∷ ts) [] ms es formed is after = tt
all_step s n rs r form (t ∷ ts) (d ∷ ds) ms es formed is after =
    then_ok _ (decide_once s n form t d) ms is (λ m m_is h2. then_ok _ (decide_each s n form ts ds) ms h2 (λ rest rest_is h3.
    step_parts s n rs r form t ts d ds m rest es formed m_is rest_is (subst (λ x. AllAfter s (n + 1) rs (t ∷ ts) x es) (sym (same_ok (m ∷ rest) ms h3)) after) (all_step s n rs r form ts ds rest)))

all_after : (s : ℕ) (ts : List TableValue) (n : ℕ) (rs : List RuleSaid) (ds es : List Decision) → decide_in_turn s ts n rs ds ≡ Ok es → AllAfter s n rs ts ds es
unfolding decide_in_turn
all_after s ts n [] ds es is = subst (AllAfter s n [] ts ds) (same_ok ds es is) (all_end s n ts ds)
all_after s ts n (r ∷ rs) ds es is =
    then_ok _ (rule_over s n ts r ds) es is (λ decided decided_is h2. then_ok _ (form_of s n r) decided decided_is (λ form form_is h3.
    all_step s n rs r form ts ds decided es form_is h3 (all_after s ts (n + 1) rs decided es h2)))

each_first : (s : ℕ) (rs : List RuleSaid) (ts : List TableValue) (ds : List Decision) → AllAfter s 0 rs ts (undecided ts) ds → AreByFirst s ts rs ds
each_first s rs [] ds h i t d t_is d_is = cc
each_first s rs (u ∷ ts) [] h i t d t_is d_is = cc
each_first s rs (u ∷ ts) (e ∷ ds) h zero t d t_is d_is = subst (λ x. IsByFirst s 0 rs x d) (same_Some u t t_is) (subst (IsByFirst s 0 rs u) (same_Some e d d_is) h.0)
each_first s rs (u ∷ ts) (e ∷ ds) h (suc i) t d t_is d_is = each_first s rs ts ds h.1 i t d t_is d_is

-- the decisions of a stream's rules
pub decisions_by_first : (s : ℕ) (ts : List TableValue) (rs : List RuleSaid) (ds : List Decision) → decisions_of s ts rs ≡ Ok ds → AreByFirst s ts rs ds
decisions_by_first s ts rs ds is = each_first s rs ts ds (all_after s ts 0 rs (undecided ts) ds is)
