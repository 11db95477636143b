-- Nothing of a workflow's file is warned of exactly where it is without a fault, and nothing is noted either where it is clean.
use Rattle.std.proofs.Common.{◌≡◌, ◌≢◌, ◌↔◌, ◌∙◌, ℕ, ◌+◌, Bool, true, false, cond, List, [], ◌∷◌, ◌++◌, Option, Some, None, refl, sym, ap}
use Rattle.std.specs.Prelude.{◌||◌, not, codes, is_some}
use Rattle.std.specs.List.{AllByRecursion, list_any}
use Rattle.std.proofs.lemmas.Bool.{true≢false}
use Rattle.serde_json.specs.Data.{Data}
use Rattle.filter_rule.specs.Document.{RuleSaid}
use Rattle.feed_check.proofs.CleanLaws.{left_empty, right_empty, both_empty}
use Rattle.workflow_check.specs.File.{value_in, notes_in, notes_by, notes_of}
use Rattle.workflow_check.specs.Ignored.{in_item, ignored_in}
use Rattle.workflow_check.specs.Notes.{NoteValue, item_place, may_stand}
use Rattle.workflow_check.specs.Ranges.{undecided_at, undecided_by, undecided_in, is_untiled, untiled_at, untiled_in}
use Rattle.workflow_check.specs.Rules.{rules_in, first_rule, has_match, names_in, unmatched_at, unmatched_from, unmatched_in}
use Rattle.workflow_check.proofs.FlawLaws.{AreFaults, AllMayStand, ignored-faults, unmatched-faults, untiled-faults, undecided-stand}
use Rattle.check_said.specs.Said.{are_noted, are_warned}
use Rattle.vrepl_check.specs.Clean.{tables_in, streams_in, RulesMatch, HasRules, IsFaultlessFile, IsCleanFile, HasFile}

not_empty : {A : Type 0} (x : A) (xs : List A) → x ∷ xs ≡ [] → ⊥
not_empty x xs e = cc

-- one is told unless the test holds
unless : (b : Bool) (note : NoteValue) → (cond b [] (note ∷ []) ≡ []) ↔ (b ≡ true)
unless true note = (λ _. refl, λ _. refl)
unless false note = (λ e. absurd (not_empty note [] e), λ e. absurd (true≢false (sym e)))

-- one is told where it holds
where_true : (b : Bool) (note : NoteValue) → (cond b (note ∷ []) [] ≡ []) ↔ (b ≡ false)
where_true true note = (λ e. absurd (not_empty note [] e), λ e. absurd (true≢false e))
where_true false note = (λ _. refl, λ _. refl)

some-is : {A : Type 0} (o : Option A) → (is_some o ≡ true) ↔ (o ≢ None)
some-is None = (λ e. absurd (true≢false (sym e)), λ there. absurd (there refl))
some-is (Some x) = (λ _ none. cc, λ _. refl)

-- ---- rules

matched-one : (tables : List (List ℕ)) (list : List ℕ) (j : ℕ) (rules : List RuleSaid) → (unmatched_from tables list j rules ≡ []) ↔ AllByRecursion (λ rule. has_match tables rule ≡ true) rules
matched-one tables list j [] = (λ _. tt, λ _. refl)
matched-one tables list j (rule ∷ rules) =
    let note = unmatched_at (item_place list j) in
    let first = cond (has_match tables rule) [] (note ∷ []) in
    let others = unmatched_from tables list (j + 1) rules in
    let rest = matched-one tables list (j + 1) rules in (
      λ e. ((unless (has_match tables rule) note).0 (left_empty first others e), rest.0 (right_empty first others e)),
      λ h. both_empty first others ((unless (has_match tables rule) note).1 h.0) (rest.1 h.1),
    )

matched : (tables : List (List ℕ)) (i : ℕ) (streams : List Data) → (unmatched_in tables i streams ≡ []) ↔ AllByRecursion (RulesMatch tables) streams
matched tables i [] = (λ _. tt, λ _. refl)
matched tables i (stream ∷ streams) =
    let list = in_item (codes "streams") i ++ codes "filter.rules" in
    let first = unmatched_from tables list 0 (rules_in stream) in
    let others = unmatched_in tables (i + 1) streams in
    let here = matched-one tables list 0 (rules_in stream) in
    let rest = matched tables (i + 1) streams in (
      λ e. (here.0 (left_empty first others e), rest.0 (right_empty first others e)),
      λ h. both_empty first others (here.1 h.0) (rest.1 h.1),
    )

decided-one : (rules : List RuleSaid) (place : List ℕ) (tables : List (List ℕ)) → (undecided_by rules place tables ≡ []) ↔ AllByRecursion (λ table. first_rule rules table ≢ None) tables
decided-one rules place [] = (λ _. tt, λ _. refl)
decided-one rules place (table ∷ tables) =
    let note = undecided_at place table in
    let test = is_some (first_rule rules table) in
    let first = cond test [] (note ∷ []) in
    let others = undecided_by rules place tables in
    let rest = decided-one rules place tables in (
      λ e. ((some-is (first_rule rules table)).0 ((unless test note).0 (left_empty first others e)), rest.0 (right_empty first others e)),
      λ h. both_empty first others ((unless test note).1 ((some-is (first_rule rules table)).1 h.0)) (rest.1 h.1),
    )

decided : (tables : List (List ℕ)) (i : ℕ) (streams : List Data) → (undecided_in tables i streams ≡ []) ↔ AllByRecursion (HasRules tables) streams
decided tables i [] = (λ _. tt, λ _. refl)
decided tables i (stream ∷ streams) =
    let place = item_place (codes "streams") i in
    let first = undecided_by (rules_in stream) place tables in
    let others = undecided_in tables (i + 1) streams in
    let here = decided-one (rules_in stream) place tables in
    let rest = decided tables (i + 1) streams in (
      λ e. (here.0 (left_empty first others e), rest.0 (right_empty first others e)),
      λ h. both_empty first others (here.1 h.0) (rest.1 h.1),
    )

-- ---- ranges

tiled : (streams : List Data) (i : ℕ) (tables : List Data) → (untiled_in streams i tables ≡ []) ↔ AllByRecursion (λ table. is_untiled table streams ≡ false) tables
tiled streams i [] = (λ _. tt, λ _. refl)
tiled streams i (table ∷ tables) =
    let note = untiled_at (item_place (codes "tables") i) in
    let first = cond (is_untiled table streams) (note ∷ []) [] in
    let others = untiled_in streams (i + 1) tables in
    let rest = tiled streams (i + 1) tables in (
      λ e. ((where_true (is_untiled table streams) note).0 (left_empty first others e), rest.0 (right_empty first others e)),
      λ h. both_empty first others ((where_true (is_untiled table streams) note).1 h.0) (rest.1 h.1),
    )

-- ---- what is a fault, and what may well be so

assoc : (a b c : Bool) → (a || (b || c)) ≡ ((a || b) || c)
assoc true b c = refl
assoc false b c = refl

any-append : {X : Type 0} (p : X → Bool) (xs ys : List X) → list_any p (xs ++ ys) ≡ (list_any p xs || list_any p ys)
any-append p [] ys = refl
any-append p (x ∷ xs) ys = ap (λ (b : Bool). p x || b) (any-append p xs ys) ∙ assoc (p x) (list_any p xs) (list_any p ys)

pub either : (a b : Bool) → ((a || b) ≡ false) ↔ ((a ≡ false) × (b ≡ false))
either true b = (λ e. absurd (true≢false e), λ h. absurd (true≢false h.0))
either false b = (λ e. (refl, e), λ h. h.1)

two : (p : NoteValue → Bool) (xs ys : List NoteValue) → (list_any p (xs ++ ys) ≡ false) ↔ ((list_any p xs ≡ false) × (list_any p ys ≡ false))
two p xs ys = (λ e. (either (list_any p xs) (list_any p ys)).0 (sym (any-append p xs ys) ∙ e), λ h. any-append p xs ys ∙ (either (list_any p xs) (list_any p ys)).1 h)

abbrev warns : NoteValue → Bool
warns note = not (may_stand note.flaw)

abbrev stands : NoteValue → Bool
stands note = may_stand note.flaw

of_faults : (notes : List NoteValue) → AreFaults notes → (are_warned notes ≡ false) ↔ (notes ≡ [])
of_faults [] all = (λ _. refl, λ _. refl)
of_faults (note ∷ notes) all = (λ e. absurd (true≢false (sym (ap (λ (b : Bool). not b || are_warned notes) all.0) ∙ e)), λ e. absurd (not_empty note notes e))

not_noted : (notes : List NoteValue) → AreFaults notes → are_noted notes ≡ false
not_noted [] all = refl
not_noted (note ∷ notes) all = ap (λ (b : Bool). b || are_noted notes) all.0 ∙ not_noted notes all.1

not_warned : (notes : List NoteValue) → AllMayStand notes → are_warned notes ≡ false
not_warned [] all = refl
not_warned (note ∷ notes) all = ap (λ (b : Bool). not b || are_warned notes) all.0 ∙ not_warned notes all.1

of_standing : (notes : List NoteValue) → AllMayStand notes → (are_noted notes ≡ false) ↔ (notes ≡ [])
of_standing [] all = (λ _. refl, λ _. refl)
of_standing (note ∷ notes) all = (λ e. absurd (true≢false (sym (ap (λ (b : Bool). b || are_noted notes) all.0) ∙ e)), λ e. absurd (not_empty note notes e))

-- ---- the file

module _ (file : Data) where
  abbrev unread : List NoteValue
  unread = ignored_in file

  abbrev loose : List NoteValue
  loose = unmatched_in (names_in (tables_in file)) 0 (streams_in file)

  abbrev open_ones : List NoteValue
  open_ones = undecided_in (names_in (tables_in file)) 0 (streams_in file)

  abbrev gaps : List NoteValue
  gaps = untiled_in (streams_in file) 0 (tables_in file)

  file_faults : (are_warned (notes_in file) ≡ false) ↔ IsFaultlessFile file
  file_faults =
      let matches = matched (names_in (tables_in file)) 0 (streams_in file) in
      let tiles = tiled (streams_in file) 0 (tables_in file) in
      let of_unread = of_faults unread (ignored-faults file) in
      let of_loose = of_faults loose (unmatched-faults (names_in (tables_in file)) 0 (streams_in file)) in
      let of_gaps = of_faults gaps (untiled-faults (streams_in file) 0 (tables_in file)) in
      let of_open = not_warned open_ones (undecided-stand (names_in (tables_in file)) 0 (streams_in file)) in (
        λ e. let first = (two warns unread (loose ++ (open_ones ++ gaps))).0 e in
            let second = (two warns loose (open_ones ++ gaps)).0 first.1 in
            let third = (two warns open_ones gaps).0 second.1 in
            record { read = of_unread.0 first.0; matched = matches.0 (of_loose.0 second.0); tiled = tiles.0 (of_gaps.0 third.1) },
        λ h. (two warns unread (loose ++ (open_ones ++ gaps))).1 (of_unread.1 h.read, (two warns loose (open_ones ++ gaps)).1 (of_loose.1 (matches.1 h.matched), (two warns open_ones gaps).1 (of_open, of_gaps.1 (tiles.1 h.tiled)))),
      )

  file_notes : (are_noted (notes_in file) ≡ false) ↔ AllByRecursion (HasRules (names_in (tables_in file))) (streams_in file)
  file_notes =
      let decides = decided (names_in (tables_in file)) 0 (streams_in file) in
      let of_unread = not_noted unread (ignored-faults file) in
      let of_loose = not_noted loose (unmatched-faults (names_in (tables_in file)) 0 (streams_in file)) in
      let of_gaps = not_noted gaps (untiled-faults (streams_in file) 0 (tables_in file)) in
      let of_open = of_standing open_ones (undecided-stand (names_in (tables_in file)) 0 (streams_in file)) in (
        λ e. let first = (two stands unread (loose ++ (open_ones ++ gaps))).0 e in
            let second = (two stands loose (open_ones ++ gaps)).0 first.1 in
            let third = (two stands open_ones gaps).0 second.1 in
            decides.0 (of_open.0 third.0),
        λ h. (two stands unread (loose ++ (open_ones ++ gaps))).1 (of_unread, (two stands loose (open_ones ++ gaps)).1 (of_loose, (two stands open_ones gaps).1 (of_open.1 (decides.1 h), of_gaps))),
      )

abbrev warned_by : Option Data → Bool
warned_by o = are_warned (notes_by o)

abbrev noted_by : Option Data → Bool
noted_by o = are_noted (notes_by o)

-- of a text that has a value
pub faults_none : (workflow : List ℕ) (file : Data) → value_in workflow ≡ Some file → (are_warned (notes_of workflow) ≡ false) ↔ HasFile IsFaultlessFile workflow
faults_none workflow file said = (
  λ e. record { file = file; said = said; is = (file_faults file).0 (sym (ap warned_by said) ∙ e) },
  λ h. ap warned_by h.said ∙ (file_faults h.file).1 h.is,
)

pub all_none : (workflow : List ℕ) (file : Data) → value_in workflow ≡ Some file → ((are_warned (notes_of workflow) ≡ false) × (are_noted (notes_of workflow) ≡ false)) ↔ HasFile IsCleanFile workflow
all_none workflow file said = (
  λ h. record { file = file; said = said; is = record { faultless = (file_faults file).0 (sym (ap warned_by said) ∙ h.0); decided = (file_notes file).0 (sym (ap noted_by said) ∙ h.1) } },
  λ h. (ap warned_by h.said ∙ (file_faults h.file).1 h.is.faultless, ap noted_by h.said ∙ (file_notes h.file).1 h.is.decided),
)
