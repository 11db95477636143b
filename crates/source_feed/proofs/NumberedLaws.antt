-- Groups under a plan: a change has its number by its table's place.
use Rattle.std.proofs.Common.{◌≡◌, ◌+◌, ◌-◌, ◌<◌, ℕ, List, [], ◌∷◌, ◌++◌, length, map, get_or, None, Some, refl, sym, ap, ◌∙◌, arith, inl, inr}
use Rattle.std.specs.Prelude.{replicate}
use Rattle.std.specs.List.{filter_map, cons_option}
use Rattle.std.specs.Option.{option_map}
use Rattle.std.proofs.lemmas.List.{get_or-map, get_or-append_right, get_or-replicate, get_or_past}
use Rattle.std.proofs.lemmas.Option.{slice_get_cases}
use Rattle.filter_rule.specs.PlanValue.{PlanValue}
use Rattle.source_feed.specs.declared.kept.KeptGroups.{KeptGroups}
use Rattle.source_feed.specs.GroupValue.{TableChangeValue, GroupValue}
use Rattle.source_feed.specs.Planned.{PlannedChangeValue, PlannedGroupValue, planned_change, planned_group}
use Rattle.source_feed.specs.Private.FeedTables.{names_in, numbers_in, number_under, AreNumbered}
use Rattle.source_feed.specs.Private.KeptGroups.{KeptChangeValue, KeptGroupValue, named, named_group, numbered, numbered_group, AreOfTables}
use Rattle.source_feed.specs.Private.NamedGroups.{all_named}

-- a place that has the same name whatever names follow is one of the names'
place_within : (names : List (List ℕ)) (place : ℕ) → ((later : List (List ℕ)) → get_or (names ++ later) place [] ≡ get_or names place []) → place < length names
place_within names place same =
    elim (slice_get_cases names place).1 [
      | inl there ↦ there.1
      | inr past ↦
          let k : ℕ = place - length names in
          let later : List (List ℕ) = replicate (k + 1) (0 ∷ []) in
          let one : 0 ∷ [] ≡ get_or (names ++ later) place []
          = sym (get_or-append_right names later (length names) place [] refl past.0 ∙ get_or-replicate (k + 1) k (0 ∷ []) [] (omega arith)) in
          let none : get_or names place [] ≡ [] = get_or_past names place [] past.0 in
          let lengths : 1 ≡ 0 = ap length (one ∙ same later ∙ none) in
          absurd (omega (arith, lengths))
    ]

changes_under : (plan : PlanValue) (names : List (List ℕ)) (changes : List KeptChangeValue) → ((later : List (List ℕ)) → map (named (names ++ later)) changes ≡ map (named names) changes)
    → filter_map (numbered (map (number_under (Some plan)) names)) changes ≡ filter_map (planned_change plan) (map (named names) changes)
changes_under plan names [] same = refl
changes_under plan names (change ∷ more) same =
    ap (λ t. cons_option (option_map (λ t. record { table = t; before = change.rows.before; after = change.rows.after }) t) (filter_map (numbered (map (number_under (Some plan)) names)) more)) (get_or-map (number_under (Some plan)) names change.place [] None within)
    ∙ ap (λ (cs : List PlannedChangeValue). cons_option (planned_change plan (named names change)) cs) (changes_under plan names more tail)
  where
    head : (later : List (List ℕ)) → named (names ++ later) change ≡ named names change
    head later = let all = same later in cc

    tail : (later : List (List ℕ)) → map (named (names ++ later)) more ≡ map (named names) more
    tail later = let all = same later in cc

    within : change.place < length names
    within = place_within names change.place (λ later. ap (λ (c : TableChangeValue). c.table) (head later))

pub groups_under : (plan : PlanValue) (names : List (List ℕ)) (groups : List KeptGroupValue) → AreOfTables names groups
    → map (numbered_group (map (number_under (Some plan)) names)) groups ≡ map (planned_group plan) (map (named_group names) groups)
groups_under plan names [] same = refl
groups_under plan names (group ∷ more) same =
    ap (λ (cs : List PlannedChangeValue). record { number = group.number; position = group.position; changes = cs } ∷ map (numbered_group (map (number_under (Some plan)) names)) more) (changes_under plan names group.changes (λ later. ap (λ (g : GroupValue). g.changes) (head later)))
    ∙ ap (λ (gs : List PlannedGroupValue). planned_group plan (named_group names group) ∷ gs) (groups_under plan names more tail)
  where
    head : (later : List (List ℕ)) → named_group (names ++ later) group ≡ named_group names group
    head later = let all = same later in cc

    tail : AreOfTables names more
    tail later = let all = same later in cc

-- the groups that a feed's groups are under a plan
pub kept_under : (plan : PlanValue) (kept : KeptGroups) → AreNumbered (Some plan) kept.tables → AreOfTables (names_in kept.tables) kept.groups.items
    → map (numbered_group (numbers_in kept.tables)) kept.groups.items ≡ map (planned_group plan) (all_named kept)
kept_under plan kept numbers same =
    ap (λ ns. map (numbered_group ns) kept.groups.items) numbers ∙ groups_under plan (names_in kept.tables) kept.groups.items same
