-- The FIELDs in force say the columns that the history says.
use Rattle.std.proofs.Common.{◌≡◌, ℕ, List, [], ◌∷◌, Bool, true, false, cond, not, Option, Some, refl, sym, ap, ◌∙◌, inl, inr}
use Rattle.std.proofs.lemmas.Bool.{cases_Bool, cond-true, cond-false}
use Rattle.std.specs.Cmp.Lexicographic.{same_text}
use Rattle.std.specs.List.{AllByRecursion, filter}
use Rattle.std.specs.Str.{bytes_eq}
use Rattle.row_view.specs.FieldValue.{FieldValue}
use Rattle.vevent.specs.EventValue.{Field}
use Rattle.source_feed.specs.SourceValue.{SourceValue, table_in_source}
use Rattle.source_feed.specs.PastEvents.{PastEvents, last_field}
use Rattle.event_laws.specs.BaseEvents.{IsField}
use Rattle.event_laws.specs.InForce.{is_of_other, in_force}
use Rattle.event_laws.specs.Laws.{SayTheColumns}

-- ---- fewer events

all-filter : {A : Type 0} (P : A → Type 0) (p : A → Bool) (xs : List A) → AllByRecursion P xs → AllByRecursion P (filter p xs)
all-filter P p [] h = h
all-filter P p (x ∷ xs) h =
    elim (p x) as (λ b. AllByRecursion P (cond b (x ∷ filter p xs) (filter p xs))) [ true ↦ (h.0, all-filter P p xs h.1) | false ↦ all-filter P p xs h.1 ]

-- the FIELDs of another table say nothing of this one
of_other : (source : SourceValue) (other table : List ℕ) (events : PastEvents) → bytes_eq other table ≡ false → last_field source (filter (is_of_other source other) events) table ≡ last_field source events table
of_other source other table [] d = refl
of_other source other table (Field name columns ∷ events) d =
    let mine : List ℕ = table_in_source source name in
    let rest : PastEvents = filter (is_of_other source other) events in
    let more : last_field source rest table ≡ last_field source events table = of_other source other table events d in
    elim (cases_Bool (bytes_eq mine other)) [
      | inl same ↦ (
          let apart : bytes_eq mine table ≡ false = ap (λ (t : List ℕ). bytes_eq t table) (same_text mine other (sym same)) ∙ d in
          ap (λ (b : Bool). last_field source (cond (not b) (Field name columns ∷ rest) rest) table) same
          ∙ more
          ∙ sym (cond-false (bytes_eq mine table) (Some columns) (last_field source events table) apart)
          )
      | inr apart ↦
          ap (λ (b : Bool). last_field source (cond (not b) (Field name columns ∷ rest) rest) table) apart
          ∙ ap (λ (o : Option (List FieldValue)). cond (bytes_eq mine table) (Some columns) o) more
    ]
of_other source other table (event ∷ events) d = of_other source other table events d

-- ---- the FIELDs in force

fields_alone : (source : SourceValue) (history : PastEvents) → AllByRecursion IsField (in_force source history)
fields_alone source [] = tt
fields_alone source (Field name columns ∷ earlier) = (tt, all-filter IsField (is_of_other source (table_in_source source name)) (in_force source earlier) (fields_alone source earlier))
fields_alone source (event ∷ earlier) = fields_alone source earlier

same_columns : (source : SourceValue) (history : PastEvents) (table : List ℕ) → last_field source (in_force source history) table ≡ last_field source history table
same_columns source [] table = refl
same_columns source (Field name columns ∷ earlier) table =
    let mine : List ℕ = table_in_source source name in
    let rest : PastEvents = filter (is_of_other source mine) (in_force source earlier) in
    elim (cases_Bool (bytes_eq mine table)) [
      | inl same ↦
          cond-true (bytes_eq mine table) (Some columns) (last_field source rest table) same ∙ sym (cond-true (bytes_eq mine table) (Some columns) (last_field source earlier table) same)
      | inr apart ↦
          ap (λ (o : Option (List FieldValue)). cond (bytes_eq mine table) (Some columns) o) (of_other source mine table (in_force source earlier) apart ∙ same_columns source earlier table)
    ]
same_columns source (event ∷ earlier) table = same_columns source earlier table

pub say_the_columns : (source : SourceValue) (history : PastEvents) → SayTheColumns source history
say_the_columns source history = record { only_fields = fields_alone source history; columns = same_columns source history }
