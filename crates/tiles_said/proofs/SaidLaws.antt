-- What is said line by line is what is said of what was found; and what it means that nothing is warned of.
use Rattle.std.proofs.Common.{◌≡◌, ◌≢◌, ◌⊎◌, inl, inr, ℕ, ◌+◌, ◌<◌, ◌≤◌, ◌==◌, drop, take, get_or, Option, Some, Result, Ok, Err, ◌||◌, Bool, true, false, List, [], ◌∷◌, ◌++◌, length, refl, sym, ◌∙◌, ap, ap₂, subst, arith, append_assoc, codes, map, IsTrue}
use Rattle.std.proofs.lemmas.Bool.Decides.{nat_tests}
use Rattle.std.proofs.lemmas.List.{append-nil, drop_all}
use Rattle.list_laws.proofs.Walks.{at_item}
use Rattle.std.specs.Prelude.{OnOk}
use Rattle.std.specs.List.{AllByRecursion, list_any, flat_map}
use Rattle.serde_json.specs.Data.{Data}
use Rattle.vindex.specs.Bounds.{Bounds, in_range}
use Rattle.range_cover.specs.Cover.{ShareValue, MisfitValue, AreMisfits, holders_of}
use Rattle.tiles_said.specs.Cover.{CoverValue, none, everything, unlike, shared, IsCover, are_absent, are_everything, are_alike, own_range, shares_from, sharers, HasEachOnce, IsSplit, AreSplit}
use Rattle.tiles_said.specs.Lines.{warning_line, fine_line, misfit_text, misfit_lines, shared_lines, cover_lines, are_some, is_faulty}
use Rattle.tiles_said.specs.Passing.{passings_of}
use Rattle.tiles_said.specs.Private.Saying.{said_more, with_misfits, with_shared}
use Rattle.tiles_said.specs.Said.{SaidValue, with_cover, SaysOf, SaysPair, Through, SaysSource, nothing_said, IsSaid}
use Rattle.tiles_said.specs.Sources.{SourceValue, sources_from, tables_from}
use Rattle.tiles_said.specs.declared.passing.Passing.{Passing}

-- ---- lines

said_as : List ℕ → Bool → SaidValue
said_as text told = record { text = text; told = told }

or-true : (b : Bool) → (b || true) ≡ true
or-true true = refl
or-true false = refl

or-false : (b : Bool) → (b || false) ≡ b
or-false true = refl
or-false false = refl

or-again : (a b : Bool) → ((a || true) || b) ≡ (a || true)
or-again true b = refl
or-again false b = refl

misfits-said : (names : List (List ℕ)) (source : SourceValue) (table : List ℕ) (misfits : List MisfitValue) (said : SaidValue)
    → with_misfits names source table misfits said ≡ said_as (said.text ++ misfit_lines names source table misfits) (said.told || are_some misfits)
unfolding said_as
misfits-said names source table [] said = sym (ap₂ said_as (append-nil said.text) (or-false said.told))
misfits-said names source table (misfit ∷ misfits) said =
    misfits-said names source table misfits (said_more (warning_line source table (misfit_text names misfit)) true said)
    ∙ ap₂ said_as (append_assoc said.text (warning_line source table (misfit_text names misfit)) (misfit_lines names source table misfits)) (or-again said.told (are_some misfits))

pub shared-said : (names : List (List ℕ)) (source : SourceValue) (table : List ℕ) (n : ℕ) (misfits : List MisfitValue) (said : SaidValue)
    → with_shared names source table n misfits said ≡ with_cover names source table (shared n misfits) said
unfolding said_as
shared-said names source table n [] said = refl
shared-said names source table n (misfit ∷ misfits) said = misfits-said names source table (misfit ∷ misfits) said

-- ---- nothing is warned of

isnt-other : (n : ℕ) → (n ≢ 1 → ⊥) → n ≡ 1
isnt-other n not_other = elim (n == 1) as (λ t. (n == 1) ≡ t → n ≡ 1) [
  | true ↦ λ is. grind (arith, nat_tests)
  | false ↦ λ is. absurd (not_other (grind (arith, nat_tests)))
] refl

not-either : (a b : Bool) → (a || b) ≡ false → (a ≡ false) × (b ≡ false)
not-either false false is = (refl, refl)
not-either false true is = cc
not-either true b is = cc

each_once : (source : SourceValue) (passings : List Passing) (misfits : List MisfitValue) → are_some misfits ≡ false → AreMisfits (own_range source.shard) (shares_from 0 passings) misfits
    → (id : List ℕ) → IsTrue (in_range (own_range source.shard) id) → length (holders_of (shares_from 0 passings) id) ≡ 1
each_once source passings [] quiet are id has = isnt-other (length (holders_of (shares_from 0 passings) id)) (λ wrong. no-true (are.all id has wrong))
  where
    no-true : IsTrue false → ⊥
    no-true h = cc
each_once source passings (misfit ∷ misfits) quiet are id has = cc

pub quiet_cover : (source : SourceValue) (passings : List Passing) (cover : CoverValue) → IsCover source passings cover → is_faulty cover ≡ false → IsSplit source passings
quiet_cover source passings none is quiet = inl is
quiet_cover source passings (everything n) is quiet = inr (inl is.1)
quiet_cover source passings unlike is quiet = cc
quiet_cover source passings (shared n misfits) is quiet = inr (inr (record { alike = is.2; once = each_once source passings misfits quiet is.4 }))

-- steps of which each keeps what was told, and says what is so where it tells nothing
quiet_through : {A : Type 0} (Step : A → SaidValue → SaidValue → Type 0) (Q : A → Type 0)
    → ((x : A) (old new : SaidValue) → Step x old new → new.told ≡ false → (old.told ≡ false) × Q x)
    → (xs : List A) (old new : SaidValue) → Through Step xs old new → new.told ≡ false → (old.told ≡ false) × AllByRecursion Q xs
quiet_through Step Q each [] old new is quiet = (sym (ap (λ said. said.told) is) ∙ quiet, tt)
quiet_through Step Q each (x ∷ xs) old new steps quiet =
    let rest = quiet_through Step Q each xs steps.0 new steps.2 quiet in
    let first = each x old steps.0 steps.1 rest.0 in
    (first.0, (first.1, rest.1))

quiet_pair : (names : List (List ℕ)) (files : List Data) (source : SourceValue) (table : List ℕ) (old new : SaidValue)
    → SaysPair names files source table old new → new.told ≡ false → (old.told ≡ false) × IsSplit source (passings_of source table files)
quiet_pair names files source table old new says quiet =
    let both = not-either old.told (is_faulty says.cover) (sym (ap (λ said. said.told) says.said) ∙ quiet) in
    (both.0, quiet_cover source (passings_of source table files) says.cover says.found both.1)

quiet_source : (names : List (List ℕ)) (files : List Data) (tables : List (List ℕ)) (source : SourceValue) (old new : SaidValue)
    → SaysSource names files tables source old new → new.told ≡ false → (old.told ≡ false) × AllByRecursion (λ name. IsSplit source (passings_of source name files)) tables
quiet_source names files tables source old new says quiet =
    quiet_through (SaysPair names files source) (λ name. IsSplit source (passings_of source name files)) (quiet_pair names files source) tables old new says quiet

pub quiet : (names : List (List ℕ)) (files : List Data) (said : SaidValue) → IsSaid names files said → said.told ≡ false → AreSplit files
quiet names files said is told =
    (quiet_through (SaysSource names files (tables_from [] files)) (λ source. AllByRecursion (λ name. IsSplit source (passings_of source name files)) (tables_from [] files)) (quiet_source names files (tables_from [] files)) (sources_from [] files) nothing_said said is told).1

-- ---- one step more

pub misfits-more : (names : List (List ℕ)) (source : SourceValue) (table : List ℕ) (found : List MisfitValue) (i : ℕ) (misfit : MisfitValue) (what line : List ℕ) (said more end : SaidValue)
    → i < length found → misfit ≡ get_or found i misfit → more ≡ said_more line true said → line ≡ warning_line source table what → what ≡ misfit_text names misfit
    → with_misfits names source table (drop i found) said ≡ end → with_misfits names source table (drop (i + 1) found) more ≡ end
misfits-more names source table found i misfit what line said more end inside is said_is line_is what_is so_far =
    ap (λ (s : SaidValue). with_misfits names source table (drop (i + 1) found) s)
    (said_is ∙ ap (λ (l : List ℕ). said_more l true said) (line_is ∙ ap (λ (w : List ℕ). warning_line source table w) what_is))
    ∙ sym (ap (λ (l : List MisfitValue). with_misfits names source table l said) (at_item found i misfit inside is))
    ∙ so_far

-- what the others make behind one more step
pub through-more : {A : Type 0} (Step : A → SaidValue → SaidValue → Type 0) (xs : List A) (i : ℕ) (x : A) (old between first : SaidValue) → i < length xs → x ≡ get_or xs i x → Step x old between
    → ((end : SaidValue) → Through Step (drop i xs) old end → Through Step xs first end)
    → (end : SaidValue) → Through Step (drop (i + 1) xs) between end → Through Step xs first end
through-more {A} Step xs i x old between first inside is step so_far end rest =
    so_far end (subst (λ (l : List A). Through Step l old end) (sym (at_item xs i x inside is)) (between, step, rest))

pub through-all : {A : Type 0} (Step : A → SaidValue → SaidValue → Type 0) (xs : List A) (i : ℕ) (said first : SaidValue) → length xs ≤ i
    → ((end : SaidValue) → Through Step (drop i xs) said end → Through Step xs first end) → Through Step xs first said
through-all {A} Step xs i said first over so_far =
    so_far said (subst (λ (l : List A). Through Step l said said) (sym (drop_all i xs over)) refl)

-- ---- what is found is said

pub says_everything : {E : Type 0} (result : Result (Unit {0}) E) (names : List (List ℕ)) (source : SourceValue) (passings : List Passing) (table line : List ℕ) (n : ℕ) (shares : List ShareValue) (old new : SaidValue)
    → OnOk result (new ≡ said_more line false old) → line ≡ fine_line source table n (codes "every row") → n ≡ length shares → shares ≡ shares_from 0 passings → are_absent passings ≡ false → are_everything passings ≡ true
    → OnOk result (SaysOf names source passings table old new)
says_everything (Err fault) names source passings table line n shares old new said line_is n_is shares_is some every = tt
says_everything (Ok done) names source passings table line n shares old new said line_is n_is shares_is some every = record {
  cover = everything n;
  found = (some, every, n_is ∙ ap (λ (l : List ShareValue). length l) shares_is);
  said = said ∙ ap (λ (l : List ℕ). said_more l false old) line_is;
}

pub says_unlike : {E : Type 0} (result : Result (Unit {0}) E) (names : List (List ℕ)) (source : SourceValue) (passings : List Passing) (table line : List ℕ) (old new : SaidValue)
    → OnOk result (new ≡ said_more line true old) → line ≡ warning_line source table (codes "ranges by other columns or vindexes") → are_absent passings ≡ false → are_everything passings ≡ false → are_alike passings ≡ false
    → OnOk result (SaysOf names source passings table old new)
says_unlike (Err fault) names source passings table line old new said line_is some every alike = tt
says_unlike (Ok done) names source passings table line old new said line_is some every alike = record {
  cover = unlike;
  found = (some, every, alike);
  said = said ∙ ap (λ (l : List ℕ). said_more l true old) line_is;
}

pub says_shared : {E : Type 0} (result : Result (Unit {0}) E) (names : List (List ℕ)) (source : SourceValue) (passings : List Passing) (table : List ℕ) (n : ℕ) (shares : List ShareValue) (own : Bounds) (misfits : List MisfitValue) (old new : SaidValue)
    → OnOk result (new ≡ with_shared names source table n misfits old) → n ≡ length shares → shares ≡ shares_from 0 passings → own ≡ own_range source.shard → AreMisfits own shares misfits
    → are_absent passings ≡ false → are_everything passings ≡ false → are_alike passings ≡ true → OnOk result (SaysOf names source passings table old new)
says_shared (Err fault) names source passings table n shares own misfits old new said n_is shares_is own_is are some every alike = tt
says_shared (Ok done) names source passings table n shares own misfits old new said n_is shares_is own_is are some every alike = record {
  cover = shared n misfits;
  found = (some, every, alike, n_is ∙ ap (λ (l : List ShareValue). length l) shares_is, subst (λ (l : List ShareValue). AreMisfits (own_range source.shard) l misfits) shares_is (subst (λ (b : Bounds). AreMisfits b shares misfits) own_is are));
  said = said ∙ shared-said names source table n misfits old;
}
