-- Plans over shared tables, and the tables of a document.
use Rattle.std.proofs.Common.{◌≡◌, ℕ, ◌+◌, List, [], ◌∷◌, ◌++◌, length, map, Some, true, Global, Ok, refl, sym, ap, ◌∙◌}
use Rattle.std.specs.Prelude.{slice_get}
use Rattle.std.specs.Str.{is_utf8}
use Rattle.std.specs.Arc.{arc_value}
use Rattle.std.specs.declared.sync.Arc.{Arc}
use Rattle.filter_rule.specs.Private.Accepted.{AreNarrow, ArePlansOver, IsAccepted}
use Rattle.filter_rule.specs.Document.{StreamSaid, TableSaid, DocumentSaid}
use Rattle.list_laws.specs.Outcome.{each}
use Rattle.filter_rule.specs.Resolving.{resolved}
use Rattle.filter_rule.specs.PlanTable.{TableValue}
use Rattle.filter_rule.specs.Limits.{is_within}
use Rattle.filter_rule.specs.PlanValue.{PlanValue}
use Rattle.filter_rule.specs.Reading.{Decided, decided_from, closed_from, plan_over}
use Rattle.filter_rule.specs.WellFormed.{AreTables, IsPlan}
use Rattle.filter_rule.proofs.TableLaws.{HasNames, accepted_names, accepted_within, table_counts, tables_fit}
use Rattle.filter_rule.proofs.DecidedLaws.{decided_at}
use Rattle.filter_rule.proofs.KeepingLaws.{AllFit, closed_plan}

-- ---- one plan

values_more : (ps : List (Arc PlanValue Global)) (p : Arc PlanValue Global) → map arc_value (ps ++ p ∷ []) ≡ map arc_value ps ++ arc_value p ∷ []
values_more [] p = refl
values_more (q ∷ ps) p = ap (λ r. arc_value q ∷ r) (values_more ps p)

-- the stream that a loop has come to is one of them
middle : {A : Type 0} (front : List A) (x : A) (xs : List A) → slice_get (front ++ x ∷ xs) (length front) ≡ Some x
middle [] x xs = refl
middle (y ∷ front) x xs = middle front x xs

pub stream_here : (keyspace : List ℕ) (tables : List TableValue) (front rest later streams : List Decided) (stream : Decided) → front ++ rest ≡ streams → rest ≡ stream ∷ later → ArePlansOver keyspace tables streams → IsPlan (plan_over keyspace tables stream)
stream_here keyspace tables front rest later streams stream all next are =
    are (length front) stream (ap (λ ss. slice_get ss (length front)) (sym all ∙ ap (λ ss. front ++ ss) next) ∙ middle front stream later)

-- ---- the tables

pub are_tables : (said : List TableSaid) (d : DocumentSaid) (tables : List TableValue) → said ≡ d.tables → IsAccepted d → each resolved said ≡ Ok tables → AreTables tables
are_tables said d tables same accepted is =
    tables_fit d tables (accepted_names d accepted) (accepted_within d accepted) (ap (each resolved) (sym same) ∙ is)

pub are_narrow : (said : List TableSaid) (d : DocumentSaid) → said ≡ d.tables → IsAccepted d → AreNarrow said
are_narrow said d same accepted i t is =
    (table_counts d i t (accepted_within d accepted) (ap (λ (ts : List TableSaid). slice_get ts i) (sym same) ∙ is)).0.1

-- ---- each stream's plan

pub all_fit : (tables : List TableValue) (ss : List StreamSaid) (streams : List Decided) → decided_from tables 0 ss ≡ Ok streams → AreTables tables → AllFit tables streams
all_fit tables ss streams h fit i stream is = (decided_at tables 0 ss streams h i stream is).is.fit fit

pub over_plans : (document : DocumentSaid) (tables closed : List TableValue) (streams : List Decided) → HasNames document → is_within document ≡ true → each resolved document.tables ≡ Ok tables → decided_from tables 0 document.streams ≡ Ok streams
    → closed_from streams 0 tables ≡ Ok closed → ArePlansOver document.keyspace closed streams
over_plans document tables closed streams names within tables_are streams_are closed_are i stream is =
    let fit = tables_fit document tables names within tables_are in
    let at = decided_at tables 0 document.streams streams streams_are i stream is in
    closed_plan document.keyspace streams tables closed closed_are (all_fit tables document.streams streams streams_are fit) fit names.keyspace_text i stream is
    (ap is_utf8 at.is.shard ∙ names.shard_texts i at.stream at.stands)

pub plans_shape : (d : DocumentSaid) (tables closed : List TableValue) (streams : List Decided) → IsAccepted d → each resolved d.tables ≡ Ok tables → decided_from tables 0 d.streams ≡ Ok streams → closed_from streams 0 tables ≡ Ok closed
    → ArePlansOver d.keyspace closed streams
plans_shape d tables closed streams accepted tables_are streams_are closed_are =
    over_plans d tables closed streams (accepted_names d accepted) (accepted_within d accepted) tables_are streams_are closed_are
