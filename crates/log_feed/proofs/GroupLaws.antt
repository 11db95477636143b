-- What a feed tells of changes, one change further.
use Rattle.std.proofs.Common.{◌≡◌, ℕ, ◌+◌, ◌<◌, ◌≤◌, true, false, List, [], ◌∷◌, ◌++◌, length, map, drop, get_or, Option, None, Some, Result, Ok, Err, refl, sym, ap, ◌∙◌, append_assoc}
use Rattle.std.proofs.lemmas.List.{map-append, append-nil, at_drop_more, at_drop_all}
use Rattle.std.specs.Str.{bytes_eq}
use Rattle.list_laws.specs.Outcome.{◌>>=◌, Refuses, GivesUnless}
use Rattle.vevent.specs.EventValue.{EventValue}
use Rattle.vevent.specs.WrittenEvent.{written_event}
use Rattle.log_groups.specs.Body.{QueryValue}
use Rattle.log_groups.specs.Transaction.{DoneValue}
use Rattle.log_feed.specs.declared.fault.Trouble.{Trouble}
use Rattle.log_feed.specs.declared.fault.TroubleError.{TroubleError}
use Rattle.log_feed.specs.declared.fault.TroubleError.TheVariants.{Memory, Is}
use Rattle.log_feed.specs.declared.fault.ChangeFault.{ChangeFault}
use Rattle.log_feed.specs.declared.fault.ChangeError.{ChangeError}
use Rattle.log_feed.specs.declared.fault.ChangeError.TheVariants as change_error
use Rattle.log_feed.specs.Fault.{trouble_meant, meant, in_table, IsOfTable}
use Rattle.log_feed.specs.declared.table.Stage.{Stage}
use Rattle.log_feed.specs.Table.{TableValue, table_from, stage_at}
use Rattle.log_feed.specs.Private.Bytes.{with_event, with_events}
use Rattle.log_feed.specs.Group.{Told, altered_at, altered_from, told_of, told_of_all, in_bytes, with_told}

-- ---- names

pub name-here : {T : Type 0} (view : T → TableValue) (tables : List T) (i : ℕ) (name : List ℕ) (all : Option (ℕ × TableValue)) (table : T) → i < length tables → table ≡ get_or tables i table → bytes_eq (view table).name name ≡ true
    → table_from i name (map view (drop i tables)) ≡ all → Some (i, view table) ≡ all
name-here view tables i name all table lt is same seen =
    let front = at_drop_more (λ ts. table_from i name (map view ts)) tables i table lt in
    let found : table_from i name (map view (table ∷ drop (i + 1) tables)) ≡ Some (i, view table) = rw same refl in
    sym found ∙ ap (λ t. table_from i name (map view (t ∷ drop (i + 1) tables))) is ∙ sym front ∙ seen

pub name-further : {T : Type 0} (view : T → TableValue) (tables : List T) (i : ℕ) (name : List ℕ) (all : Option (ℕ × TableValue)) (table : T) → i < length tables → table ≡ get_or tables i table → bytes_eq (view table).name name ≡ false
    → table_from i name (map view (drop i tables)) ≡ all → table_from (i + 1) name (map view (drop (i + 1) tables)) ≡ all
name-further view tables i name all table lt is other seen =
    let front = at_drop_more (λ ts. table_from i name (map view ts)) tables i table lt in
    let behind : table_from i name (map view (table ∷ drop (i + 1) tables)) ≡ table_from (i + 1) name (map view (drop (i + 1) tables)) = rw other refl in
    sym behind ∙ ap (λ t. table_from i name (map view (t ∷ drop (i + 1) tables))) is ∙ sym front ∙ seen

pub name-nowhere : {T : Type 0} (view : T → TableValue) (tables : List T) (i : ℕ) (name : List ℕ) (all : Option (ℕ × TableValue)) → length tables ≤ i → table_from i name (map view (drop i tables)) ≡ all → None ≡ all
name-nowhere view tables i name all le seen = sym (at_drop_all (λ ts. table_from i name (map view ts)) tables i le) ∙ seen

-- ---- statements

pub altered-further : (t : ℕ) (schema : List ℕ) (q : QueryValue) (table : TableValue) (tables : List TableValue) (stages new : List Stage) (all : Result (List Stage) ChangeFault) → altered_at t schema q table stages ≡ Ok new
    → altered_from t schema q (table ∷ tables) stages ≡ all → altered_from (t + 1) schema q tables new ≡ all
unfolding altered_from
altered-further t schema q table tables stages new all e seen = sym (rw e refl) ∙ seen

pub altered-wrong : (t : ℕ) (schema : List ℕ) (q : QueryValue) (table : TableValue) (tables : List TableValue) (stages : List Stage) (fault : ChangeFault) (all : Result (List Stage) ChangeFault) → altered_at t schema q table stages ≡ Err fault
    → altered_from t schema q (table ∷ tables) stages ≡ all → all ≡ Err fault
unfolding altered_from
altered-wrong t schema q table tables stages fault all e seen = sym seen ∙ rw e refl

pub altered-end : (t : ℕ) (schema : List ℕ) (q : QueryValue) (stages : List Stage) (all : Result (List Stage) ChangeFault) → altered_from t schema q [] stages ≡ all → all ≡ Ok stages
unfolding altered_from
altered-end t schema q stages all seen = sym seen

-- ---- changes

told_behind : (events : List EventValue) (out : List (List ℕ)) (r : Result Told ChangeFault) → with_told (r >>= λ y. Ok (events ++ y.0, y.1)) out ≡ with_told r (out ++ in_bytes events)
told_behind events out (Err fault) = refl
told_behind events out (Ok y) =
    ap (λ (b : List (List ℕ)). Ok (b, y.1)) (ap (λ (b : List (List ℕ)). out ++ b) (map-append written_event events y.0) ∙ sym (append_assoc out (in_bytes events) (in_bytes y.0)))

further : (r : Result Told ChangeFault) (rest : List Stage → Result Told ChangeFault) (out new_out : List (List ℕ)) (new_stages : List Stage) → with_told r out ≡ Ok (new_out, new_stages)
    → with_told (r >>= λ x. rest x.1 >>= λ y. Ok (x.0 ++ y.0, y.1)) out ≡ with_told (rest new_stages) new_out
further (Err fault) rest out new_out new_stages e = cc
further (Ok x) rest out new_out new_stages e =
    let both : ◌≡◌ {A = List (List ℕ) × List Stage} (out ++ in_bytes x.0, x.1) (new_out, new_stages) = cc in
    rw (sym (ap (λ (p : List (List ℕ) × List Stage). p.0) both), sym (ap (λ (p : List (List ℕ) × List Stage). p.1) both)) (told_behind x.0 out (rest x.1))

wrong : (r : Result Told ChangeFault) (rest : List Stage → Result Told ChangeFault) (out : List (List ℕ)) (fault : ChangeFault) → with_told r out ≡ Err fault → with_told (r >>= λ x. rest x.1 >>= λ y. Ok (x.0 ++ y.0, y.1)) out ≡ Err fault
wrong (Err other) rest out fault e = cc
wrong (Ok x) rest out fault e = cc

pub told-further : (schema : List ℕ) (tables : List TableValue) (d : DoneValue) (changes : List DoneValue) (stages new_stages : List Stage) (out new_out : List (List ℕ)) (all : Result (List (List ℕ) × List Stage) ChangeFault)
    → with_told (told_of schema tables d stages) out ≡ Ok (new_out, new_stages) → with_told (told_of_all schema tables (d ∷ changes) stages) out ≡ all → with_told (told_of_all schema tables changes new_stages) new_out ≡ all
unfolding told_of_all
told-further schema tables d changes stages new_stages out new_out all e seen = sym (further (told_of schema tables d stages) (told_of_all schema tables changes) out new_out new_stages e) ∙ seen

pub told-wrong : (schema : List ℕ) (tables : List TableValue) (d : DoneValue) (changes : List DoneValue) (stages : List Stage) (out : List (List ℕ)) (fault : ChangeFault) (all : Result (List (List ℕ) × List Stage) ChangeFault)
    → with_told (told_of schema tables d stages) out ≡ Err fault → with_told (told_of_all schema tables (d ∷ changes) stages) out ≡ all → all ≡ Err fault
unfolding told_of_all
told-wrong schema tables d changes stages out fault all e seen = sym seen ∙ wrong (told_of schema tables d stages) (told_of_all schema tables changes) out fault e

pub told-end : (schema : List ℕ) (tables : List TableValue) (stages : List Stage) (out : List (List ℕ)) (all : Result (List (List ℕ) × List Stage) ChangeFault) → with_told (told_of_all schema tables [] stages) out ≡ all → all ≡ Ok (out, stages)
unfolding told_of_all
told-end schema tables stages out all seen = sym seen ∙ ap (λ (b : List (List ℕ)). Ok (b, stages)) (append-nil out)

-- ---- of a list of the program

pub altered-on : {T : Type 0} (view : T → TableValue) (tables : List T) (i : ℕ) (schema : List ℕ) (q : QueryValue) (stages new : List Stage) (all : Result (List Stage) ChangeFault) (table : T) → i < length tables → table ≡ get_or tables i table
    → altered_at i schema q (view table) stages ≡ Ok new → altered_from i schema q (map view (drop i tables)) stages ≡ all → altered_from (i + 1) schema q (map view (drop (i + 1) tables)) new ≡ all
altered-on view tables i schema q stages new all table lt is e seen =
    altered-further i schema q (view table) (map view (drop (i + 1) tables)) stages new all e
    (ap (λ t. altered_from i schema q (map view (t ∷ drop (i + 1) tables)) stages) is ∙ sym (at_drop_more (λ ts. altered_from i schema q (map view ts) stages) tables i table lt) ∙ seen)

pub altered-refused : {T : Type 0} (view : T → TableValue) (tables : List T) (i : ℕ) (schema : List ℕ) (q : QueryValue) (stages : List Stage) (all : Result (List Stage) ChangeFault) (table : T) (error : ChangeError) → i < length tables → table ≡ get_or tables i table
    → Refuses meant error (altered_at i schema q (view table) stages) → altered_from i schema q (map view (drop i tables)) stages ≡ all → Refuses meant error all
altered-refused view tables i schema q stages all table change_error.Memory lt is e seen = tt
altered-refused view tables i schema q stages all table (change_error.Fault fault) lt is e seen =
    altered-wrong i schema q (view table) (map view (drop (i + 1) tables)) stages fault all e
    (ap (λ t. altered_from i schema q (map view (t ∷ drop (i + 1) tables)) stages) is ∙ sym (at_drop_more (λ ts. altered_from i schema q (map view ts) stages) tables i table lt) ∙ seen)

pub altered-done : {T : Type 0} (view : T → TableValue) (tables : List T) (i : ℕ) (schema : List ℕ) (q : QueryValue) (stages : List Stage) (all : Result (List Stage) ChangeFault) → length tables ≤ i → altered_from i schema q (map view (drop i tables)) stages ≡ all → all ≡ Ok stages
altered-done view tables i schema q stages all le seen = altered-end i schema q stages all (sym (at_drop_all (λ ts. altered_from i schema q (map view ts) stages) tables i le) ∙ seen)

abbrev Telling : Type 0
Telling = Result (List (List ℕ) × List Stage) ChangeFault

pub told-on : {D : Type 0} (view : D → DoneValue) (changes : List D) (i : ℕ) (schema : List ℕ) (tables : List TableValue) (stages new_stages : List Stage) (out new_out : List (List ℕ)) (all : Telling) (d : D) → i < length changes
    → with_told (told_of schema tables (view (get_or changes i d)) stages) out ≡ Ok (new_out, new_stages) → with_told (told_of_all schema tables (map view (drop i changes)) stages) out ≡ all
    → with_told (told_of_all schema tables (map view (drop (i + 1) changes)) new_stages) new_out ≡ all
told-on view changes i schema tables stages new_stages out new_out all d lt e seen =
    told-further schema tables (view (get_or changes i d)) (map view (drop (i + 1) changes)) stages new_stages out new_out all e
    (sym (at_drop_more (λ ds. with_told (told_of_all schema tables (map view ds) stages) out) changes i d lt) ∙ seen)

pub told-refused : {D : Type 0} (view : D → DoneValue) (changes : List D) (i : ℕ) (schema : List ℕ) (tables : List TableValue) (stages : List Stage) (out : List (List ℕ)) (all : Telling) (d : D) (error : ChangeError) → i < length changes
    → Refuses meant error (with_told (told_of schema tables (view (get_or changes i d)) stages) out) → with_told (told_of_all schema tables (map view (drop i changes)) stages) out ≡ all → Refuses meant error all
told-refused view changes i schema tables stages out all d change_error.Memory lt e seen = tt
told-refused view changes i schema tables stages out all d (change_error.Fault fault) lt e seen =
    told-wrong schema tables (view (get_or changes i d)) (map view (drop (i + 1) changes)) stages out fault all e
    (sym (at_drop_more (λ ds. with_told (told_of_all schema tables (map view ds) stages) out) changes i d lt) ∙ seen)

pub told-done : {D : Type 0} (view : D → DoneValue) (changes : List D) (i : ℕ) (schema : List ℕ) (tables : List TableValue) (stages : List Stage) (out : List (List ℕ)) (all : Telling) → length changes ≤ i → with_told (told_of_all schema tables (map view (drop i changes)) stages) out ≡ all → all ≡ Ok (out, stages)
told-done view changes i schema tables stages out all le seen = told-end schema tables stages out all (sym (at_drop_all (λ ds. with_told (told_of_all schema tables (map view ds) stages) out) changes i le) ∙ seen)

-- ---- rows

pub row-filled : (r : Result EventValue Trouble) (old : List (List ℕ)) → with_events (r >>= λ row. Ok (row ∷ [])) old ≡ with_event r old
row-filled (Err trouble) old = refl
row-filled (Ok row) old = refl

pub row-made-told : (r : Result EventValue Trouble) (field : EventValue) (old one : List (List ℕ)) → one ≡ old ++ written_event field ∷ [] → with_events (r >>= λ row. Ok (field ∷ row ∷ [])) old ≡ with_event r one
row-made-told (Err trouble) field old one is = refl
row-made-told (Ok row) field old one is =
    ap (λ (b : List (List ℕ)). Ok b) (sym (append_assoc old (written_event field ∷ []) (written_event row ∷ [])) ∙ ap (λ (b : List (List ℕ)). b ++ written_event row ∷ []) (sym is))

pub nothing-told : (old : List (List ℕ)) (stages : List Stage) → with_told (Ok ([], stages)) old ≡ Ok (old, stages)
nothing-told old stages = ap (λ (b : List (List ℕ)). Ok (b, stages)) (append-nil old)

pub rows-there : (t : ℕ) (r : Result (List EventValue) Trouble) (old out : List (List ℕ)) (stages : List Stage) → with_events r old ≡ Ok out → with_told (in_table t r >>= λ events. Ok (events, stages)) old ≡ Ok (out, stages)
rows-there t (Err trouble) old out stages e = cc
rows-there t (Ok events) old out stages e = let same : old ++ in_bytes events ≡ out = cc in ap (λ (b : List (List ℕ)). Ok (b, stages)) same

pub rows-wrong : (t : ℕ) (r : Result (List EventValue) Trouble) (old : List (List ℕ)) (stages : List Stage) (error : TroubleError) (answer : ChangeError) → Refuses trouble_meant error (with_events r old) → IsOfTable t error answer
    → Refuses meant answer (with_told (in_table t r >>= λ events. Ok (events, stages)) old)
rows-wrong t r old stages Memory answer e is = rw is tt
rows-wrong t (Ok events) old stages (Is trouble) answer e is = cc
rows-wrong t (Err other) old stages (Is trouble) answer e is = let same : other ≡ trouble = cc in rw (is, same) refl

pub altered-told : (r : Result (List Stage) ChangeFault) (old : List (List ℕ)) (stages : List Stage) → r ≡ Ok stages → with_told (r >>= λ new. Ok ([], new)) old ≡ Ok (old, stages)
altered-told r old stages e = rw e (nothing-told old stages)

pub altered-untold : (r : Result (List Stage) ChangeFault) (old : List (List ℕ)) (error : ChangeError) → Refuses meant error r → Refuses meant error (with_told (r >>= λ new. Ok ([], new)) old)
altered-untold r old change_error.Memory e = tt
altered-untold r old (change_error.Fault fault) e = rw e refl

pub altered-alone : {U : Type 0} (answer : Result U ChangeError) (r : Result (List Stage) ChangeFault) (old : List (List ℕ)) (stages : List Stage) → GivesUnless meant (λ x. stages) answer r → GivesUnless meant (λ x. (old, stages)) answer (with_told (r >>= λ new. Ok ([], new)) old)
altered-alone (Ok x) r old stages e = altered-told r old stages e
altered-alone (Err error) r old stages e = altered-untold r old error e

pub refused-so : {A : Type 0} (stages : List Stage) (t : ℕ) (stage : Stage) (told : Stage → Result A Trouble) (error : TroubleError) → stage ≡ stage_at stages t → Refuses trouble_meant error (told stage) → Refuses trouble_meant error (told (stage_at stages t))
refused-so stages t stage told Memory is e = tt
refused-so stages t stage told (Is trouble) is e = ap told (sym is) ∙ e
