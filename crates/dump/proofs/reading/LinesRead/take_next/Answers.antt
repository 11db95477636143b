use Rattle.std.proofs.Common.{◌≡◌, ◌<◌, ◌≤◌, List, ℕ, ◌++◌, ◌∷◌, [], length, sym, subst, arith}
use Rattle.filter_rule.specs.PlanValue.{kept_columns_of}
use Rattle.pk_copy.specs.KeyOrder.{key_cmp}
use Rattle.pk_copy.specs.KeyValue.{KeyValue}
use Rattle.target_tables.specs.Rising.{AreBelow}
use Rattle.dump.specs.DumpReading.{Behind}
use Rattle.dump.specs.DumpRowsValue.{RowValue}
use Rattle.dump.specs.Private.Known.{StandsKnown}
use Rattle.dump.specs.Private.Reading.{TakesLine}
use Rattle.dump.proofs.KnownLaws.{known_stands, known_fits}
use Rattle.dump.proofs.ReadingLaws.{some_row_begins}
use Rattle.dump.proofs.TableLaws.{kept_some}
use Rattle.dump.proofs.reading.LinesRead.take_next.Goals as goal

pub push-requires : goal.push-requires
push-requires c = rw c.in_ok-again-in-Some.ensures (subst (λ (s : Behind). AreBelow key_cmp c.in-Some.key.now s.rows) (sym c.self.view_is) c.in-Some.ensures.above)

pub returns-in_ok-push-in-Some-clause-taken : goal.returns-in_ok-push-in-Some-clause-taken
returns-in_ok-push-in-Some-clause-taken c =
    let row : KeyValue × RowValue = (c.in-Some.key.now, c.in-Some.row.now) in
    let text : List ℕ = c.args.text.now in
    let rest : List ℕ = c.in-Some.rest.now in
    let old : Behind = record { begun = c.self.inside.begun; rows = c.self.inside.rows } in
    let new : Behind = record { begun = c.self.inside.begun; rows = c.self.inside.rows ++ row ∷ [] } in
    let found : StandsKnown c.args.known.now old text row rest = subst (λ (s : Behind). StandsKnown c.args.known.now s text row rest) (sym c.self.view_is) c.in-Some.ensures in
    let taken : TakesLine c.args.plan.now old new text rest = known_stands c.args.plan.now c.args.known.now old text rest row c.requires found in
    rw (c.in_ok-push-in-Some.ensures.ok, c.in_ok-again-in-Some.ensures, c.in_ok-copy-in-Some.ensures) (subst (λ (s : Behind). TakesLine c.args.plan.now s new text rest) c.self.view_is taken)

pub returns-in_err-copy-in-Some-clause-row : goal.returns-in_err-copy-in-Some-clause-row
returns-in_err-copy-in-Some-clause-row c =
    let fits = known_fits c.args.plan.now c.args.known.now _ _ (c.in-Some.key.now, c.in-Some.row.now) c.in-Some.rest.now c.requires c.in-Some.ensures in
    let some : 1 ≤ length (kept_columns_of c.args.plan.now c.in-Some.key.now.table) = kept_some c.args.plan.now c.in-Some.key.now.table fits.table c.tables.ensures.well_formed in
    λ e. some_row_begins c.args.text.now c.in-Some.row.now c.in-Some.rest.now (omega (arith, some, fits.width)) c.in-Some.ensures.parts

pub returns-in_err-again-in-Some-clause-row : goal.returns-in_err-again-in-Some-clause-row
returns-in_err-again-in-Some-clause-row c =
    let fits = known_fits c.args.plan.now c.args.known.now _ _ (c.in-Some.key.now, c.in-Some.row.now) c.in-Some.rest.now c.requires c.in-Some.ensures in
    let some : 1 ≤ length (kept_columns_of c.args.plan.now c.in-Some.key.now.table) = kept_some c.args.plan.now c.in-Some.key.now.table fits.table c.tables.ensures.well_formed in
    λ e. some_row_begins c.args.text.now c.in-Some.row.now c.in-Some.rest.now (omega (arith, some, fits.width)) c.in-Some.ensures.parts

pub returns-in_err-push-in-Some-clause-row : goal.returns-in_err-push-in-Some-clause-row
returns-in_err-push-in-Some-clause-row c =
    let fits = known_fits c.args.plan.now c.args.known.now _ _ (c.in-Some.key.now, c.in-Some.row.now) c.in-Some.rest.now c.requires c.in-Some.ensures in
    let some : 1 ≤ length (kept_columns_of c.args.plan.now c.in-Some.key.now.table) = kept_some c.args.plan.now c.in-Some.key.now.table fits.table c.tables.ensures.well_formed in
    λ e. some_row_begins c.args.text.now c.in-Some.row.now c.in-Some.rest.now (omega (arith, some, fits.width)) c.in-Some.ensures.parts
