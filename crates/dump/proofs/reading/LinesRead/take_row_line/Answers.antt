use Rattle.std.proofs.Common.{◌≡◌, ◌+◌, ◌-◌, ◌<◌, ◌≤◌, ◌∙◌, ◌++◌, ◌∷◌, [], ap, sym, subst, length, arith, Err, List, ℕ, IsOk}
use Rattle.std.proofs.lemmas.Result.{err_from_is_err_and}
use Rattle.filter_rule.specs.PlanValue.{kept_columns_of}
use Rattle.pk_copy.specs.KeyOrder.{key_cmp}
use Rattle.row_view.specs.Row.{row_of_message}
use Rattle.target_tables.specs.Rising.{AreBelow}
use Rattle.dump.specs.DumpReading.{Behind}
use Rattle.dump.specs.Private.Reading.{TakesRowLine}
use Rattle.dump.specs.DumpRowsValue.{DumpRowsValue}
use Rattle.dump.proofs.ReadingLaws.{err_is, message_is_row, message_row, message_begins}
use Rattle.dump.proofs.TableLaws.{kept_some}
use Rattle.dump.proofs.StandLaws.{key_refused, key_not_behind, row_is_added}
use Rattle.dump.proofs.reading.LinesRead.take_row_line.Goals as goal

pub take_row-requires : goal.take_row-requires
take_row-requires c =
    let lt : c.self.inside.begun - 1 < length c.args.plan.now.tables = omega (arith, c.if-self-tables.false, c.if-self-eq0.false, ap length c.tables-tables.ensures.tables) in
    let some : 1 ≤ length (kept_columns_of c.args.plan.now (c.self.inside.begun - 1)) = kept_some c.args.plan.now (c.self.inside.begun - 1) lt c.tables-tables.ensures.well_formed in
    omega (arith, some, ap length c.kept_columns-width.ensures.places)

pub of_row-row-requires : goal.of_row-row-requires
of_row-row-requires c = subst (λ (m : List ℕ). IsOk (row_of_message m)) (sym c.deref.ensures.value) (message_is_row _ _ _ _ c.in_ok-rest.ensures.taken)

pub key_of_row-requires-clause-columns : goal.key_of_row-requires-clause-columns
key_of_row-requires-clause-columns c =
    let row = message_row _ _ _ _ _ c.in_ok-rest.ensures.taken (sym (ap row_of_message c.deref.ensures.value) ∙ c.of_row-row.ensures) in
    row.width_is ∙ ap length c.kept_columns-width.ensures.places

pub returns-in_err-key-clause-bad : goal.returns-in_err-key-clause-bad
returns-in_err-key-clause-bad c =
    let last : c.self.inside.begun ≡ (c.self.inside.begun - 1) + 1 = omega (arith, c.if-self-eq0.false) in
    let p = err_from_is_err_and c.from_residual-in_err-key.result c.from_residual-in_err-key.ensures.1 in
    λ e. key_refused _ _ _ _ _ _ _ (message_row _ _ _ _ _ c.in_ok-rest.ensures.taken (sym (ap row_of_message c.deref.ensures.value) ∙ c.of_row-row.ensures)) (ap length c.kept_columns-width.ensures.places) (sym (ap (λ (s : Behind). s.begun) c.self.view_is) ∙ last) (c.in_err-key.ensures.bad (ap Err (sym p.2 ∙ err_is _ _ _ p.1 e)))

pub returns-then-not-is_behind_all-clause-bad : goal.returns-then-not-is_behind_all-clause-bad
returns-then-not-is_behind_all-clause-bad c =
    let last : c.self.inside.begun ≡ (c.self.inside.begun - 1) + 1 = omega (arith, c.if-self-eq0.false) in
    λ e. key_not_behind _ _ _ _ _ _ _ _ (message_row _ _ _ _ _ c.in_ok-rest.ensures.taken (sym (ap row_of_message c.deref.ensures.value) ∙ c.of_row-row.ensures)) (ap length c.kept_columns-width.ensures.places) (sym (ap (λ (s : Behind). s.begun) c.self.view_is) ∙ last) c.in_ok-key.ensures.ok.0 (λ below.
    let told = c.is_behind_all.ensures.1 (subst (λ (rows : DumpRowsValue). AreBelow key_cmp c.in_ok-key.key rows) (sym (ap (λ (s : Behind). s.rows) c.self.view_is)) below) in
    let h = c.if-not-is_behind_all.true in
    cc)

pub returns-clause-taken : goal.returns-clause-taken
returns-clause-taken c =
    let last : c.self.inside.begun ≡ (c.self.inside.begun - 1) + 1 = omega (arith, c.if-self-eq0.false) in
    let lt : c.self.inside.begun - 1 < length c.args.plan.now.tables = omega (arith, c.if-self-tables.false, c.if-self-eq0.false, ap length c.tables-tables.ensures.tables) in
    let below = c.is_behind_all.ensures.0 c.if-not-is_behind_all.false in
    let old : Behind = record { begun = c.self.inside.begun; rows = c.self.inside.rows } in
    let new : Behind = record { begun = c.self.inside.begun; rows = c.self.inside.rows ++ (c.in_ok-key.key, c.of_row-row.result) ∷ [] } in
    let added : TakesRowLine c.args.plan.now old new c.args.text.now c.in_ok-rest.rest.now = row_is_added _ old (c.self.inside.begun - 1) _ _ _ _ _ (message_row _ _ _ _ _ c.in_ok-rest.ensures.taken (sym (ap row_of_message c.deref.ensures.value) ∙ c.of_row-row.ensures)) (ap length c.kept_columns-width.ensures.places) last lt c.in_ok-key.ensures.ok.0 c.in_ok-key.ensures.ok.1 below in
    rw (c.in_ok-push.ensures.ok, c.in_ok-copy.ensures) (subst (λ (s : Behind). TakesRowLine c.args.plan.now s new c.args.text.now c.in_ok-rest.rest.now) c.self.view_is added)

pub returns-in_err-rest-clause-row : goal.returns-in_err-rest-clause-row
returns-in_err-rest-clause-row c =
    let p = err_from_is_err_and c.from_residual.result c.from_residual.ensures.1 in
    λ e. c.in_err-rest.ensures.memory (ap Err (sym p.2 ∙ err_is _ _ _ p.1 e))

pub returns-in_err-key-clause-row : goal.returns-in_err-key-clause-row
returns-in_err-key-clause-row c =
    let lt : c.self.inside.begun - 1 < length c.args.plan.now.tables = omega (arith, c.if-self-tables.false, c.if-self-eq0.false, ap length c.tables-tables.ensures.tables) in
    let some : 1 ≤ length (kept_columns_of c.args.plan.now (c.self.inside.begun - 1)) = kept_some c.args.plan.now (c.self.inside.begun - 1) lt c.tables-tables.ensures.well_formed in
    λ e. message_begins _ _ _ _ (omega (arith, some, ap length c.kept_columns-width.ensures.places)) c.in_ok-rest.ensures.taken

pub returns-in_err-copy-clause-row : goal.returns-in_err-copy-clause-row
returns-in_err-copy-clause-row c =
    let lt : c.self.inside.begun - 1 < length c.args.plan.now.tables = omega (arith, c.if-self-tables.false, c.if-self-eq0.false, ap length c.tables-tables.ensures.tables) in
    let some : 1 ≤ length (kept_columns_of c.args.plan.now (c.self.inside.begun - 1)) = kept_some c.args.plan.now (c.self.inside.begun - 1) lt c.tables-tables.ensures.well_formed in
    λ e. message_begins _ _ _ _ (omega (arith, some, ap length c.kept_columns-width.ensures.places)) c.in_ok-rest.ensures.taken

pub returns-in_err-push-clause-row : goal.returns-in_err-push-clause-row
returns-in_err-push-clause-row c =
    let lt : c.self.inside.begun - 1 < length c.args.plan.now.tables = omega (arith, c.if-self-tables.false, c.if-self-eq0.false, ap length c.tables-tables.ensures.tables) in
    let some : 1 ≤ length (kept_columns_of c.args.plan.now (c.self.inside.begun - 1)) = kept_some c.args.plan.now (c.self.inside.begun - 1) lt c.tables-tables.ensures.well_formed in
    λ e. message_begins _ _ _ _ (omega (arith, some, ap length c.kept_columns-width.ensures.places)) c.in_ok-rest.ensures.taken
