use Rattle.std.proofs.Common.{◌∙◌, ◌∷◌, ◌++◌, ◌<◌, List, ℕ, length, get_or, ap, sym, arith}
use Rattle.std.proofs.lemmas.List.{append_cancel_left}
use Rattle.filter_rule.specs.PlanTable.{TableValue}
use Rattle.dump.proofs.StandLaws.{behind_word, whole_line, name_at}
use Rattle.dump.proofs.reading.behind_table_line.Goals as goal

pub returns-in_err-end-clause-line : goal.returns-in_err-end-clause-line
returns-in_err-end-clause-line c =
    let table : TableValue = c.index-tables-t.result in
    let there = c.index-tables-t.is ∙ ap (λ (l : List TableValue). get_or l c.args.t table) c.tables-tables.ensures.tables in
    rw c.from_residual-in_err-end.ensures (λ lt rest e.
    let name = c.as_bytes.ensures.value ∙ c.name.ensures ∙ name_at c.args.plan.now c.args.t table lt there in
    c.in_err-end.ensures (10 ∷ rest) (behind_word _ rest c.args.text.now _ c.in_ok-name.ensures e ∙ ap (λ (l : List ℕ). l ++ 10 ∷ rest) (sym name)))

pub returns-in_err-rest-clause-line : goal.returns-in_err-rest-clause-line
returns-in_err-rest-clause-line c =
    let table : TableValue = c.index-tables-t.result in
    let there = c.index-tables-t.is ∙ ap (λ (l : List TableValue). get_or l c.args.t table) c.tables-tables.ensures.tables in
    rw c.from_residual-in_err-rest.ensures (λ lt rest e.
    let name = c.as_bytes.ensures.value ∙ c.name.ensures ∙ name_at c.args.plan.now c.args.t table lt there in
    c.in_err-rest.ensures rest (append_cancel_left c.as_bytes.result.now _ (10 ∷ rest) (sym c.in_ok-end.ensures ∙ behind_word _ rest c.args.text.now _ c.in_ok-name.ensures e ∙ ap (λ (l : List ℕ). l ++ 10 ∷ rest) (sym name))))

pub returns-clause-line : goal.returns-clause-line
returns-clause-line c =
    let table : TableValue = c.index-tables-t.result in
    let there = c.index-tables-t.is ∙ ap (λ (l : List TableValue). get_or l c.args.t table) c.tables-tables.ensures.tables in
    let lt : c.args.t < length c.args.plan.now.tables = omega (arith, c.if-t-tables.false, ap length c.tables-tables.ensures.tables) in
    let name = c.as_bytes.ensures.value ∙ c.name.ensures ∙ name_at c.args.plan.now c.args.t table lt there in
    let rest : List ℕ = c.in_ok-rest.rest.now in
    (lt, whole_line _ rest c.args.text.now _ c.in_ok-name.ensures (c.in_ok-end.ensures ∙ ap (λ (l : List ℕ). c.as_bytes.result.now ++ l) c.in_ok-rest.ensures ∙ ap (λ (l : List ℕ). l ++ 10 ∷ rest) name))
