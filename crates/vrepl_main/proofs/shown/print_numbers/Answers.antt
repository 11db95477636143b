use Rattle.std.proofs.Common.{arith, [], ◌∷◌, ◌++◌, sym, subst}
use Rattle.std.specs.Prelude.{decimal}
use Rattle.std.proofs.lemmas.Result.{err_from_is_err_and}
use Rattle.vrepl_main.specs.Adding.{AddsText, IsBegun}
use Rattle.vrepl_main.proofs.AddLaws.{first_stops, then_stops, then_prints, then_put}
use Rattle.vrepl_main.proofs.NumberLaws.{behind_first, span-apart, span-parts}
use Rattle.vrepl_main.proofs.shown.print_numbers.Goals as goal

pub returns-in_err-put_number : goal.returns-in_err-put_number
returns-in_err-put_number g c =
    let i = c.args.interval.now in
    let p = err_from_is_err_and c.from_residual.result c.from_residual.ensures.1 in
    rw p.1 (subst (IsBegun _ _) (sym (span-parts i.first i.last)) (first_stops _ _ (decimal i.first) (behind_first i.first i.last) c.in_err-put_number.ensures))

pub returns-in_err-put_all : goal.returns-in_err-put_all
returns-in_err-put_all g c =
    let i = c.args.interval.now in
    let p = err_from_is_err_and c.from_residual-in_err-put_all.result c.from_residual-in_err-put_all.ensures.1 in
    rw p.1 (subst (IsBegun _ _) (sym (span-apart i.first i.last c.if-interval.false))
    (first_stops _ _ (decimal i.first ++ 45 ∷ []) (decimal i.last) (then_stops _ _ _ (decimal i.first) (45 ∷ []) c.in_ok-put_number.ensures c.in_err-put_all.ensures)))

pub returns : goal.returns
returns g c =
    let i = c.args.interval.now in
    subst (AddsText c.put_number-2.result _ _) (sym (span-apart i.first i.last (λ e. omega (arith, e, c.if-interval.false))))
    (then_prints c.put_number-2.result _ _ _ (decimal i.first ++ 45 ∷ []) (decimal i.last) (then_put _ _ _ (decimal i.first) (45 ∷ []) c.in_ok-put_number.ensures c.in_ok-put_all.ensures) c.put_number-2.ensures)
