use Rattle.std.proofs.Common.{[], ◌∷◌, ◌++◌, sym, subst}
use Rattle.gtid_set.specs.Printed.{numbers_text, uuid_text}
use Rattle.std.proofs.lemmas.Result.{err_from_is_err_and}
use Rattle.vrepl_main.specs.Adding.{AddsText, IsBegun}
use Rattle.vrepl_main.proofs.AddLaws.{first_stops, then_prints}
use Rattle.vrepl_main.proofs.NumberLaws.{interval-other, interval-same}
use Rattle.vrepl_main.proofs.shown.print_interval.Goals as goal

pub returns-in_err-put_all-in-Some : goal.returns-in_err-put_all-in-Some
returns-in_err-put_all-in-Some g c =
    let i = c.args.interval.now in
    let p = err_from_is_err_and c.from_residual.result c.from_residual.ensures.1 in
    rw p.1 (subst (IsBegun _ _) (sym (interval-same c.args.before c.in-Some.uuid i c.in-Some.is c.if-uuid-interval.true))
    (first_stops _ _ (58 ∷ []) (numbers_text i) c.in_err-put_all-in-Some.ensures))

pub returns-in_err-put_all-in-Some-2 : goal.returns-in_err-put_all-in-Some-2
returns-in_err-put_all-in-Some-2 g c =
    let i = c.args.interval.now in
    let p = err_from_is_err_and c.from_residual-in_err-put_all-in-Some-2.result c.from_residual-in_err-put_all-in-Some-2.ensures.1 in
    rw p.1 (subst (IsBegun _ _) (sym (interval-other c.args.before c.in-Some.uuid i c.in-Some.is c.if-uuid-interval.false))
    (first_stops _ _ (44 ∷ []) (uuid_text i.uuid ++ 58 ∷ numbers_text i) c.in_err-put_all-in-Some-2.ensures))

pub returns-in_ok-put_all-in-Some : goal.returns-in_ok-put_all-in-Some
returns-in_ok-put_all-in-Some g c =
    let i = c.args.interval.now in
    subst (AddsText c.print_numbers.result _ _) (sym (interval-same c.args.before c.in-Some.uuid i c.in-Some.is c.if-uuid-interval.true))
    (then_prints c.print_numbers.result _ _ _ (58 ∷ []) (numbers_text i) c.in_ok-put_all-in-Some.ensures c.print_numbers.ensures)

pub returns-in_ok-put_all-in-Some-2 : goal.returns-in_ok-put_all-in-Some-2
returns-in_ok-put_all-in-Some-2 g c =
    let i = c.args.interval.now in
    subst (AddsText c.print_named-in-Some-2.result _ _) (sym (interval-other c.args.before c.in-Some.uuid i c.in-Some.is c.if-uuid-interval.false))
    (then_prints c.print_named-in-Some-2.result _ _ _ (44 ∷ []) (uuid_text i.uuid ++ 58 ∷ numbers_text i) c.in_ok-put_all-in-Some-2.ensures c.print_named-in-Some-2.ensures)
