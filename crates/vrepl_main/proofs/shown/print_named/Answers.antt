use Rattle.std.proofs.Common.{[], ◌∷◌, ◌++◌}
use Rattle.gtid_set.specs.Printed.{numbers_text, uuid_text}
use Rattle.std.proofs.lemmas.Result.{err_from_is_err_and}
use Rattle.vrepl_main.proofs.AddLaws.{first_stops, then_stops, then_prints, then_put}
use Rattle.vrepl_main.proofs.shown.print_named.Goals as goal

pub returns-in_err-put_all : goal.returns-in_err-put_all
unfolding uuid_text
returns-in_err-put_all g c =
    let i = c.args.interval.now in
    let p = err_from_is_err_and c.from_residual.result c.from_residual.ensures.1 in
    rw p.1 (first_stops _ _ (uuid_text i.uuid ++ 58 ∷ []) (numbers_text i) (first_stops _ _ (uuid_text i.uuid) (58 ∷ []) (rw c.uuid_text.ensures at c.in_err-put_all.ensures)))

pub returns-in_err-put_all-2 : goal.returns-in_err-put_all-2
unfolding uuid_text
returns-in_err-put_all-2 g c =
    let i = c.args.interval.now in
    let p = err_from_is_err_and c.from_residual-in_err-put_all-2.result c.from_residual-in_err-put_all-2.ensures.1 in
    rw p.1 (first_stops _ _ (uuid_text i.uuid ++ 58 ∷ []) (numbers_text i) (then_stops _ _ _ (uuid_text i.uuid) (58 ∷ []) (rw c.uuid_text.ensures at c.in_ok-put_all.ensures) c.in_err-put_all-2.ensures))

pub returns : goal.returns
unfolding uuid_text
returns g c =
    let i = c.args.interval.now in
    then_prints c.print_numbers.result _ _ _ (uuid_text i.uuid ++ 58 ∷ []) (numbers_text i) (then_put _ _ _ (uuid_text i.uuid) (58 ∷ []) (rw c.uuid_text.ensures at c.in_ok-put_all.ensures) c.in_ok-put_all-2.ensures) c.print_numbers.ensures
