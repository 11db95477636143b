use Rattle.std.proofs.Common.{[], ◌∷◌, ◌++◌}
use Rattle.std.specs.Prelude.{codes, decimal}
use Rattle.gtid_set.specs.Printed.{printed_position}
use Rattle.std.proofs.lemmas.Result.{err_from_is_err_and}
use Rattle.vrepl_main.proofs.AddLaws.{first_stops, then_stops, then_prints, then_put}
use Rattle.vrepl_main.proofs.shown.print_group_line.Goals as goal

pub returns-in_err-put_all : goal.returns-in_err-put_all
returns-in_err-put_all g c =
    let group = c.args.group.now in
    let p = err_from_is_err_and c.from_residual.result c.from_residual.ensures.1 in
    rw p.1 (first_stops _ _ ((((codes "group ") ++ decimal group.number) ++ codes " ") ++ printed_position group.position) (10 ∷ []) (first_stops _ _ (((codes "group ") ++ decimal group.number) ++ codes " ") (printed_position group.position) (first_stops _ _ ((codes "group ") ++ decimal group.number) (codes " ") (first_stops _ _ (codes "group ") (decimal group.number) c.in_err-put_all.ensures))))

pub returns-in_err-put_number : goal.returns-in_err-put_number
returns-in_err-put_number g c =
    let group = c.args.group.now in
    let p = err_from_is_err_and c.from_residual-in_err-put_number.result c.from_residual-in_err-put_number.ensures.1 in
    rw p.1 (first_stops _ _ ((((codes "group ") ++ decimal group.number) ++ codes " ") ++ printed_position group.position) (10 ∷ []) (first_stops _ _ (((codes "group ") ++ decimal group.number) ++ codes " ") (printed_position group.position) (first_stops _ _ ((codes "group ") ++ decimal group.number) (codes " ") (then_stops _ _ _ (codes "group ") (decimal group.number) c.in_ok-put_all.ensures (rw (c.from.ensures, c.number.ensures) at c.in_err-put_number.ensures)))))

pub returns-in_err-put_all-2 : goal.returns-in_err-put_all-2
returns-in_err-put_all-2 g c =
    let group = c.args.group.now in
    let p = err_from_is_err_and c.from_residual-in_err-put_all-2.result c.from_residual-in_err-put_all-2.ensures.1 in
    rw p.1 (first_stops _ _ ((((codes "group ") ++ decimal group.number) ++ codes " ") ++ printed_position group.position) (10 ∷ []) (first_stops _ _ (((codes "group ") ++ decimal group.number) ++ codes " ") (printed_position group.position) (then_stops _ _ _ ((codes "group ") ++ decimal group.number) (codes " ") (then_put _ _ _ (codes "group ") (decimal group.number) c.in_ok-put_all.ensures (rw (c.from.ensures, c.number.ensures) at c.in_ok-put_number.ensures)) c.in_err-put_all-2.ensures)))

pub returns-in_err-print_position : goal.returns-in_err-print_position
returns-in_err-print_position g c =
    let group = c.args.group.now in
    let p = err_from_is_err_and c.from_residual-in_err-print_position.result c.from_residual-in_err-print_position.ensures.1 in
    rw p.1 (first_stops _ _ ((((codes "group ") ++ decimal group.number) ++ codes " ") ++ printed_position group.position) (10 ∷ []) (then_stops _ _ _ (((codes "group ") ++ decimal group.number) ++ codes " ") (printed_position group.position) (then_put _ _ _ ((codes "group ") ++ decimal group.number) (codes " ") (then_put _ _ _ (codes "group ") (decimal group.number) c.in_ok-put_all.ensures (rw (c.from.ensures, c.number.ensures) at c.in_ok-put_number.ensures)) c.in_ok-put_all-2.ensures) (rw (c.position.ensures) at c.in_err-print_position.ensures)))

pub returns : goal.returns
returns g c =
    let group = c.args.group.now in
    then_prints c.put_all-3.result _ _ _ ((((codes "group ") ++ decimal group.number) ++ codes " ") ++ printed_position group.position) (10 ∷ []) (then_put _ _ _ (((codes "group ") ++ decimal group.number) ++ codes " ") (printed_position group.position) (then_put _ _ _ ((codes "group ") ++ decimal group.number) (codes " ") (then_put _ _ _ (codes "group ") (decimal group.number) c.in_ok-put_all.ensures (rw (c.from.ensures, c.number.ensures) at c.in_ok-put_number.ensures)) c.in_ok-put_all-2.ensures) (rw (c.position.ensures) at c.in_ok-print_position.ensures)) c.put_all-3.ensures
