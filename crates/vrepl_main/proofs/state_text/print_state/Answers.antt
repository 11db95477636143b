use Rattle.std.proofs.Common.{[], ◌∷◌, ◌++◌}
use Rattle.std.proofs.lemmas.Result.{err_from_is_err_and}
use Rattle.std.specs.Prelude.{codes}
use Rattle.std.specs.Option.{option_map_or}
use Rattle.vrepl_main.specs.AnswerText.{progress_text, snapshot_text, tables_done_text, place_text}
use Rattle.vrepl_main.proofs.AddLaws.{first_stops, then_prints, then_put, then_stops}
use Rattle.vrepl_main.proofs.state_text.print_state.Goals as goal

pub returns-in_err-print_progress : goal.returns-in_err-print_progress
returns-in_err-print_progress g c =
    let s = c.args.stream in
    let now = c.args.now.now in
    let t2 = (progress_text s now) ++ (codes " snapshot ") in
    let t3 = t2 ++ (snapshot_text now.snapshot) in
    let t4 = t3 ++ (tables_done_text now) in
    let t5 = t4 ++ (codes " at ") in
    let t6 = t5 ++ (place_text (option_map_or (λ set. set.now) c.args.position [])) in
    let p = err_from_is_err_and c.from_residual.result c.from_residual.ensures.1 in
    rw p.1 (first_stops _ _ t6 (10 ∷ []) (first_stops _ _ t5 (place_text (option_map_or (λ set. set.now) c.args.position [])) (first_stops _ _ t4 (codes " at ") (first_stops _ _ t3 (tables_done_text now) (first_stops _ _ t2 (snapshot_text now.snapshot) (first_stops _ _ (progress_text s now) (codes " snapshot ") c.in_err-print_progress.ensures))))))

pub returns-in_err-put_all : goal.returns-in_err-put_all
returns-in_err-put_all g c =
    let s = c.args.stream in
    let now = c.args.now.now in
    let t2 = (progress_text s now) ++ (codes " snapshot ") in
    let t3 = t2 ++ (snapshot_text now.snapshot) in
    let t4 = t3 ++ (tables_done_text now) in
    let t5 = t4 ++ (codes " at ") in
    let t6 = t5 ++ (place_text (option_map_or (λ set. set.now) c.args.position [])) in
    let p = err_from_is_err_and c.from_residual-in_err-put_all.result c.from_residual-in_err-put_all.ensures.1 in
    rw p.1 (first_stops _ _ t6 (10 ∷ []) (first_stops _ _ t5 (place_text (option_map_or (λ set. set.now) c.args.position [])) (first_stops _ _ t4 (codes " at ") (first_stops _ _ t3 (tables_done_text now) (first_stops _ _ t2 (snapshot_text now.snapshot) (then_stops _ _ _ (progress_text s now) (codes " snapshot ") c.in_ok-print_progress.ensures c.in_err-put_all.ensures))))))

pub returns-in_err-print_snapshot : goal.returns-in_err-print_snapshot
returns-in_err-print_snapshot g c =
    let s = c.args.stream in
    let now = c.args.now.now in
    let t2 = (progress_text s now) ++ (codes " snapshot ") in
    let t3 = t2 ++ (snapshot_text now.snapshot) in
    let t4 = t3 ++ (tables_done_text now) in
    let t5 = t4 ++ (codes " at ") in
    let t6 = t5 ++ (place_text (option_map_or (λ set. set.now) c.args.position [])) in
    let p = err_from_is_err_and c.from_residual-in_err-print_snapshot.result c.from_residual-in_err-print_snapshot.ensures.1 in
    rw p.1 (first_stops _ _ t6 (10 ∷ []) (first_stops _ _ t5 (place_text (option_map_or (λ set. set.now) c.args.position [])) (first_stops _ _ t4 (codes " at ") (first_stops _ _ t3 (tables_done_text now) (then_stops _ _ _ t2 (snapshot_text now.snapshot) (then_put _ _ _ (progress_text s now) (codes " snapshot ") c.in_ok-print_progress.ensures c.in_ok-put_all.ensures) (rw (c.snapshot.ensures) at c.in_err-print_snapshot.ensures))))))

pub returns-in_err-print_tables : goal.returns-in_err-print_tables
returns-in_err-print_tables g c =
    let s = c.args.stream in
    let now = c.args.now.now in
    let t2 = (progress_text s now) ++ (codes " snapshot ") in
    let t3 = t2 ++ (snapshot_text now.snapshot) in
    let t4 = t3 ++ (tables_done_text now) in
    let t5 = t4 ++ (codes " at ") in
    let t6 = t5 ++ (place_text (option_map_or (λ set. set.now) c.args.position [])) in
    let p = err_from_is_err_and c.from_residual-in_err-print_tables.result c.from_residual-in_err-print_tables.ensures.1 in
    rw p.1 (first_stops _ _ t6 (10 ∷ []) (first_stops _ _ t5 (place_text (option_map_or (λ set. set.now) c.args.position [])) (first_stops _ _ t4 (codes " at ") (then_stops _ _ _ t3 (tables_done_text now) (then_put _ _ _ t2 (snapshot_text now.snapshot) (then_put _ _ _ (progress_text s now) (codes " snapshot ") c.in_ok-print_progress.ensures c.in_ok-put_all.ensures) (rw (c.snapshot.ensures) at c.in_ok-print_snapshot.ensures)) c.in_err-print_tables.ensures))))

pub returns-in_err-put_all-2 : goal.returns-in_err-put_all-2
returns-in_err-put_all-2 g c =
    let s = c.args.stream in
    let now = c.args.now.now in
    let t2 = (progress_text s now) ++ (codes " snapshot ") in
    let t3 = t2 ++ (snapshot_text now.snapshot) in
    let t4 = t3 ++ (tables_done_text now) in
    let t5 = t4 ++ (codes " at ") in
    let t6 = t5 ++ (place_text (option_map_or (λ set. set.now) c.args.position [])) in
    let p = err_from_is_err_and c.from_residual-in_err-put_all-2.result c.from_residual-in_err-put_all-2.ensures.1 in
    rw p.1 (first_stops _ _ t6 (10 ∷ []) (first_stops _ _ t5 (place_text (option_map_or (λ set. set.now) c.args.position [])) (then_stops _ _ _ t4 (codes " at ") (then_put _ _ _ t3 (tables_done_text now) (then_put _ _ _ t2 (snapshot_text now.snapshot) (then_put _ _ _ (progress_text s now) (codes " snapshot ") c.in_ok-print_progress.ensures c.in_ok-put_all.ensures) (rw (c.snapshot.ensures) at c.in_ok-print_snapshot.ensures)) c.in_ok-print_tables.ensures) c.in_err-put_all-2.ensures)))

pub returns-in_err-print_place : goal.returns-in_err-print_place
returns-in_err-print_place g c =
    let s = c.args.stream in
    let now = c.args.now.now in
    let t2 = (progress_text s now) ++ (codes " snapshot ") in
    let t3 = t2 ++ (snapshot_text now.snapshot) in
    let t4 = t3 ++ (tables_done_text now) in
    let t5 = t4 ++ (codes " at ") in
    let t6 = t5 ++ (place_text (option_map_or (λ set. set.now) c.args.position [])) in
    let p = err_from_is_err_and c.from_residual-in_err-print_place.result c.from_residual-in_err-print_place.ensures.1 in
    rw p.1 (first_stops _ _ t6 (10 ∷ []) (then_stops _ _ _ t5 (place_text (option_map_or (λ set. set.now) c.args.position [])) (then_put _ _ _ t4 (codes " at ") (then_put _ _ _ t3 (tables_done_text now) (then_put _ _ _ t2 (snapshot_text now.snapshot) (then_put _ _ _ (progress_text s now) (codes " snapshot ") c.in_ok-print_progress.ensures c.in_ok-put_all.ensures) (rw (c.snapshot.ensures) at c.in_ok-print_snapshot.ensures)) c.in_ok-print_tables.ensures) c.in_ok-put_all-2.ensures) c.in_err-print_place.ensures))

pub returns : goal.returns
returns g c =
    let s = c.args.stream in
    let now = c.args.now.now in
    let t2 = (progress_text s now) ++ (codes " snapshot ") in
    let t3 = t2 ++ (snapshot_text now.snapshot) in
    let t4 = t3 ++ (tables_done_text now) in
    let t5 = t4 ++ (codes " at ") in
    let t6 = t5 ++ (place_text (option_map_or (λ set. set.now) c.args.position [])) in
    then_prints c.put_all-3.result _ _ _ t6 (10 ∷ []) (then_put _ _ _ t5 (place_text (option_map_or (λ set. set.now) c.args.position [])) (then_put _ _ _ t4 (codes " at ") (then_put _ _ _ t3 (tables_done_text now) (then_put _ _ _ t2 (snapshot_text now.snapshot) (then_put _ _ _ (progress_text s now) (codes " snapshot ") c.in_ok-print_progress.ensures c.in_ok-put_all.ensures) (rw (c.snapshot.ensures) at c.in_ok-print_snapshot.ensures)) c.in_ok-print_tables.ensures) c.in_ok-put_all-2.ensures) c.in_ok-print_place.ensures) c.put_all-3.ensures
