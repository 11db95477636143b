use Rattle.std.proofs.Common.{[]}
use Rattle.std.proofs.lemmas.Result.{err_from_is_err_and}
use Rattle.printing.proofs.PrintLaws.{adds_none_written, adding_breaks, first_breaks, prints_adds, then_adds}
use Rattle.printing.proofs.gathered.Gathered.put.Goals as goal

pub returns-in_err-finish : goal.returns-in_err-finish
returns-in_err-finish g c =
    let p = err_from_is_err_and c.from_residual.result c.from_residual.ensures.1 in
    rw p.1 (first_breaks _ _ c.args.self.now c.args.piece.now c.in_err-finish.ensures.printed)

pub returns-then-piece-gt-ROOM : goal.returns-then-piece-gt-ROOM
returns-then-piece-gt-ROOM g c =
    rw c.in_ok-finish.ensures.empty
    (then_adds c.put_all.result _ c.args.self.now _ [] _ [] [] c.args.piece.now
    (adds_none_written _ _ c.args.self.now c.in_ok-finish.ensures.printed)
    (prints_adds c.put_all.result _ _ c.args.piece.now c.put_all.ensures))

pub returns-in_err-make_room : goal.returns-in_err-make_room
returns-in_err-make_room g c =
    let p = err_from_is_err_and c.from_residual-in_err-make_room.result c.from_residual-in_err-make_room.ensures.1 in
    rw p.1 (adding_breaks _ _ c.args.self.now [] c.args.piece.now c.in_err-make_room.ensures.added)
