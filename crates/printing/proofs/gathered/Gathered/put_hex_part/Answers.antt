use Rattle.std.proofs.Common.{[]}
use Rattle.std.proofs.lemmas.Result.{err_from_is_err_and}
use Rattle.hex.specs.Hex.{encode_lower}
use Rattle.printing.proofs.PrintLaws.{adding_breaks}
use Rattle.printing.proofs.gathered.Gathered.put_hex_part.Goals as goal

pub returns-in_err-make_room : goal.returns-in_err-make_room
returns-in_err-make_room g c =
    let p = err_from_is_err_and c.from_residual.result c.from_residual.ensures.1 in
    rw p.1 (adding_breaks _ _ c.args.self.now [] (encode_lower c.args.part.now) c.in_err-make_room.ensures.added)
