use Rattle.std.proofs.Common.{◌++◌, refl, ap, ◌∙◌}
use Rattle.std.proofs.lemmas.Result.{err_from_is_err_and}
use Rattle.hex.specs.Hex.{encode_lower}
use Rattle.printing.proofs.PrintLaws.{adding_moves, adding_stops, adding_last, hex-append}
use Rattle.printing.proofs.gathered.Gathered.put_hex_parts.Goals as goal

pub returns-in_err-put_hex_part : goal.returns-in_err-put_hex_part
returns-in_err-put_hex_part g c =
    let part = c.split_at.result.0.now in
    let behind = c.split_at.result.1.now in
    let parts = ap encode_lower {x = c.loop-rest.rest.now} {y = part ++ behind} c.split_at.ensures.by_index.0 ∙ hex-append part behind in
    let p = err_from_is_err_and c.from_residual.result c.from_residual.ensures.1 in
    rw p.1 (adding_stops _ _ _ _ _ _ _ _ _ parts c.loop-rest.invariant c.in_err-put_hex_part.ensures)

pub loop-rest-preserved : goal.loop-rest-preserved
loop-rest-preserved g c =
    let part = c.split_at.result.0.now in
    let behind = c.split_at.result.1.now in
    let parts = ap encode_lower {x = c.loop-rest.rest.now} {y = part ++ behind} c.split_at.ensures.by_index.0 ∙ hex-append part behind in
    adding_moves _ _ _ _ _ _ _ _ _ _ parts c.loop-rest.invariant c.in_ok-put_hex_part.ensures

pub returns : goal.returns
returns g c =
    adding_last c.put_hex_part-2.result _ _ _ _ _ _ _ _ (encode_lower c.loop-rest.rest.now) refl c.loop-rest.invariant c.put_hex_part-2.ensures
