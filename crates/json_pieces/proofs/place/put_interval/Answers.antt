use Rattle.std.proofs.Common.{[], ◌∷◌, ◌++◌}
use Rattle.std.specs.Prelude.{decimal}
use Rattle.json.specs.Print.{escape}
use Rattle.json_pieces.specs.Private.Intervals.{last_behind, uuid_behind}
use Rattle.json_pieces.proofs.TellLaws.{same_text, then_tells}
use Rattle.json_pieces.proofs.TextLaws.{escaped-interval}
use Rattle.json_pieces.proofs.place.put_interval.Goals as goal

pub returns : goal.returns
returns g c =
    let i = c.args.interval.now in
    let number = escape (decimal i.first) in
    let last = escape (last_behind i.first i.last) in
    same_text _ _ _ _ (escaped-interval c.args.before i)
    (then_tells _ _ _ (escape (uuid_behind c.args.before i)) (escape (58 ∷ []) ++ (number ++ last)) c.put_uuid.ensures
    (then_tells _ _ _ (escape (58 ∷ [])) (number ++ last) c.put_escaped.ensures
    (then_tells _ _ _ number last c.put_digits.ensures c.put_last.ensures)))
