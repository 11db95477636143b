use Rattle.std.proofs.Common.{map}
use Rattle.std.specs.Option.{option_copied}
use Rattle.json_pieces.specs.Pieces.{list_data}
use Rattle.json_pieces.proofs.TellLaws.{same_text, then_tells}
use Rattle.check_said.specs.Json.{note_data, passed_data, shared_if, streams_data, told_data}
use Rattle.check_said.proofs.JsonLaws.{whole-text}
use Rattle.check_said.proofs.told.put_whole.Goals as goal

pub returns : goal.returns
returns g c =
    let notes = list_data note_data c.args.notes.now in
    let rules = list_data passed_data c.args.rules.now in
    let streams = streams_data (map (λ file. file.now) c.args.files.now) c.args.streams.now in
    let told = told_data c.args.told.now c.args.notes.now in
    let touched = shared_if c.args.tables.now (option_copied c.args.shared) in
    same_text _ _ _ _ (whole-text c.args.noted notes rules streams told touched c.args.warned)
    (then_tells _ _ _ _ _ c.put_begin.ensures
    (then_tells _ _ _ _ _ c.put_notes.ensures
    (then_tells _ _ _ _ _ c.put.ensures
    (then_tells _ _ _ _ _ c.put_rules.ensures
    (then_tells _ _ _ _ _ c.put-2.ensures
    (then_tells _ _ _ _ _ c.put_streams.ensures
    (then_tells _ _ _ _ _ c.put-3.ensures
    (then_tells _ _ _ _ _ c.put_told.ensures
    (then_tells _ _ _ _ _ c.put-4.ensures
    (then_tells _ _ _ _ _ c.put_shared.ensures c.put_end.ensures))))))))))
