use Rattle.std.proofs.Common.{[], ◌∷◌, List, ℕ, map, subst}
use Rattle.serde_json.specs.Written.{compact_text}
use Rattle.printing.specs.Printing.{Prints}
use Rattle.json_pieces.specs.Pieces.{list_data}
use Rattle.json_pieces.proofs.TellLaws.{then_tells}
use Rattle.check_said.specs.Json.{json_line, note_data, passed_data, shared_if, streams_data, told_data, whole_data}
use Rattle.check_said.proofs.JsonLaws.{told-from, whole-same}
use Rattle.check_said.proofs.told.CheckJson.print.Goals as goal

pub returns : goal.returns
returns g c =
    let j = c.self.inside in
    let files = map (λ file. file.now) j.files.now in
    let whole = whole_data j.noted (list_data note_data j.notes.items) (list_data passed_data j.rules.items) (streams_data files j.streams.items) (told_data j.told.items j.notes.items) (shared_if j.tables.now j.shared) j.warned in
    let told = told-from (g.O.Out.written c.args.out.now) c.new-line.result _ _ (compact_text whole) c.new-line.ensures
    (whole-same j.noted _ j.notes.items _ j.rules.items files _ j.streams.items _ j.told.items j.tables.now _ j.shared j.warned c.deref.ensures.value c.deref-2.ensures.value c.deref-3.ensures.value c.deref-4.ensures.value c.as_ref.ensures.value)
    c.put_whole.ensures in
    subst (λ (text : List ℕ). Prints c.finish.result (g.O.Out.written c.args.out.now) (g.O.Out.written c.finish.new.out) text) c.self.view_is
    (c.finish.ensures (g.O.Out.written c.args.out.now) (json_line whole) (then_tells _ _ _ (compact_text whole) (10 ∷ []) told c.put.ensures))
