use Rattle.std.proofs.Common.{[], ◌∷◌, List, ap, map, refl}
use Rattle.std.proofs.lemmas.List.{drop_all}
use Rattle.serde_json.specs.View.{items_of}
use Rattle.serde_json.specs.Written.{items_text}
use Rattle.feed_check.specs.Checked.{CheckedValue}
use Rattle.json_pieces.proofs.TellLaws.{moves, ends_by}
use Rattle.check_said.specs.Json.{streams_from}
use Rattle.check_said.proofs.JsonLaws.{stream-at}
use Rattle.check_said.proofs.streams.put_streams.Goals as goal

pub loop-i-preserved : goal.loop-i-preserved
loop-i-preserved g c =
    moves _ _ _ _ _ _ _ refl
    (moves _ _ _ _ _ _ _ (stream-at (map (λ file. file.now) c.args.files.now) c.loop-i.later c.args.streams.now c.loop-i.i c.index-streams-i.result c.loop-i-test.true c.index-streams-i.is) c.loop-i.invariant c.put_comma_if.ensures)
    (rw c.file_name.ensures at c.put_stream.ensures)

pub returns : goal.returns
returns g c =
    ends_by _ _ _ _ _ (93 ∷ []) (ap (λ (l : List CheckedValue). items_text c.loop-i.later (items_of (streams_from (map (λ file. file.now) c.args.files.now) c.loop-i.i l))) (drop_all c.loop-i.i c.args.streams.now c.loop-i-test.false)) c.loop-i.invariant c.put-2.ensures
