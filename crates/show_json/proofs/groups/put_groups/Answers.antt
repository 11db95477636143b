use Rattle.std.proofs.Common.{◌∙◌, ap}
use Rattle.std.proofs.lemmas.List.Concat.{flat_map-cons}
use Rattle.source_feed.specs.GroupValue.{GroupValue}
use Rattle.json_pieces.proofs.TellLaws.{starts, moves, ends}
use Rattle.show_json.specs.Private.Kept.{columns_in}
use Rattle.show_json.specs.Text.{group_data, json_line, json_text_of}
use Rattle.show_json.proofs.groups.put_groups.Goals as goal

pub loop-group-init : goal.loop-group-init
loop-group-init g c = rw (c.into_iter-group-iterator.ensures.into_iter_gives ∙ c.iter-group-items.ensures) (starts _ _)

pub loop-group-preserved : goal.loop-group-preserved
loop-group-preserved g c =
    let tables = columns_in c.args.tables.now in
    let parts = ap (json_text_of tables) c.in-Some.ensures.steps ∙ flat_map-cons (λ (group : GroupValue). json_line (group_data tables group)) c.in-Some.group c.next.new.self in
    moves _ _ _ _ _ _ _ parts c.loop-group.invariant c.put_group.ensures

pub returns : goal.returns
returns g c = ends _ _ _ _ (ap (json_text_of (columns_in c.args.tables.now)) c.in-None.ensures.steps.0) c.loop-group.invariant
