use Rattle.std.proofs.Common.{ap, ◌∙◌, map, subst}
use Rattle.std.proofs.lemmas.List.{map-append}
use Rattle.std.specs.Arc.{arc_value}
use Rattle.source_feed.specs.Prepared.{IsPrepared}
use Rattle.apply_core.proofs.StreamLaws.{read-value, read-stream}
use Rattle.apply_core.proofs.stream.Stream.read.Goals as goal

pub invariant_of-self-2 : goal.invariant_of-self-2
invariant_of-self-2 c =
    read-stream c.steps_keep_boards_lawful.ensures.sound _ _ c.self.view_is _ _ c.self.invariant.stream (arc_value c.args.group) _
    (ap (map arc_value) c.in_ok-push.ensures.items ∙ map-append arc_value c.self.inside.list.items _) c.requires.new c.args.cursor c.requires.stands c.requires.allowed
    c.kept_rows_are_one_list.ensures.first_groups (subst IsPrepared c.deref.ensures c.know_group.ensures)

pub returns-clause-ok : goal.returns-clause-ok
returns-clause-ok c =
    read-value c.steps_keep_boards_lawful.ensures.sound _ _ c.self.view_is _ _ c.self.invariant.stream (arc_value c.args.group) _
    (ap (map arc_value) c.in_ok-push.ensures.items ∙ map-append arc_value c.self.inside.list.items _) c.requires.new c.args.cursor c.requires.stands c.requires.allowed
