use Rattle.std.proofs.Common.{List, take, map, sym, ap, ◌∙◌}
use Rattle.std.specs.Arc.{arc_value}
use Rattle.std.specs.List.{take-map}
use Rattle.source_feed.specs.Touches.{PreparedValue}
use Rattle.stream_worker.specs.Outlines.{Outlined}
use Rattle.stream_worker.proofs.OutlinesStayTrue.{outlined}
use Rattle.stream_worker.proofs.outline.Outline.keep.Goals as goal

pub returns : goal.returns
returns c =
    ap (λ (list : List PreparedValue). outlined list c.self.inside.marks) (ap (map arc_value) c.truncate.ensures.items ∙ sym (take-map arc_value c.args.read c.self.inside.list.items))
    ∙ ap (λ (o : Outlined). outlined (take c.args.read o.list) o.marks) c.self.view_is
