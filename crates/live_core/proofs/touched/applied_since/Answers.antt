use Rattle.std.proofs.Common.{slice_get, rules}
use Rattle.std.specs.Arc.{arc_value}
use Rattle.live_core.proofs.TouchedLaws.{since-mapped}
use Rattle.live_core.proofs.touched.applied_since.Goals as goal

pub returns : goal.returns
returns c =
    since-mapped arc_value (slice_get c.args.board.now.streams c.args.s) c.args.count _ c.in-Ok.at c.in-Ok-read_list.list.now (search rules) c.in-Ok.ensures.state c.in-Ok-read_list.ensures.list c.requires.applied
