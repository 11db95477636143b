use Rattle.std.proofs.Common.{◌∙◌, sym}
use Rattle.std.specs.Arc.{arc_value}
use Rattle.std.specs.Str.{bytes_eq}
use Rattle.vrepl_transcribe.proofs.SourceLaws.{place_over}
use Rattle.vrepl_transcribe.proofs.source.place_of_shard.Goals as goal

pub returns : goal.returns
returns c = c.place_among.ensures ∙ sym (place_over (λ plan. bytes_eq plan.shard c.args.shard.now) arc_value c.args.plans.now)
