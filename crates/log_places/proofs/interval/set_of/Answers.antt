use Rattle.std.proofs.Common.{◌∙◌}
use Rattle.log_places.proofs.SpanLaws.{set_read}
use Rattle.log_places.proofs.interval.set_of.Goals as goal

pub returns-in-Ok : goal.returns-in-Ok
returns-in-Ok c = set_read c.printed_text_reads_back.ensures.plain c.args.interval.now _ _ c.requires (c.as_str.ensures.value ∙ c.in_ok-text.ensures.ok) c.in-Ok.ensures.exact
