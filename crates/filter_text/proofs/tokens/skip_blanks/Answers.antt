use Rattle.filter_text.proofs.CutLaws.{blank_boundary, skipped_same, skipped_shows, skipped_is}
use Rattle.filter_text.proofs.tokens.skip_blanks.Goals as goal

pub split_at-requires : goal.split_at-requires
split_at-requires c = blank_boundary c.args.text.now c.as_bytes.result.now c.blank_len.result c.utf8.text c.as_bytes.ensures.value c.blank_len.ensures

pub returns-clause-same : goal.returns-clause-same
returns-clause-same c = skipped_same c.args.text.now c.as_bytes.result.now c.split_at.result.1.now c.blank_len.result c.as_bytes.ensures.value c.blank_len.ensures c.split_at.ensures.back

pub returns-clause-shown : goal.returns-clause-shown
returns-clause-shown c = skipped_shows c.args.text.now c.as_bytes.result.now c.split_at.result.1.now c.blank_len.result c.as_bytes.ensures.value c.blank_len.ensures c.split_at.ensures.back

pub returns-clause-value : goal.returns-clause-value
returns-clause-value c = skipped_is c.args.text.now c.as_bytes.result.now c.split_at.result.1.now c.blank_len.result c.as_bytes.ensures.value c.blank_len.ensures c.split_at.ensures.back
