use Rattle.vindex.specs.RangeText.{key_range_of_text}
use Rattle.vindex.proofs.RangeAnswerLaws.{range-read, range-bad, range-refused, range-memory}
use Rattle.vindex.proofs.RangeLemmas.{reads_what_is_written}
use Rattle.vindex.proofs.key_ranges.KeyRange.parse.Goals as goal

pub returns-clause-read : goal.returns-clause-read
returns-clause-read c = range-read c.range_of_text.result (key_range_of_text c.args.text.now) c.range_of_text.ensures

pub returns-clause-bad_range : goal.returns-clause-bad_range
returns-clause-bad_range c = range-bad c.range_of_text.result (key_range_of_text c.args.text.now) c.range_of_text.ensures

pub returns-clause-refused : goal.returns-clause-refused
returns-clause-refused c = range-refused c.range_of_text.result (key_range_of_text c.args.text.now) c.range_of_text.ensures

pub returns-clause-memory : goal.returns-clause-memory
returns-clause-memory c = range-memory c.range_of_text.result (key_range_of_text c.args.text.now) c.range_of_text.ensures

pub returns-clause-grammar : goal.returns-clause-grammar
returns-clause-grammar c = reads_what_is_written c.args.text.now
