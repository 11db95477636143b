use Rattle.std.proofs.Common.{◌≡◌, drop}
use Rattle.std.specs.List.{list_all}
use Rattle.log_feed.specs.Words.{is_plain_byte}
use Rattle.log_feed.proofs.words.are_plain.Given as goal

abbrev pub invariant-loop-byte : goal.invariant-loop-byte
invariant-loop-byte l = list_all is_plain_byte (drop l.byte-index l.name) ≡ list_all is_plain_byte l.name
