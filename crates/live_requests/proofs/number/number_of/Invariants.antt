use Rattle.std.proofs.Common.{◌≡◌, ◌<◌, ◌^◌, drop}
use Rattle.std.specs.Option.{option_and_then}
use Rattle.live_requests.specs.Requests.{number_continued, number_of, small}
use Rattle.live_requests.proofs.number.number_of.Given as goal

-- the digits still to come are behind the value so far
abbrev pub invariant-loop-digit : goal.invariant-loop-digit
invariant-loop-digit l = record {
  fits : l.value < 2 ^ 32;
  rest : option_and_then small (number_continued l.value (drop l.digit-index l.word)) ≡ number_of l.word;
}
