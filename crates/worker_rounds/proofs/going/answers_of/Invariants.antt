use Rattle.std.proofs.Common.{◌≡◌, ◌++◌, ◌≤◌, length, vec_len}
use Rattle.std.specs.Vec.{vec_capacity}
use Rattle.std.specs.Vec.Iter.{into_iter_items}
use Rattle.worker_rounds.specs.Private.OnRound.{AreAnswersBy}
use Rattle.worker_rounds.proofs.going.answers_of.Given as goal

-- the answers of the stops so far; these and those to come are all
abbrev pub invariant-loop-stop : goal.invariant-loop-stop
invariant-loop-stop l = record {
  whole : l.yielded ++ into_iter_items l.stop-iterator ≡ l.fn.stopped.items;
  long : l.s ≡ length l.yielded;
  len : vec_len l.answers ≡ l.s;
  room : length l.feeds ≤ vec_capacity l.answers;
  so_far : AreAnswersBy l.feeds l.board l.yielded l.answers.items;
}
