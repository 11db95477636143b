use Rattle.std.proofs.Common.{◌≡◌, length, map}
use Rattle.std.specs.Arc.{arc_value}
use Rattle.live_core.specs.Live.{AreOfSources}
use Rattle.live_opening.proofs.BegunLaws.{AtEach, IsBegunAt}
use Rattle.live_opening.proofs.begun.begin_all.Given as goal

-- the first feeds are begun
abbrev pub invariant-loop-s : goal.invariant-loop-s
invariant-loop-s l = record {
  feeds : length l.feeds.items ≡ l.s;
  many : length l.sources.items ≡ l.s;
  sources : AreOfSources l.feeds.items l.sources.items;
  begun : AtEach (IsBegunAt (map arc_value l.plans) (map (λ bytes. bytes.items) l.come)) l.feeds.items l.sources.items;
}
