use Rattle.std.specs.Arc.{arc_value}
use Rattle.std.proofs.Common.{rules}
use Rattle.source_feed.specs.Planned.{source_of}
use Rattle.feed_text.specs.Says.{Says}
use Rattle.feed_text.proofs.UnderLaws.{under_all}
use Rattle.feed_text.proofs.reading.says_under.Goals.{in-Ok, in-Err-Memory, in-Err}
use Rattle.feed_text.proofs.reading.says_under.Goals as goal

pub returns : goal.returns
returns c = elim c.match-open.branch [
  | in-Ok w ↦ let says : Says (source_of (arc_value c.args.plan.now)) c.args.feed.now c.args.text.now = search rules in
      rw w.result-is (record { says = says; under = under_all (arc_value c.args.plan.now) c.args.feed.now says.all w.in-Ok.field-0.groups says.read w.in-Ok.ensures.groups })
  | in-Err-Memory w ↦ rw w.result-is tt
  | in-Err w ↦ rw w.result-is tt
]
