use Rattle.std.proofs.Common.{◌≡◌, ◌⊎◌, ◌<◌, List, length, Ok, subst}
use Rattle.std.specs.Prelude.{MatchOption}
use Rattle.source_feed.specs.GroupValue.{GroupValue}
use Rattle.source_feed.specs.Groups.{groups}
use Rattle.feed_bytes.specs.Cut.{IsCutBehind}
use Rattle.compaction.proofs.CutLaws.{cuts, loses_some}
use Rattle.compaction.proofs.cut.cut.Goals as goal

pub returns-then-branch-clause-cause : goal.returns-then-branch-clause-cause
returns-then-branch-clause-cause g c =
    let bytes = c.args.bytes.now in
    let number = c.args.number in
    let source = c.source_for-source.result in
    let f = c.in-Some.cut in
    let there =
    subst (λ o. (all : List GroupValue) → groups bytes source ≡ Ok all → MatchOption o ((number ≡ 0) ⊎ (length all < number)) (λ g. IsCutBehind bytes source number g.fields.items g.place.now g.others g.rest.now)) c.in-Some.is
    c.in_ok-cut.ensures in
    let found = subst (λ s. (all : List GroupValue) → groups bytes s ≡ Ok all → IsCutBehind bytes s number f.fields.items f.place.now f.others f.rest.now) c.source_for-source.ensures there in
    let said = rw c.deref-2.ensures.value at c.in_ok-would_lose.ensures.lost in
    loses_some c.args.feed.now bytes c.args.unknown number f.fields.items f.place.now f.others f.rest.now c.in_ok-would_lose.field-0 c.requires found (λ all are. said all f.place.now f.others f.rest.now are (found all are)) c.if-branch.true

pub returns-clause-cuts : goal.returns-clause-cuts
returns-clause-cuts g c =
    let bytes = c.args.bytes.now in
    let number = c.args.number in
    let source = c.source_for-source.result in
    let f = c.in-Some.cut in
    let there =
    subst (λ o. (all : List GroupValue) → groups bytes source ≡ Ok all → MatchOption o ((number ≡ 0) ⊎ (length all < number)) (λ g. IsCutBehind bytes source number g.fields.items g.place.now g.others g.rest.now)) c.in-Some.is
    c.in_ok-cut.ensures in
    let found = subst (λ s. (all : List GroupValue) → groups bytes s ≡ Ok all → IsCutBehind bytes s number f.fields.items f.place.now f.others f.rest.now) c.source_for-source.ensures there in
    let said = rw c.deref-2.ensures.value at c.in_ok-would_lose.ensures.lost in
    cuts c.args.feed.now bytes c.args.unknown number f.fields.items f.place.now f.others f.rest.now c.in_ok-would_lose.field-0 c.requires found (λ all are. said all f.place.now f.others f.rest.now are (found all are)) c.if-branch.false
