use Rattle.std.proofs.Common.{◌≡◌, List, ◌∷◌, Option, None, Some, Result, Err, IfSome, ap, ◌∙◌}
use Rattle.std.proofs.lemmas.Result.{err_from_is_err_and}
use Rattle.proto_wire.specs.Reading.{Reading}
use Rattle.list_laws.specs.Outcome.{◌>>=◌, unless, IsFault, Refuses}
use Rattle.vevent.specs.EventValue.{EventValue}
use Rattle.vevent.specs.declared.fault.EventFault.{EventFault}
use Rattle.source_feed.specs.declared.fault.FeedFault.{FeedFault}
use Rattle.source_feed.specs.FaultNumber.{meant_of}
use Rattle.source_feed.specs.SourceValue.{SourceValue}
use Rattle.source_feed.specs.EventList.{end_of_message}
use Rattle.source_feed.specs.PastEvents.{PastEvents}
use Rattle.source_feed.specs.Groups.{fault_at}
use Rattle.source_feed.specs.Private.EventByEvent.{past_behind}
use Rattle.source_feed.proofs.groups.put_message.Goals as goal

-- an event that is refused is what refuses all of them
refused_event : (fault : FeedFault) (source : SourceValue) (whole : Result PastEvents FeedFault) (history : PastEvents) (event : EventValue) (old new : Reading EventValue EventFault)
    → whole ≡ past_behind source history old.items (end_of_message old.fault) → old.items ≡ event ∷ new.items → IsFault meant_of fault (fault_at source history event) → Refuses meant_of fault whole
refused_event fault source whole history event old new w first is = by (meant_of fault) is
  where
    by : (o : Option FeedFault) → IfSome o (λ f. fault_at source history event ≡ Some f) → IfSome o (λ f. whole ≡ Err f)
    by None h = tt
    by (Some f) h =
        w ∙ ap (λ (items : List EventValue). past_behind source history items (end_of_message old.fault)) first
        ∙ ap (λ (one : Option FeedFault). unless one >>= λ _. past_behind source (event ∷ history) new.items (end_of_message old.fault)) h

pub returns-in_err-put-clause-meaning : goal.returns-in_err-put-clause-meaning
returns-in_err-put-clause-meaning c = λ base earlier m.
    let before = c.loop-event.invariant.meaning base earlier m in
    let event = rw c.in-Some.is at c.in_ok-event.ensures in
    let p = err_from_is_err_and c.from_residual-in_err-put.result c.from_residual-in_err-put.ensures.1 in
    rw (p.1, p.2)
    (refused_event c.in_err-put.field-0.0 c.args.source.now _ before.0 _ c.loop-event.events c.next_event.new.self before.1 event.0 (c.in_err-put.ensures.meaning base before.0 before.2))
