-- Both forms of a refusal tell the same.
use Rattle.std.proofs.Common.{◌≡◌, ◌∙◌, ℕ, List, [], ◌∷◌, ◌++◌, Option, None, Some, append_assoc, append-nil, option_map, refl, sym, ap}
use Rattle.std.specs.Prelude.{codes, decimal, string_bytes}
use Rattle.filter_rule.specs.declared.fault.PlanFault.{PlanFault}
use Rattle.filter_rule.specs.declared.fault.PlanFault.TheVariants as plans
use Rattle.source_feed.specs.FaultNumber.{cause_of}
use Rattle.source_feed.specs.declared.fault.FeedFault.{FeedFault}
use Rattle.source_feed.specs.declared.fault.FeedFault.TheVariants as feed
use Rattle.vevent.specs.declared.fault.EventFault.{EventFault}
use Rattle.vevent.specs.declared.fault.EventFault.TheVariants as events
use Rattle.refusal_json.specs.Details.{DetailValue, plain_details, told_before}
use Rattle.vrepl_main.specs.RefusalLine.{line_of}
use Rattle.vrepl_main.specs.Refusals.{cause_text, column_text, details_of, feed_details, feed_place, number_of, rule_text, workflow_details}
use Rattle.vrepl_main.specs.declared.refusal.CommandRefusal.{CommandRefusal}
use Rattle.vrepl_main.specs.declared.refusal.CommandRefusal.TheVariants.{Memory, Workflow, NoStream, FeedCount, NotReached, Feed, BadHex, BadScript, BadDump, Changed, CannotRead, CannotWrite}
use Rattle.vrepl_refusal.specs.Form.{FormsTellTheSame}
use Rattle.vrepl_refusal.specs.Told.{cause_told, column_told, feed_place_told, feed_told, named, numbered, told_of, workflow_told}

-- one thing
named-text : (word text : List ℕ) → 32 ∷ (word ++ 32 ∷ text) ≡ plain_details (named word text ∷ [])
named-text word text = sym (append-nil (32 ∷ (word ++ 32 ∷ text)))

numbered-text : (word : List ℕ) (n : ℕ) → 32 ∷ (word ++ 32 ∷ decimal n) ≡ plain_details (numbered word n ∷ [])
numbered-text word n = sym (append-nil (32 ∷ (word ++ 32 ∷ decimal n)))

-- two
column-text : (table column : List ℕ) → column_text table column ≡ plain_details (column_told table column)
column-text table column =
    ap (λ l. codes " table " ++ l) (append_assoc table (codes " column ") column ∙ ap (λ l. table ++ (codes " column " ++ l)) (sym (append-nil column)))

rule-text : (stream rule : ℕ) → rule_text stream rule ≡ plain_details (numbered (codes "stream") stream ∷ numbered (codes "rule") rule ∷ [])
rule-text stream rule = ap (λ l. codes " stream " ++ (decimal stream ++ (codes " rule " ++ l))) (sym (append-nil (decimal rule)))

-- a workflow
workflow-text : (fault : PlanFault) → workflow_details fault ≡ plain_details (workflow_told fault)
workflow-text (plans.NoSuchColumn table column) = column-text (string_bytes table) (string_bytes column)
workflow-text (plans.KeyType table column) = column-text (string_bytes table) (string_bytes column)
workflow-text (plans.BadRule stream rule) = rule-text stream rule
workflow-text (plans.ColumnsDiffer table) = named-text (codes "table") (string_bytes table)
workflow-text plans.Json = refl
workflow-text plans.Shape = refl
workflow-text plans.Limit = refl
workflow-text plans.Memory = refl

-- a feed
cause-text : (cause : Option ℕ) (rest : List DetailValue) → cause_text cause ++ plain_details rest ≡ plain_details (told_before (option_map cause_told cause) rest)
cause-text None rest = refl
cause-text (Some cause) rest = refl

place-of-event : (fault : EventFault) → feed_place (feed.Event fault) ≡ plain_details (told_before (feed_place_told (feed.Event fault)) [])
place-of-event (events.BadType kind) = numbered-text (codes "type") kind
place-of-event fault = refl

place-text : (fault : FeedFault) → feed_place fault ≡ plain_details (told_before (feed_place_told fault) [])
place-text (feed.Event fault) = place-of-event fault
place-text (feed.Diverged group) = numbered-text (codes "group") group
place-text fault = refl

feed-text : (fault : FeedFault) → feed_details fault ≡ plain_details (feed_told fault)
feed-text fault = ap (λ l. cause_text (cause_of fault) ++ l) (place-text fault) ∙ cause-text (cause_of fault) (told_before (feed_place_told fault) [])

-- all
details-text : (refusal : CommandRefusal) → details_of refusal ≡ plain_details (told_of refusal)
details-text (Workflow fault) = workflow-text fault
details-text (Feed fault) = feed-text fault
details-text (NotReached stream) = numbered-text (codes "stream") stream
details-text (BadScript line) = numbered-text (codes "line") line
details-text (BadDump line) = numbered-text (codes "line") line
details-text (Changed file) = named-text (codes "file") file.now
details-text (CannotRead file) = named-text (codes "file") file.now
details-text (CannotWrite file) = named-text (codes "file") file.now
details-text Memory = refl
details-text NoStream = refl
details-text FeedCount = refl
details-text BadHex = refl

pub forms_tell : FormsTellTheSame
forms_tell refusal = ap (line_of (number_of refusal)) (details-text refusal)
