-- The steps of a log: what each of its events is to a transaction. Events that say nothing of one are none.
use Rattle.std.specs.Prelude.{◌≡◌, ℕ, if◌then◌else◌, List, [], ◌∷◌, Option, Some, None, Result, Ok, Err}
use Rattle.list_laws.specs.Outcome.{◌>>=◌}
use Rattle.item_readers.specs.Reading.{Reading}
use Rattle.log_events.specs.Event.{LogEvent}
use Rattle.log_events.specs.declared.fault.EventFault.{EventFault}
use Rattle.log_tables.specs.TableMap.{MapValue, map_value, map_at}
use Rattle.log_rows.specs.declared.change.RowsKind.{RowsKind}
use Rattle.log_rows.specs.Head.{HeadValue, head_value, head_at}
use Rattle.log_groups.specs.declared.class.EventClass.{EventClass}
use Rattle.log_groups.specs.declared.class.EventClass.TheVariants as class
use Rattle.log_groups.specs.declared.statement.Statement.{Statement}
use Rattle.log_groups.specs.declared.statement.Statement.TheVariants.{Passes, Unknown}
use Rattle.log_groups.specs.declared.step.Gtid as gtid_of
use Rattle.log_groups.specs.declared.step.Gtid.TheVariants as gtid
use Rattle.log_groups.specs.declared.step.Ending as ending_of
use Rattle.log_groups.specs.declared.step.Ending.TheVariants as ending
use Rattle.log_groups.specs.declared.step.Step as step_type
use Rattle.log_groups.specs.declared.step.Step.TheVariants as step
use Rattle.log_groups.specs.declared.fault.GroupFault.{GroupFault}
use Rattle.log_groups.specs.declared.fault.GroupFault.TheVariants.{Event, Statement as NotKnown, Refused}
use Rattle.log_groups.specs.Fault.{of_body, of_head}
use Rattle.log_groups.specs.Class.{class_of}
use Rattle.log_groups.specs.Statement.{statement_of}
use Rattle.log_groups.specs.Body.{QueryValue, query_value, query_at, XidValue, xid_value, prepared_at, MariaValue, maria_value, maria_at, MysqlValue, mysql_value, mysql_at}

-- the position of a transaction, as its server has it
pub data GtidValue : Type 0 where
  Maria : MariaValue → GtidValue
  Mysql : MysqlValue → GtidValue

abbrev pub gtid_value : gtid_of.Gtid → GtidValue
gtid_value (gtid.Maria g) = Maria (maria_value g)
gtid_value (gtid.Mysql g) = Mysql (mysql_value g)

-- how a transaction ends: by a commit or a rollback, prepared, or with what was prepared before
pub data EndingValue : Type 0 where
  Committed : EndingValue
  RolledBack : EndingValue
  Prepared : XidValue → EndingValue
  XaCommitted : EndingValue
  XaRolledBack : EndingValue

abbrev pub ending_value : ending_of.Ending → EndingValue
ending_value ending.Committed = Committed
ending_value ending.RolledBack = RolledBack
ending_value (ending.Prepared x) = Prepared (xid_value x)
ending_value ending.XaCommitted = XaCommitted
ending_value ending.XaRolledBack = XaRolledBack

-- a position, at which a transaction begins; which table a number stands for; rows of a table; an end; or a statement
pub data StepValue : Type 0 where
  Begin : GtidValue → StepValue
  Map : MapValue → StepValue
  Rows : RowsKind → HeadValue → StepValue
  Ends : EndingValue → StepValue
  Said : Statement → QueryValue → StepValue

abbrev pub step_value : step_type.Step → StepValue
step_value (step.Begin g) = Begin (gtid_value g)
step_value (step.Map m) = Map (map_value m)
step_value (step.Rows kind h) = Rows kind (head_value h)
step_value (step.Ends e) = Ends (ending_value e)
step_value (step.Said s q) = Said s (query_value q)

-- ---- of one event

-- a statement that isn't known may change rows
abbrev pub said : Statement → QueryValue → Result (Option StepValue) GroupFault
said Passes q = Ok None
said Unknown q = Err NotKnown
said s q = Ok (Some (Said s q))

-- of a class, by its body
abbrev pub step_by : EventClass → List ℕ → Result (Option StepValue) GroupFault
step_by class.Query body = of_body (query_at body) >>= λ q. said (statement_of q.text) q
step_by class.Xid body = Ok (Some (Ends Committed))
step_by class.Description body = Ok None
step_by class.TableMap body = of_body (map_at body) >>= λ m. Ok (Some (Map m))
step_by (class.Rows kind second) body = of_head (head_at kind second body) >>= λ h. Ok (Some (Rows kind h))
step_by class.MariaGtid body = of_body (maria_at body) >>= λ g. Ok (Some (Begin (Maria g)))
step_by class.MariaList body = Ok None
step_by class.MysqlGtid body = of_body (mysql_at body) >>= λ g. Ok (Some (Begin (Mysql g)))
step_by class.MysqlList body = Ok None
step_by class.XaPrepare body = of_body (prepared_at body) >>= λ p. Ok (Some (Ends (if p.one_phase then Committed else Prepared p.xid)))
step_by class.Skipped body = Ok None
step_by (class.Refused number) body = Err (Refused number)

-- what an event is to a transaction, if it is anything; or why it isn't read
unfoldable pub step_of : LogEvent → Result (Option StepValue) GroupFault
step_of event = step_by (class_of event.kind event.flags) event.body

-- ---- of the events of a log

-- a step, or what isn't read in the place of one
abbrev pub LogStep : Type 0
LogStep = Result StepValue GroupFault

abbrev pub put_step : Result (Option StepValue) GroupFault → List LogStep → List LogStep
put_step (Ok None) steps = steps
put_step (Ok (Some step)) steps = Ok step ∷ steps
put_step (Err fault) steps = Err fault ∷ steps

-- those of some events, and of the fault that ends them
unfoldable pub steps_in : List LogEvent → Option EventFault → List LogStep
steps_in [] None = []
steps_in [] (Some fault) = Err (Event fault) ∷ []
steps_in (event ∷ events) end = put_step (step_of event) (steps_in events end)

-- the steps of a log
abbrev pub steps_of : Reading LogEvent EventFault → List LogStep
steps_of r = steps_in r.items r.fault

-- What a call that gives the next step answers and leaves. In the place of a step that isn't read stands its fault.
abbrev pub NextStep : {X : Type 0} → (X → StepValue) → List LogStep → Result (Option X) GroupFault → List LogStep → Type 0
NextStep view old (Ok (Some x)) new = old ≡ Ok (view x) ∷ new
NextStep view old (Ok None) new = (old ≡ []) × (new ≡ old)
NextStep view old (Err fault) new = (rest : List LogStep) × (old ≡ Err fault ∷ rest)
