-- The first rule that matches a table counts (the Vitess filter rules).
use Rattle.std.specs.Prelude.{◌≡◌, ℕ, ◌+◌, ◌||◌, List, [], ◌∷◌, Bool, Option, Some, None, Result, Ok, codes, MatchOption, slice_get, if◌then◌else◌}
use Rattle.std.specs.Str.{bytes_eq}
use Rattle.filter_rule.specs.Document.{RuleSaid, StreamSaid, DocumentSaid, document_of}
use Rattle.list_laws.specs.Outcome.{◌>>=◌}
use Rattle.filter_rule.specs.Faults.{Fault}
use Rattle.filter_rule.specs.PlanTable.{TableValue}
use Rattle.filter_rule.specs.PlanValue.{PlanValue}
use Rattle.filter_rule.specs.Reading.{json_of}
use Rattle.filter_rule.specs.Rules.{RuleForm, form_of, decide}
use Rattle.filter_rule.specs.declared.decision.Decision.{Decision}
use Rattle.filter_rule.specs.declared.decision.Decision.TheVariants.{NoRule}

-- a rule matches a table by its name, or every table by `/.*`
abbrev pub is_match : RuleSaid → List ℕ → Bool
is_match r table = bytes_eq r.matches (codes "/.*") || bytes_eq table r.matches

-- the first rule that matches a table, with its number, these rules being numbered from n
abbrev pub first_match : ℕ → List RuleSaid → List ℕ → Option (ℕ × RuleSaid)
first_match n [] table = None
first_match n (r ∷ rs) table = if is_match r table then Some (n, r) else first_match (n + 1) rs table

-- a rule decides a table so
pub record Decides (stream n : ℕ) (r : RuleSaid) (t : TableValue) (d : Decision) : Type 0 where
  pub form : RuleForm
  pub formed : form_of stream n r ≡ Ok form
  pub decided : decide stream n form.columns form.rows t ≡ Ok d

-- a decision is that of the first rule that matches the table, and there is none where no rule does
abbrev pub IsByFirst : ℕ → ℕ → List RuleSaid → TableValue → Decision → Type 0
IsByFirst stream n rs t d = MatchOption (first_match n rs t.name) (d ≡ NoRule) (λ p. Decides stream p.0 p.1 t d)

-- each table's decision is that of the first rule that matches it
abbrev pub AreByFirst : ℕ → List TableValue → List RuleSaid → List Decision → Type 0
AreByFirst stream tables rs ds = (i : ℕ) (t : TableValue) (d : Decision) → slice_get tables i ≡ Some t → slice_get ds i ≡ Some d → IsByFirst stream 0 rs t d

-- the document that a text says
abbrev pub document_in : List ℕ → Result DocumentSaid Fault
document_in text = json_of text >>= document_of

-- The plans of a text have for each stream, in order, the decisions of the first rules that match.
abbrev pub FollowFirstRules : List ℕ → List PlanValue → Type 0
FollowFirstRules text plans =
    (d : DocumentSaid) → document_in text ≡ Ok d → (i : ℕ) (s : StreamSaid) (p : PlanValue) → slice_get d.streams i ≡ Some s → slice_get plans i ≡ Some p
    → AreByFirst i p.tables s.rules p.decisions
