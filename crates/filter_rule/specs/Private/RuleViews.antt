-- What the form of a rule is, apart from where its texts lie.
use Rattle.filter_text.specs.Views.{rows_said, scope_said}
use Rattle.filter_rule.specs.Rules.{RuleForm as FormSaid}
use Rattle.filter_rule.specs.declared.rule.RuleForm.{RuleForm}

abbrev pub form_seen : RuleForm → FormSaid
form_seen form = record { scope = scope_said form.scope; columns = form.columns; rows = rows_said form.rows }
