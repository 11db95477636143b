use Rattle.std.proofs.Common.{true≢false, sym, ◌∙◌}
use Rattle.filter_rule.proofs.read.value_of.Goals as goal

pub returns-in-Err-clause-memory : goal.returns-in-Err-clause-memory
returns-in-Err-clause-memory c = λ is. c.in-Err.ensures.memory (c.is_memory.ensures.0 c.if-is_memory.true)

pub returns-in-Err-2-clause-no_json : goal.returns-in-Err-2-clause-no_json
returns-in-Err-2-clause-no_json c = λ is. c.in-Err.ensures.err (λ memory. true≢false (sym (c.is_memory.ensures.1 memory) ∙ c.if-is_memory.false))
