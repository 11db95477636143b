use Rattle.std.proofs.Common.{sym, ◌∙◌}
use Rattle.std.proofs.lemmas.Result.{err_from_is_err_and}
use Rattle.gtid_set.specs.declared.fault.GtidFault.TheVariants.{Memory}
use Rattle.gtid_set.specs.Inner.Kept.{intervals_listed}
use Rattle.gtid_set.proofs.Parsed.{IsParsed, is_parsed, refused, each-within, same_fault, fault_same, no_fault}
use Rattle.gtid_set.proofs.set.GtidSet.parse.Goals as goal

pub returns-in_err-named-clause-exact : goal.returns-in_err-named-clause-exact
returns-in_err-named-clause-exact c =
    let p = err_from_is_err_and c.from_residual.result c.from_residual.ensures.1 in
    rw (p.1, p.2) (refused c.in_err-named.field-0.0 c.args.text.now c.as_bytes.result.now c.as_bytes.ensures.value c.in_err-named.ensures.refused).exact

pub returns-in_err-named-clause-every_fault : goal.returns-in_err-named-clause-every_fault
returns-in_err-named-clause-every_fault c =
    let e = c.in_err-named.field-0.0 in
    let r = refused e c.args.text.now c.as_bytes.result.now c.as_bytes.ensures.value c.in_err-named.ensures.refused in
    let p = err_from_is_err_and c.from_residual.result c.from_residual.ensures.1 in
    rw (p.1, p.2) (λ f q. fault_same e f (r.every_fault f q))

pub returns-in_err-named-clause-memory : goal.returns-in_err-named-clause-memory
returns-in_err-named-clause-memory c =
    let e = c.in_err-named.field-0.0 in
    let r = refused e c.args.text.now c.as_bytes.result.now c.as_bytes.ensures.value c.in_err-named.ensures.refused in
    let p = err_from_is_err_and c.from_residual.result c.from_residual.ensures.1 in
    rw (p.1, p.2) (λ q. r.memory (same_fault e Memory q))

pub merged-requires : goal.merged-requires
merged-requires c = each-within c.as_bytes.result.now (intervals_listed c.in_ok-named.named) c.in_ok-named.ensures.named

parsed : (c : goal.After-merged) → IsParsed c.args.text.now (intervals_listed c.merged.result)
parsed c = is_parsed c.args.text.now c.as_bytes.result.now (intervals_listed c.in_ok-named.named) (intervals_listed c.merged.result) c.as_bytes.ensures.value c.in_ok-named.ensures.named c.merged.ensures

pub invariant_of-result : goal.invariant_of-result
invariant_of-result c = (parsed c).canonical

pub returns-clause-exact : goal.returns-clause-exact
returns-clause-exact c = (parsed c).exact

pub returns-clause-every_fault : goal.returns-clause-every_fault
returns-clause-every_fault c = λ f q. absurd (no_fault (intervals_listed c.merged.result) f (sym (parsed c).exact ∙ q))

pub returns-clause-pairs : goal.returns-clause-pairs
returns-clause-pairs c = (parsed c).pairs

pub returns-clause-canonical : goal.returns-clause-canonical
returns-clause-canonical c = (parsed c).canonical
