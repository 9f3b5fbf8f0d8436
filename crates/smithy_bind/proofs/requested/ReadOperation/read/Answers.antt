use Rattle.std.proofs.Common.{◌≡◌, true, false, rules}
use Rattle.smithy_json.specs.JsonView.{view}
use Rattle.smithy_schema.specs.References.{schema_of}
use Rattle.smithy_binding.specs.Checked.{checked_input}
use Rattle.smithy_bind.proofs.RequestedLemmas.{operation_so, operation_none, operation_refused}
use Rattle.smithy_bind.proofs.requested.ReadOperation.read.Goals as goal

pub returns-in_err-common-clause-value : goal.returns-in_err-common-clause-value
returns-in_err-common-clause-value c = operation_refused (view c.args.job.now) c.in_err-common.field-0.0 c.from_residual.result (search rules) c.in_err-common.ensures.value

pub returns-then-not-branch-clause-value : goal.returns-then-not-branch-clause-value
returns-then-not-branch-clause-value c =
    let unchecked : checked_input (schema_of c.in-Some.schema) ≡ false = search rules in
    operation_none (view c.args.job.now) c.in_ok-common.common (schema_of c.in-Some.schema) c.in-Some.ensures.node c.in_ok-common.ensures.value unchecked

pub returns-clause-value : goal.returns-clause-value
returns-clause-value c =
    let checked : checked_input (schema_of c.in-Some.schema) ≡ true = search rules in
    operation_so (view c.args.job.now) c.in_ok-common.common (schema_of c.in-Some.schema) c.in-Some.ensures.node c.in_ok-common.ensures.value checked
