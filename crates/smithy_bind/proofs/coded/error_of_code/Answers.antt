use Rattle.std.proofs.Common.{refl, ◌∙◌, ap, Some, None}
use Rattle.smithy_bind.proofs.CodedLemmas.{coded-found}
use Rattle.smithy_bind.proofs.coded.error_of_code.Goals as goal

pub returns-in-Some : goal.returns-in-Some
returns-in-Some c = λ errors is.
    coded-found c.args.table.now c.args.error.now.code.now errors c.in_ok-operation.operation c.in_ok-service.service (Some c.in-Some.entry.now) (Some c.schema.result)
    (c.in_ok-operation.ensures errors.operation (rw c.as_slice.ensures.value is.operation)) (c.in_ok-service.ensures errors.service (rw c.as_slice-2.ensures.value is.service)) (c.in-Some.ensures ∙ (rw (c.or-errors.ensures.primary, c.or-errors.ensures.fallback) refl)) (ap Some c.schema.ensures)

pub returns : goal.returns
returns c = λ errors is.
    coded-found c.args.table.now c.args.error.now.code.now errors c.in_ok-operation.operation c.in_ok-service.service None None
    (c.in_ok-operation.ensures errors.operation (rw c.as_slice.ensures.value is.operation)) (c.in_ok-service.ensures errors.service (rw c.as_slice-2.ensures.value is.service)) (c.in-None.ensures ∙ (rw (c.or-errors.ensures.primary, c.or-errors.ensures.fallback) refl)) refl
