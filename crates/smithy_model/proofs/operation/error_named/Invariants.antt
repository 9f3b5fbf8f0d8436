use Rattle.std.proofs.Common.{◌≡◌, drop, find}
use Rattle.smithy_model.specs.Names.{is}
use Rattle.smithy_model.specs.views.NameView.{texts}
use Rattle.smithy_model.proofs.operation.error_named.Given as goal

abbrev pub invariant-loop-error : goal.invariant-loop-error
invariant-loop-error l = find (λ e. is e l.name) (texts (drop l.error-index l.errors)) ≡ find (λ e. is e l.name) (texts l.errors)
