-- A request can be placed by the schema of the command `generate`.
use Rattle.std.proofs.Common.{◌≡◌, refl, true}
use Rattle.smithy_binding.proofs.OnLiterals.{binding_on_literals}
use Rattle.smithy_binding.specs.Checked.{checked_input}
use Rattle.smithy_bind.specs.Generating.{schema_at, input_node}

pub generated_is_checked : checked_input (schema_at input_node) ≡ true
unfolding binding_on_literals
generated_is_checked = refl
