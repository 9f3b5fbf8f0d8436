use Rattle.std.proofs.Common.{refl, false, Some}
use Rattle.smithy_http.specs.declared.non_utf8.NonUtf8HeaderHandling.TheVariants.{Reject}
use Rattle.smithy_serde.specs.ValueReading.{structure_of}
use Rattle.smithy_serde.specs.declared.error.SerdeError.TheVariants.{OutOfMemory}
use Rattle.smithy_serde.proofs.ReadValue.{gives_memory}
use Rattle.smithy_response.specs.ResponseValue.{value_of_response}
use Rattle.uses.proofs.responses.output_of.Goals as goal

pub returns-in_default : goal.returns-in_default
returns-in_default c = λ n there h held. gives_memory structure_of (Some (value_of_response n c.args.response.now h false Reject)) OutOfMemory refl
