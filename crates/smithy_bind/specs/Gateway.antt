-- What is answered to a request that is sent on (Smithy, HTTP protocol bindings).
use Rattle.std.specs.Prelude.{ℕ, List, Option, Some, None, if◌then◌else◌}
use Rattle.smithy_http.specs.Requests.{Request}
use Rattle.smithy_serde.specs.declared.header_omit_settings.OmitFlags.{OmitFlags}
use Rattle.smithy_binding.specs.Checked.{checked_input}
use Rattle.smithy_recovery.specs.Recovered.{Reading}
use Rattle.smithy_gateway.specs.Calls.{Calling}
use Rattle.smithy_gateway.specs.Gateway.{rpc_of, rest_of}
use Rattle.smithy_job.specs.declared.gateway.Sending.{Sending}
use Rattle.smithy_job.specs.declared.gateway.Sending.TheVariants.{Rest, Rpc}
use Rattle.smithy_bind.specs.Recovering.{not_placed}
use Rattle.smithy_bind.specs.Shown.{shown}
use Rattle.smithy_bind.specs.Told.{Outcome, no_job, output}

-- the request that has the same input where it is sent on so, if there is one
abbrev pub sent_on : Sending → Reading → Calling → OmitFlags → List ℕ → Request → Option Request
sent_on Rpc r calling omit rpc_endpoint q = rpc_of r omit calling rpc_endpoint omit q
sent_on Rest r calling omit rpc_endpoint q = rest_of r omit calling q

-- a request as it is shown, or that no typed input has the one that came
abbrev pub shown_request : Option Request → Outcome
shown_request (Some q) = output (shown q)
shown_request None = not_placed

-- the answer to a request; a schema that no request can be placed by makes none
unfoldable pub gatewayed_by : Sending → Reading → Calling → OmitFlags → List ℕ → Request → Outcome
gatewayed_by to r calling omit rpc_endpoint q =
    if checked_input r.schema then shown_request (sent_on to r calling omit rpc_endpoint q) else no_job
