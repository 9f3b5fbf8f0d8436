-- What is answered to a request whose input is recovered (Smithy, HTTP protocol bindings).
use Rattle.std.specs.Prelude.{codes, List, Option, Some, None, if◌then◌else◌}
use Rattle.smithy_http.specs.Requests.{Request}
use Rattle.smithy_serde.specs.DocumentOf.{document_of}
use Rattle.smithy_serde.specs.Values.{Write, structure, writes_of}
use Rattle.smithy_serde.specs.declared.header_omit_settings.OmitFlags.{OmitFlags}
use Rattle.smithy_binding.specs.Checked.{checked_input}
use Rattle.smithy_recovery.specs.Recovered.{Reading, recovered}
use Rattle.smithy_bind.specs.Responding.{shown_document}
use Rattle.smithy_bind.specs.Told.{Outcome, no_job, fault_line}

-- the line where no typed input has the request
abbrev pub not_placed : Outcome
not_placed = fault_line (codes "NotPlaced: no typed input has this request\n")

-- the writes of an input as one line of JSON, or that there is none
abbrev pub shown_input : Option (List Write) → Outcome
shown_input (Some ws) = shown_document (document_of (structure (writes_of ws)))
shown_input None = not_placed

-- the answer to a request; a schema that no request can be placed by makes none
unfoldable pub recovered_by : Reading → OmitFlags → Request → Outcome
recovered_by r omit q = if checked_input r.schema then shown_input (recovered r omit q) else no_job
