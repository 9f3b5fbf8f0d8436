-- The request of a remote procedure call: the whole input is the document of a body that is posted, whatever its schema says of HTTP.
use Rattle.std.specs.Prelude.{ℕ, true, codes, List, [], length, Result, Some}
use Rattle.smithy_binding.specs.Words.{Request, structure, Writes}
use Rattle.smithy_binding.specs.Answer.{legal_request}
use Rattle.smithy_binding.specs.Bodies.{text_of_document}
use Rattle.smithy_binding.specs.Faults.{Fault, behind, fault_of_document}
use Rattle.smithy_binding.specs.Placing.{Protocol, OmitFlags, endpoint_or_slash, with_defaults}

-- the request with this body, posted to the endpoint with the default headers, if that is a legal target
abbrev pub posted : List ℕ → List ℕ → OmitFlags → List ℕ → Result Request Fault
posted content_type endpoint omit body =
    legal_request (codes "POST") (endpoint_or_slash endpoint) (with_defaults content_type true (length body) omit []) body

-- The request of an input, or the first fault: the first rule of documents that it breaks, and then of the target.
unfoldable pub rpc_answer : Protocol → Writes → List ℕ → OmitFlags → Result Request Fault
rpc_answer protocol ws endpoint omit =
    behind (fault_of_document (Some (structure ws)))
    (posted protocol.content_type endpoint omit (text_of_document protocol.text_of (Some (structure ws))))
