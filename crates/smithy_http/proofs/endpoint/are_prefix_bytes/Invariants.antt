use Rattle.std.proofs.Common.{◌≡◌, drop}
use Rattle.std.specs.List.{list_all}
use Rattle.smithy_http.specs.Endpoints.{is_prefix_byte}
use Rattle.smithy_http.proofs.endpoint.are_prefix_bytes.Given as goal

abbrev pub invariant-loop-b : goal.invariant-loop-b
invariant-loop-b l = list_all is_prefix_byte (drop l.b-index l.bytes) ≡ list_all is_prefix_byte l.bytes
