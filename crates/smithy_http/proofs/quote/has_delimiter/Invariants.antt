use Rattle.std.proofs.Common.{◌≡◌, drop}
use Rattle.std.specs.List.{list_any}
use Rattle.smithy_http.specs.Quoting.{is_delimiter}
use Rattle.smithy_http.proofs.quote.has_delimiter.Given as goal

abbrev pub invariant-loop-b : goal.invariant-loop-b
invariant-loop-b l = list_any is_delimiter (drop l.b-index l.bytes) ≡ list_any is_delimiter l.bytes
