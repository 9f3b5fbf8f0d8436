use Rattle.smithy_response.proofs.Common.{Some, sym, ap, ◌∙◌, schema_of}
use Rattle.smithy_response.proofs.Takings.{source_prefix}
use Rattle.smithy_response.proofs.taking.member_taken.Goals as goal

pub returns-in-Some-http_prefix_headers : goal.returns-in-Some-http_prefix_headers
returns-in-Some-http_prefix_headers c =
    rw (source_prefix (schema_of c.args.member) c.value-in-Some-http_prefix_headers.result.now (sym c.http_header.ensures ∙ c.in_default.is)
    (sym c.http_prefix_headers.ensures ∙ c.in-Some-http_prefix_headers.is ∙ ap (λ p. Some p) (sym c.value-in-Some-http_prefix_headers.ensures))) (c.in_ok-prefix_taken.ensures c.args.response.now)
