-- The transport wins: what a body says of a bound member is not heard (Smithy, HTTP protocol bindings).
use Rattle.std.specs.Prelude.{◌≡◌, ℕ, List, Bool, false, if◌then◌else◌}
use Rattle.smithy_response.specs.Words.{option_map_or, NonUtf8HeaderHandling, Response, Schema, member_named, is_response_bound}
use Rattle.smithy_types.specs.Documents as doc
use Rattle.smithy_types.specs.Documents.{Document, Members}
use Rattle.smithy_serde.specs.Held as held
use Rattle.smithy_response.specs.Handed.{has_payload, handed}

-- the field of the name is a bound member's
abbrev pub is_bound_field : Schema → List ℕ → Bool
is_bound_field schema name = option_map_or is_response_bound (member_named schema name) false

abbrev pub without_bound_fields : Schema → Members → Members
without_bound_fields schema doc.no_members = doc.no_members
without_bound_fields schema (doc.member name d ms) =
    if is_bound_field schema name then without_bound_fields schema ms else doc.member name d (without_bound_fields schema ms)

-- the document without the fields of bound members
abbrev pub without_bound : Schema → Document → Document
without_bound schema (doc.object ms) = doc.object (without_bound_fields schema ms)
without_bound schema d = d

-- Where no member is a payload, the response hands out the same without them.
abbrev pub TransportWins : Type 0
TransportWins =
    (schema : Schema) (response : Response) (d : Document) (is_error : Bool) (policy : NonUtf8HeaderHandling) → has_payload schema ≡ false
    → handed schema response (held.document (without_bound schema d)) is_error policy ≡ handed schema response (held.document d) is_error policy
