-- Where a member stands, as the getters answer it.
use Rattle.std.specs.Prelude.{Bool, ◌||◌, None, is_some}
use Rattle.smithy_schema.specs.Nodes as nodes
use Rattle.smithy_schema.specs.declared.parts.Marks.{Marks}
use Rattle.smithy_schema.specs.declared.request_binding.Binding.{Binding}
use Rattle.smithy_schema.specs.declared.request_binding.Binding.TheVariants as answered
use Rattle.smithy_schema.specs.declared.stored_traits.AllHeld.{AllHeld}

-- where a member stands
abbrev pub binding_shown : Binding → nodes.Binding
binding_shown (answered.Header name) = nodes.to_header name.now
binding_shown (answered.Prefix prefix) = nodes.to_prefix prefix.now
binding_shown (answered.Query name) = nodes.to_query name.now
binding_shown answered.QueryMap = nodes.to_query_map
binding_shown answered.Label = nodes.to_label
binding_shown answered.Payload = nodes.to_payload
binding_shown answered.Body = nodes.to_body

-- where a member with these traits stands
abbrev pub binding_by : nodes.Traits → nodes.Binding
binding_by t = nodes.binding_at t.http_header t.http_prefix_headers t.http_query t.http_query_params t.http_label t.http_payload

-- where a member stands by the traits that hold nothing, and by these and the names that it may have beside others
abbrev pub binding_of_marks : Marks → nodes.Binding
binding_of_marks m = nodes.binding_at None None None m.http_query_params m.http_label m.http_payload

abbrev pub binding_of_all : AllHeld → Marks → nodes.Binding
binding_of_all a m = nodes.binding_at a.http_header a.http_prefix_headers a.http_query m.http_query_params m.http_label m.http_payload

-- whether a response has a member with these traits outside its body
abbrev pub is_bound_by : nodes.Traits → Bool
is_bound_by t = is_some t.http_header || is_some t.http_prefix_headers || t.http_response_code || t.http_payload
