-- The traits that a description has.
use Rattle.std.specs.Prelude.{ℕ, List, Option, Some, None, option_map}
use Rattle.std.specs.Borrow.{Bor}
use Rattle.smithy_ids.specs.declared.traits.TimestampFormat.{TimestampFormat}
use Rattle.smithy_schema.specs.declared.traits.Traits as declared
use Rattle.smithy_schema.specs.Nodes.{Traits, TraitValue, Node}

abbrev pub text_of : Option (Bor (List ℕ)) → Option (List ℕ)
text_of text = option_map (λ t. t.now) text

-- the traits with a field of their own, and no further ones
abbrev pub traits_described : declared.Traits → Traits
traits_described t = record {
  http = t.http;
  http_header = text_of t.http_header;
  http_prefix_headers = text_of t.http_prefix_headers;
  http_query = text_of t.http_query;
  http_query_params = t.http_query_params;
  http_label = t.http_label;
  http_payload = t.http_payload;
  http_response_code = t.http_response_code;
  media_type = text_of t.media_type;
  timestamp_format = t.timestamp_format;
  streaming = t.streaming;
  json_name = text_of t.json_name;
  xml_name = text_of t.xml_name;
  xml_namespace = t.xml_namespace;
  xml_attribute = t.xml_attribute;
  xml_flattened = t.xml_flattened;
  xml_unwrapped_output = t.xml_unwrapped_output;
  sensitive = t.sensitive;
  host_label = t.host_label;
  event_header = t.event_header;
  event_payload = t.event_payload;
  others = None;
}

-- the traits with a field of their own, and these further ones
abbrev pub traits_with : declared.Traits → Option (List (List ℕ × TraitValue)) → Traits
traits_with t others = record (traits_described t) { others = others }

-- the node with this format of timestamps
abbrev pub with_time_format : TimestampFormat → Node → Node
with_time_format format n = record n { traits = record n.traits { timestamp_format = Some format } }

-- the node with this prefix of headers
abbrev pub with_prefix_headers : List ℕ → Node → Node
with_prefix_headers prefix n = record n { traits = record n.traits { http_prefix_headers = Some prefix } }

-- the node with this namespace in XML
abbrev pub with_namespace : List ℕ → Option (Bor (List ℕ)) → Node → Node
with_namespace uri prefix n = record n { traits = record n.traits { xml_namespace = Some (record { uri = uri; prefix = text_of prefix }) } }

-- the node with these traits in the place of all that have a field of their own
abbrev pub with_plain : Traits → Node → Node
with_plain traits n = record n { traits = record traits { others = n.traits.others } }
