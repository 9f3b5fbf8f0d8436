-- The traits that stored ones are.
use Rattle.std.specs.Prelude.{◌≡◌, ℕ, Bool, ◌&&◌, ◌||◌, List, Option, Some, None, is_some, option_map, MatchOption}
use Rattle.std.specs.Borrow.{Bor}
use Rattle.smithy_schema.specs.declared.stored_http.StoredHttp.{StoredHttp}
use Rattle.smithy_schema.specs.declared.stored_traits.StoredNamespace.{StoredNamespace}
use Rattle.smithy_schema.specs.declared.stored_traits.AllHeld.{AllHeld}
use Rattle.smithy_schema.specs.declared.stored_traits.HeldTraits.{HeldTraits}
use Rattle.smithy_schema.specs.declared.stored_traits.HeldTraits.TheVariants as held
use Rattle.smithy_schema.specs.declared.stored_traits.StoredTraits.{StoredTraits}
use Rattle.smithy_schema.specs.Nodes.{Http, Namespace, Traits, TraitValue}
use Rattle.smithy_schema.specs.WellMade.{has_utf8}

-- the traits that hold a text or a value
pub record Held : Type 0 where
  pub http : Option Http
  pub http_header : Option (List ℕ)
  pub http_prefix_headers : Option (List ℕ)
  pub http_query : Option (List ℕ)
  pub media_type : Option (List ℕ)
  pub json_name : Option (List ℕ)
  pub xml_name : Option (List ℕ)
  pub xml_namespace : Option Namespace
  pub others : Option (List (List ℕ × TraitValue))

abbrev pub held_in : Traits → Held
held_in t = record {
  http = t.http;
  http_header = t.http_header;
  http_prefix_headers = t.http_prefix_headers;
  http_query = t.http_query;
  media_type = t.media_type;
  json_name = t.json_name;
  xml_name = t.xml_name;
  xml_namespace = t.xml_namespace;
  others = t.others;
}

-- the names of a header and of a query parameter alone
abbrev pub few_held : (header query : Option (List ℕ)) → Held
few_held header query = record {
  http = None;
  http_header = header;
  http_prefix_headers = None;
  http_query = query;
  media_type = None;
  json_name = None;
  xml_name = None;
  xml_namespace = None;
  others = None;
}

abbrev pub are_both : (header query : Option (List ℕ)) → Bool
are_both header query = is_some header && is_some query

-- something else is held, or both names
abbrev pub holds_more : Traits → Bool
holds_more t =
    is_some t.http || is_some t.http_prefix_headers || is_some t.media_type || is_some t.json_name || is_some t.xml_name || is_some t.xml_namespace || is_some t.others
    || are_both t.http_header t.http_query

abbrev pub http_stored : StoredHttp → Http
http_stored h = record { method = h.method; uri = h.uri; code = h.code }

abbrev pub namespace_stored : StoredNamespace → Namespace
namespace_stored n = record { uri = n.uri; prefix = n.prefix }

abbrev pub all_stored : AllHeld → Held
all_stored a = record {
  http = option_map http_stored a.http;
  http_header = a.http_header;
  http_prefix_headers = a.http_prefix_headers;
  http_query = a.http_query;
  media_type = a.media_type;
  json_name = a.json_name;
  xml_name = a.xml_name;
  xml_namespace = option_map namespace_stored a.xml_namespace;
  others = a.others;
}

abbrev pub held_stored : HeldTraits → Held
held_stored held.Nothing = few_held None None
held_stored (held.Header name) = few_held (Some name) None
held_stored (held.Query name) = few_held None (Some name)
held_stored (held.All a) = all_stored a.value

-- the texts that a request depends on are UTF-8
abbrev pub has_utf8_held : Held → Bool
has_utf8_held h = has_utf8 h.http_header && has_utf8 h.http_prefix_headers && has_utf8 h.http_query && has_utf8 (option_map (λ k. k.uri) h.http)

abbrev pub traits_stored : StoredTraits → Traits
traits_stored t = record {
  http = (held_stored t.held).http;
  http_header = (held_stored t.held).http_header;
  http_prefix_headers = (held_stored t.held).http_prefix_headers;
  http_query = (held_stored t.held).http_query;
  http_query_params = t.marks.http_query_params;
  http_label = t.marks.http_label;
  http_payload = t.marks.http_payload;
  http_response_code = t.marks.http_response_code;
  media_type = (held_stored t.held).media_type;
  timestamp_format = t.timestamp_format;
  streaming = t.marks.streaming;
  json_name = (held_stored t.held).json_name;
  xml_name = (held_stored t.held).xml_name;
  xml_namespace = (held_stored t.held).xml_namespace;
  xml_attribute = t.marks.xml_attribute;
  xml_flattened = t.marks.xml_flattened;
  xml_unwrapped_output = t.marks.xml_unwrapped_output;
  sensitive = t.marks.sensitive;
  host_label = t.marks.host_label;
  event_header = t.marks.event_header;
  event_payload = t.marks.event_payload;
  others = (held_stored t.held).others;
}

-- no more is held than the names of a header and of a query parameter
abbrev pub HoldsFew : Traits → Type 0
HoldsFew t = held_in t ≡ few_held t.http_header t.http_query

-- the traits that hold something as they are kept, where there are others than these
abbrev pub ShowsAll : Traits → Option (Bor AllHeld) → Type 0
ShowsAll t kept = MatchOption kept (HoldsFew t) (λ a. held_in t ≡ all_stored a.now)
