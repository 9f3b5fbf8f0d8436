-- The traits of shapes and members.
use Rattle.std.specs.Prelude.{ℕ, List, [], ◌∷◌, codes, find, Bool, true, false, ◌&&◌, ◌||◌, nat_le, is_some, Option, Some, None, option_map, option_and_then, if◌then◌else◌}
use Rattle.std.specs.List.{list_all}
use Rattle.std.specs.Option.{option_map_or}
use Rattle.serde_json.specs.Data.{Data}
use Rattle.serde_json.specs.Find.{get, as_str, as_number, as_u64}
use Rattle.smithy_ids.specs.Traits.{Http, Namespace}
use Rattle.smithy_ids.specs.declared.traits.TimestampFormat.{TimestampFormat}
use Rattle.smithy_ids.specs.declared.traits.TimestampFormat.TheVariants.{EpochSeconds, DateTime, HttpDate}
use Rattle.smithy_schema.specs.Nodes.{Traits, no_traits}
use Rattle.smithy_model.specs.Json.{members_in, text_at, provided}
use Rattle.smithy_model.specs.Names.{is, is_full_name}

-- the traits whose value is a text
abbrev pub is_text_trait : List ℕ → Bool
is_text_trait id =
    is id (codes "smithy.api#jsonName")
    || is id (codes "smithy.api#xmlName")
    || is id (codes "smithy.api#mediaType")
    || is id (codes "smithy.api#httpQuery")
    || is id (codes "smithy.api#httpPrefixHeaders")
    || is id (codes "smithy.api#httpHeader")

abbrev pub is_text : Data → Bool
is_text d = is_some (as_str d)

-- an object with a `uri` and an optional `prefix` (Smithy, xmlNamespace trait)
abbrev pub is_namespace : Data → Bool
is_namespace d = option_map_or is_text (get (codes "uri") d) false && option_map_or is_text (get (codes "prefix") d) true

-- one of the three formats (Smithy, timestampFormat trait)
abbrev pub time_format : List ℕ → Option TimestampFormat
time_format text =
    if is text (codes "date-time") then Some DateTime
    else (if is text (codes "http-date") then Some HttpDate
    else (if is text (codes "epoch-seconds") then Some EpochSeconds else None))

abbrev pub time_format_in : Data → Option TimestampFormat
time_format_in d = option_and_then time_format (as_str d)

-- the value of a trait with this name has the trait's form
abbrev pub has_form : List ℕ → Data → Bool
has_form id d =
    if is_text_trait id then is_text d
    else (if is id (codes "smithy.api#xmlNamespace") then is_namespace d
    else (if is id (codes "smithy.api#timestampFormat") then is_some (time_format_in d) else true))

abbrev pub is_fit_trait : List ℕ × Data → Bool
is_fit_trait entry = is_full_name entry.0 && has_form entry.0 entry.1

-- an object of full names, each with a value of its form
abbrev pub are_fit_traits : Data → Bool
are_fit_traits d = option_map_or (list_all is_fit_trait) (members_in d) false

abbrev pub namespace_in : Data → Option Namespace
namespace_in d = option_map (λ u. record { uri = u; prefix = text_at (codes "prefix") d }) (text_at (codes "uri") d)

-- The traits that have a field of their own, with what each sets by its value; `@http` is of operations alone.
abbrev pub fields : List (List ℕ × (Data → Traits → Traits))
fields =
    (codes "smithy.api#httpHeader", λ d t. record t { http_header = as_str d })
    ∷ (codes "smithy.api#httpPrefixHeaders", λ d t. record t { http_prefix_headers = as_str d })
    ∷ (codes "smithy.api#httpQuery", λ d t. record t { http_query = as_str d })
    ∷ (codes "smithy.api#httpQueryParams", λ d t. record t { http_query_params = true })
    ∷ (codes "smithy.api#httpLabel", λ d t. record t { http_label = true })
    ∷ (codes "smithy.api#httpPayload", λ d t. record t { http_payload = true })
    ∷ (codes "smithy.api#httpResponseCode", λ d t. record t { http_response_code = true })
    ∷ (codes "smithy.api#mediaType", λ d t. record t { media_type = as_str d })
    ∷ (codes "smithy.api#timestampFormat", λ d t. record t { timestamp_format = time_format_in d })
    ∷ (codes "smithy.api#streaming", λ d t. record t { streaming = true })
    ∷ (codes "smithy.api#jsonName", λ d t. record t { json_name = as_str d })
    ∷ (codes "smithy.api#xmlName", λ d t. record t { xml_name = as_str d })
    ∷ (codes "smithy.api#xmlNamespace", λ d t. record t { xml_namespace = namespace_in d })
    ∷ (codes "smithy.api#xmlAttribute", λ d t. record t { xml_attribute = true })
    ∷ (codes "smithy.api#xmlFlattened", λ d t. record t { xml_flattened = true })
    ∷ (codes "smithy.api#sensitive", λ d t. record t { sensitive = true })
    ∷ (codes "smithy.api#hostLabel", λ d t. record t { host_label = true })
    ∷ (codes "smithy.api#eventHeader", λ d t. record t { event_header = true })
    ∷ (codes "smithy.api#eventPayload", λ d t. record t { event_payload = true })
    ∷ []

-- the trait has a field of its own
unfoldable pub is_named_trait : List ℕ → Bool
is_named_trait id = is_some (find (λ field. is field.0 id) fields)

-- the traits with this one, where it has a field of its own
unfoldable pub with_trait : Traits → List ℕ → Data → Traits
with_trait t id d = option_map_or (λ field. field.1 d t) (find (λ field. is field.0 id) fields) t

-- these traits with those of an object's members
abbrev pub with_traits : Traits → List (List ℕ × Data) → Traits
with_traits t [] = t
with_traits t (entry ∷ entries) = with_traits (with_trait t entry.0 entry.1) entries

-- those of an object's members, none where one is not fit
abbrev pub fit_among : List (List ℕ × Data) → Option Traits
fit_among entries = provided (list_all is_fit_trait entries) (Some (with_traits no_traits entries))

abbrev pub plain_traits : Data → Traits
plain_traits d = option_map_or (with_traits no_traits) (members_in d) no_traits

-- a whole number up to 65535
abbrev pub code_in : Data → Option ℕ
code_in d = option_and_then (λ n. provided (nat_le n 65535) (Some n)) (option_and_then as_u64 (as_number d))

-- the code of `@http`, 200 where there is none, and none where it has not its form
abbrev pub code_at : Option Data → Option ℕ
code_at None = Some 200
code_at (Some d) = code_in d

-- method, URI and code (Smithy, http trait)
abbrev pub http_in : Data → Option Http
http_in d =
    option_and_then (λ m. option_and_then (λ u. option_map (λ c. record { method = m; uri = u; code = c }) (code_at (get (codes "code") d))) (text_at (codes "uri") d)) (text_at (codes "method") d)
