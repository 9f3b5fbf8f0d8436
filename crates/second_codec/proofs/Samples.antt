-- Schemas and inputs that the theorems of this crate are about.
use Rattle.std.specs.Prelude.{codes, List, [], ◌∷◌, ◌++◌, map, Some, pos}
use Rattle.std.specs.List.{range_with_len}
use Rattle.smithy_ids.specs.declared.shape_type.ShapeType.{ShapeType}
use Rattle.smithy_ids.specs.declared.shape_type.ShapeType.TheVariants as kind
use Rattle.smithy_ids.specs.declared.payload_hint.PayloadHint.TheVariants.{NoStructPayload}
use Rattle.smithy_schema.specs.Nodes.{no_traits, Schema}
use Rattle.smithy_serde.specs.Values.{scalar, Write, text, blob, whole, integer, long, timestamp}
use Rattle.second_codec.proofs.Making.{label, payload, query_map, response_code, query, header, prefix_map, with_http, member, with_element, with_entries, with_target, string_node, integer_node, list_node, structure_node, structure_of, flagged, to, string_map}

-- the first sample job: labels, one of them greedy, a header and a query member
abbrev pub get_object : Schema
get_object = flagged NoStructPayload (structure_of (with_http (codes "GET") (codes "/{Bucket}/{Key+}")) 4 (
    member 0 (codes "Bucket") kind.String label
    ∷ member 1 (codes "Id") kind.Integer (header (codes "X-Id"))
    ∷ member 2 (codes "Key") kind.String label
    ∷ member 3 (codes "Max") kind.Integer (query (codes "max"))
    ∷ []))

abbrev pub bucket : Write
bucket = to get_object 0 (scalar (text (codes "b")))

abbrev pub key : Write
key = to get_object 2 (scalar (text (codes "x/y z")))

-- its input, in the order of the job
abbrev pub get_object_input : List Write
get_object_input = bucket ∷ key ∷ to get_object 3 (scalar (whole integer (pos 3))) ∷ to get_object 1 (scalar (whole integer (pos 7))) ∷ []

-- the second sample job: many headers, a prefix map, a raw payload and a literal query
abbrev pub put_object : Schema
put_object = flagged NoStructPayload (structure_of (with_http (codes "PUT") (codes "/{Bucket}/{Key+}?x-id=PutObject")) 16 (
    member 0 (codes "Body") kind.Blob payload
    ∷ member 1 (codes "Bucket") kind.String label
    ∷ member 2 (codes "CacheControl") kind.String (header (codes "Cache-Control"))
    ∷ member 3 (codes "ContentDisposition") kind.String (header (codes "Content-Disposition"))
    ∷ member 4 (codes "ContentEncoding") kind.String (header (codes "Content-Encoding"))
    ∷ member 5 (codes "ContentLanguage") kind.String (header (codes "Content-Language"))
    ∷ member 6 (codes "ContentLength") kind.Long (header (codes "Content-Length"))
    ∷ member 7 (codes "ContentMD5") kind.String (header (codes "Content-MD5"))
    ∷ member 8 (codes "ContentType") kind.String (header (codes "Content-Type"))
    ∷ member 9 (codes "Encryption") kind.String (header (codes "x-amz-server-side-encryption"))
    ∷ member 10 (codes "Expires") kind.Timestamp (header (codes "Expires"))
    ∷ member 11 (codes "Key") kind.String label
    ∷ with_entries 16 17 (member 12 (codes "Metadata") kind.Map (prefix_map (codes "x-amz-meta-")))
    ∷ member 13 (codes "Redirect") kind.String (header (codes "x-amz-website-redirect-location"))
    ∷ member 14 (codes "StorageClass") kind.String (header (codes "x-amz-storage-class"))
    ∷ member 15 (codes "Tagging") kind.String (header (codes "x-amz-tagging"))
    ∷ string_node
    ∷ string_node
    ∷ []))

-- its input, in byte order of the names
abbrev pub put_object_input : List Write
put_object_input =
    to put_object 0 (scalar (blob (codes "hello")))
    ∷ to put_object 1 (scalar (text (codes "box")))
    ∷ to put_object 2 (scalar (text (codes "no-cache")))
    ∷ to put_object 6 (scalar (whole long (pos 5)))
    ∷ to put_object 8 (scalar (text (codes "text/plain")))
    ∷ to put_object 10 (scalar (timestamp (pos 1515523620)))
    ∷ to put_object 11 (scalar (text (codes "a b/c.txt")))
    ∷ to put_object 12 (string_map ((codes "Team", codes "blue") ∷ (codes "owner", codes "ann") ∷ []))
    ∷ to put_object 14 (scalar (text (codes "STANDARD_IA")))
    ∷ []

-- an unbound text
abbrev pub one_name : Schema
one_name = structure_of (with_http (codes "POST") (codes "/t")) 1 (member 0 (codes "name") kind.String no_traits ∷ [])

-- the same with a header member that has the name of a default header
abbrev pub own_content_type : Schema
own_content_type = structure_of (with_http (codes "POST") (codes "/t")) 2 (
    member 0 (codes "T") kind.String (header (codes "Content-Type")) ∷ member 1 (codes "name") kind.String no_traits ∷ [])

-- the same with a prefix map that takes every header name
abbrev pub every_header : Schema
every_header = structure_of (with_http (codes "POST") (codes "/t")) 2 (
    with_entries 2 3 (member 0 (codes "P") kind.Map (prefix_map []))
    ∷ member 1 (codes "name") kind.String no_traits
    ∷ string_node
    ∷ string_node
    ∷ [])

-- an unbound structure beside a label
abbrev pub labelled_body : Schema
labelled_body = structure_of (with_http (codes "POST") (codes "/{id}")) 2 (
    member 0 (codes "id") kind.String label ∷ member 1 (codes "data") kind.Structure no_traits ∷ [])

-- an unbound structure whose shape has two members
abbrev pub nested_body : Schema
nested_body = structure_of (with_http (codes "POST") (codes "/t")) 1 (
    with_target 1 (member 0 (codes "data") kind.Structure no_traits)
    ∷ Some (structure_node no_traits (2 ∷ 3 ∷ []))
    ∷ member 0 (codes "a") kind.String no_traits
    ∷ member 1 (codes "b") kind.Integer no_traits
    ∷ [])

-- an unbound map
abbrev pub one_map : Schema
one_map = structure_of (with_http (codes "POST") (codes "/t")) 1 (
    with_entries 1 2 (member 0 (codes "entries") kind.Map no_traits) ∷ string_node ∷ string_node ∷ [])

-- one header of this kind
abbrev pub one_header : ShapeType → Schema
one_header k = structure_of (with_http (codes "GET") (codes "/")) 1 (member 0 (codes "T") k (header (codes "X-T")) ∷ [])

-- a header list of texts
abbrev pub tags : Schema
tags = structure_of (with_http (codes "GET") (codes "/")) 1 (
    with_element 1 (member 0 (codes "tags") kind.List (header (codes "X-Tags"))) ∷ string_node ∷ [])

-- headers behind a prefix
abbrev pub metadata : Schema
metadata = structure_of (with_http (codes "GET") (codes "/")) 1 (
    with_entries 1 2 (member 0 (codes "meta") kind.Map (prefix_map (codes "X-Meta-"))) ∷ string_node ∷ string_node ∷ [])

-- a query map beside a query member
abbrev pub search : Schema
search = structure_of (with_http (codes "GET") (codes "/q")) 2 (
    member 0 (codes "max") kind.String (query (codes "max"))
    ∷ with_entries 2 3 (member 1 (codes "params") kind.Map query_map)
    ∷ string_node
    ∷ string_node
    ∷ [])

-- a query map of lists of texts
abbrev pub list_search : Schema
list_search = structure_of (with_http (codes "GET") (codes "/q")) 1 (
    with_entries 1 2 (member 0 (codes "P") kind.Map query_map) ∷ string_node ∷ Some (list_node 3) ∷ string_node ∷ [])

-- the same map behind a prefix
abbrev pub list_metadata : Schema
list_metadata = structure_of (with_http (codes "GET") (codes "/q")) 1 (
    with_entries 1 2 (member 0 (codes "P") kind.Map (prefix_map (codes "X-"))) ∷ string_node ∷ Some (list_node 3) ∷ string_node ∷ [])

-- a list payload
abbrev pub list_payload : Schema
list_payload = structure_of (with_http (codes "PUT") (codes "/l")) 1 (with_element 1 (member 0 (codes "L") kind.List payload) ∷ integer_node ∷ [])

-- a document payload
abbrev pub document_payload : Schema
document_payload = structure_of (with_http (codes "PUT") (codes "/d")) 1 (member 0 (codes "D") kind.Document payload ∷ [])

-- a query list behind a literal query
abbrev pub tagged : Schema
tagged = structure_of (with_http (codes "GET") (codes "/q?list=2")) 1 (
    with_element 1 (member 0 (codes "tags") kind.List (query (codes "tag"))) ∷ string_node ∷ [])

-- one query member of this kind
abbrev pub one_query : ShapeType → Schema
one_query k = structure_of (with_http (codes "GET") (codes "/q")) 1 (member 0 (codes "when") k (query (codes "when")) ∷ [])

-- a payload of this kind beside a content type
abbrev pub one_payload : ShapeType → Schema
one_payload k = structure_of (with_http (codes "PUT") (codes "/p")) 2 (
    member 0 (codes "T") kind.String (header (codes "Content-Type")) ∷ member 1 (codes "body") k payload ∷ [])

-- a label, and no `@http`: the template is the endpoint
abbrev pub endpoint_label : Schema
endpoint_label = structure_of no_traits 1 (member 0 (codes "Bucket") kind.String label ∷ [])

-- no member, and no `@http`
abbrev pub nothing_in : Schema
nothing_in = structure_of no_traits 0 []

-- one label
abbrev pub one_label : Schema
one_label = structure_of (with_http (codes "GET") (codes "/{K}")) 1 (member 0 (codes "K") kind.String label ∷ [])

-- an output: a header, a response code and an unbound member
abbrev pub tagged_output : Schema
tagged_output = structure_of no_traits 3 (
    member 0 (codes "Code") kind.Integer response_code
    ∷ member 1 (codes "Etag") kind.String (header (codes "ETag"))
    ∷ member 2 (codes "Name") kind.String no_traits
    ∷ [])

-- an output of 62 unbound members, and three headers behind them
abbrev pub many_members : Schema
many_members = structure_of no_traits 65 (map (λ i. member i (codes "m") kind.String no_traits) (range_with_len 0 62)
    ++ member 62 (codes "X-E") kind.String (header (codes "X-E")) ∷ member 63 (codes "X-H") kind.String (header (codes "X-H")) ∷ member 64 (codes "X-N") kind.Integer (header (codes "X-N")) ∷ [])
