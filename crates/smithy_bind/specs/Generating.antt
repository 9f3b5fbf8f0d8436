-- The command `generate`: the request of an input of many numbers, told in four lines.
use Rattle.std.specs.Prelude.{ℕ, ◌+◌, ◌*◌, ◌%◌, pos, true, false, codes, List, [], ◌∷◌, ◌++◌, length, map, Some, Result, decimal}
use Rattle.std.specs.List.{range_with_len, sum}
use Rattle.smithy_ids.specs.declared.shape_type.ShapeType.{ShapeType}
use Rattle.smithy_ids.specs.declared.shape_type.ShapeType.TheVariants as kind
use Rattle.smithy_http.specs.Requests.{Request}
use Rattle.smithy_schema.specs.Nodes.{Node, Table, Schema, no_traits, bare_node}
use Rattle.smithy_serde.specs.Values.{Value, scalar, whole, integer, long, text, list, Write, writes_of, label_of}
use Rattle.smithy_binding.specs.Placing.{Protocol, OmitFlags}
use Rattle.smithy_binding.specs.Answer.{answer}
use Rattle.smithy_binding.specs.Faults.{Fault}

-- the elements of `items` and of `tags`
abbrev pub number_node : Node
number_node = bare_node (codes "smithy.api#Integer") kind.Integer

abbrev pub text_node : Node
text_node = bare_node (codes "smithy.api#String") kind.String

-- a member without traits
abbrev pub member : ℕ → List ℕ → ShapeType → Node
member index name k = record (bare_node (codes "ex#GenerateInput") k) { member_name = Some name; member_index = Some index }

-- the members: a label, a list in the body, and a list in the header `X-Tags`
abbrev pub id_node : Node
id_node = record (member 0 (codes "id") kind.Long) { traits = record no_traits { http_label = true } }

abbrev pub items_node : Node
items_node = record (member 1 (codes "items") kind.List) { element = Some 0 }

abbrev pub tags_node : Node
tags_node = record (member 2 (codes "tags") kind.List) { element = Some 1; traits = record no_traits { http_header = Some (codes "X-Tags") } }

-- the input of an operation `POST /g/{id}` (Smithy, http trait)
abbrev pub input_node : Node
input_node = record (bare_node (codes "ex#GenerateInput") kind.Structure) {
  members = 2 ∷ 3 ∷ 4 ∷ [];
  traits = record no_traits { http = Some (record { method = codes "POST"; uri = codes "/g/{id}"; code = 200 }) };
}

abbrev pub table : Table
table = Some number_node ∷ Some text_node ∷ Some id_node ∷ Some items_node ∷ Some tags_node ∷ Some input_node ∷ []

-- a node with its table
abbrev pub schema_at : Node → Schema
schema_at node = record { table = table; node = node }

abbrev pub at : Node → Value → Write
at node v = record { label = label_of (schema_at node); value = v }

-- the k-th number of n, counted from 0
abbrev pub number : ℕ → ℕ → ℕ
number n k = (k * k + n) % 1000

abbrev pub number_value : ℕ → ℕ → Value
number_value n k = scalar (whole integer (pos (number n k)))

abbrev pub number_write : ℕ → ℕ → Write
number_write n k = at number_node (number_value n k)

-- n numbers
abbrev pub numbers : ℕ → List Write
numbers n = map (number_write n) (range_with_len 0 n)

-- the k-th text, counted from 0
abbrev pub tag_write : ℕ → Write
tag_write k = at text_node (scalar (text (codes "t" ++ decimal k)))

-- so many texts
abbrev pub tags : ℕ → List Write
tags count = map tag_write (range_with_len 0 count)

-- the writes of the input: n, a list of n numbers, and a list of n modulo 9 texts
abbrev pub input : ℕ → List Write
input n =
    at id_node (scalar (whole long (pos n)))
    ∷ at items_node (list (writes_of (numbers n)))
    ∷ at tags_node (list (writes_of (tags (n % 9))))
    ∷ []

-- both default headers are kept
abbrev pub kept : OmitFlags
kept = record { content_type = false; content_length = false }

-- the request of the input, or its first fault
unfoldable pub generated : Protocol → ℕ → Result Request Fault
generated protocol n = answer protocol (schema_at input_node) (input n) [] kept

-- a target, a number of headers, the length of a body and the sum of its bytes, each in a line
abbrev pub lines : List ℕ → ℕ → ℕ → ℕ → List ℕ
lines target headers length sum =
    codes "target " ++ (target ++ (codes "\nheaders " ++ (decimal headers ++ (codes "\nbody " ++ (decimal length ++ (codes "\nsum " ++ (decimal sum ++ codes "\n")))))))

-- these lines of a request
unfoldable pub summary : Request → List ℕ
summary r = lines r.target (length r.headers) (length r.body) (sum r.body)
