-- The parts of a tree that values of JSON are made into, with their texts in a list.
use Rattle.std.specs.Prelude.{ℕ, List, Vec, Option, option_map}
use Rattle.std.specs.declared.alloc.Global.{Global}
use Rattle.smithy_types.specs.Documents as doc
use Rattle.smithy_json.specs.FromData.{of_data, items_of_data, pairs_of_data}
use Rattle.smithy_json.specs.views.JsonView.{Member, view, items_view, members_view}
use Rattle.smithy_json.specs.declared.value.JsonValue.{JsonValue}
use Rattle.smithy_document.specs.declared.json_tree.Node.{Node}
use Rattle.smithy_document.specs.views.JsonTree.{node_view, nodes_view, fields_view, IsFound}

-- the items of an array without a float, and the members of an object
abbrev pub items_found : List JsonValue → Option doc.Items
items_found vs = items_of_data (items_view vs)

abbrev pub members_found : List Member → Option doc.Members
members_found ms = option_map doc.members_of (pairs_of_data (members_view ms))

-- the node is the value's document
abbrev pub IsNodeOf : JsonValue → List (List ℕ) → Node → Type 0
IsNodeOf v texts n = IsFound (of_data (view v)) (λ ts. node_view ts n) texts

abbrev pub AreNodesOf : List JsonValue → List (List ℕ) → Vec Node Global → Type 0
AreNodesOf vs texts ns = IsFound (items_found vs) (λ ts. nodes_view ts ns.items) texts

abbrev pub AreFieldsOf : List Member → List (List ℕ) → Vec (ℕ × Node) Global → Type 0
AreFieldsOf ms texts fs = IsFound (members_found ms) (λ ts. fields_view ts fs.items) texts
