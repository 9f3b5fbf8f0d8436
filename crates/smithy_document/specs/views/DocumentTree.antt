-- The parts of a tree that documents are made into, with their texts in a list.
use Rattle.std.specs.Prelude.{ℕ, List, Vec}
use Rattle.std.specs.declared.alloc.Global.{Global}
use Rattle.smithy_types.specs.Documents as doc
use Rattle.smithy_document.specs.declared.json_tree.Node.{Node}
use Rattle.smithy_document.specs.views.JsonTree.{node_view, nodes_view, fields_view, StaysIn}

-- the node is the document
abbrev pub IsNodeAs : doc.Document → List (List ℕ) → Node → Type 0
IsNodeAs d texts n = StaysIn (λ ts. node_view ts n) texts d

abbrev pub AreNodesAs : doc.Items → List (List ℕ) → Vec Node Global → Type 0
AreNodesAs ds texts ns = StaysIn (λ ts. nodes_view ts ns.items) texts ds

abbrev pub AreFieldsAs : doc.Members → List (List ℕ) → Vec (ℕ × Node) Global → Type 0
AreFieldsAs ms texts fs = StaysIn (λ ts. fields_view ts fs.items) texts ms
