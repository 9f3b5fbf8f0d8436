-- The shapes of `smithy.api` that models cite (Smithy, prelude).
use Rattle.std.specs.Prelude.{◌≡◌, ℕ, ◌<◌, codes, List, [], ◌∷◌, ◌++◌, map, take, false, Some, None}
use Rattle.smithy_ids.specs.declared.shape_type.ShapeType.{ShapeType}
use Rattle.smithy_ids.specs.declared.shape_type.ShapeType.TheVariants as kind
use Rattle.smithy_ids.specs.declared.payload_hint.PayloadHint.TheVariants.{Unknown}
use Rattle.smithy_schema.specs.Nodes.{Node, Table, bare_node, no_traits}

-- the name of the shape of a simple kind, and of the unit structure
abbrev pub prelude_name : ShapeType → List ℕ
prelude_name kind.Boolean = codes "smithy.api#Boolean"
prelude_name kind.Byte = codes "smithy.api#Byte"
prelude_name kind.Short = codes "smithy.api#Short"
prelude_name kind.Integer = codes "smithy.api#Integer"
prelude_name kind.Long = codes "smithy.api#Long"
prelude_name kind.Float = codes "smithy.api#Float"
prelude_name kind.Double = codes "smithy.api#Double"
prelude_name kind.BigInteger = codes "smithy.api#BigInteger"
prelude_name kind.BigDecimal = codes "smithy.api#BigDecimal"
prelude_name kind.String = codes "smithy.api#String"
prelude_name kind.Blob = codes "smithy.api#Blob"
prelude_name kind.Timestamp = codes "smithy.api#Timestamp"
prelude_name kind.Document = codes "smithy.api#Document"
prelude_name _ = codes "smithy.api#Unit"

-- the prelude's node of a kind; it has no traits
abbrev pub prelude_node : ShapeType → Node
prelude_node shape_type = bare_node (prelude_name shape_type) shape_type

-- the node has a name and a kind, and nothing else
pub record IsBare (node : Node) : Type 0 where
  pub member_name : node.member_name ≡ None
  pub original_name : node.original_name ≡ None
  pub member_index : node.member_index ≡ None
  pub target : node.target ≡ None
  pub members : node.members ≡ []
  pub element : node.element ≡ None
  pub key : node.key ≡ None
  pub value : node.value ≡ None
  pub traits : node.traits ≡ no_traits
  pub has_no_body_members : node.has_no_body_members ≡ false
  pub hint : node.hint ≡ Unknown

-- the kinds of the prelude's nodes, in the order in which they are inserted; the last is the unit structure's
abbrev pub prelude_kinds : List ShapeType
prelude_kinds =
    kind.String ∷ kind.Boolean ∷ kind.Byte ∷ kind.Short ∷ kind.Integer ∷ kind.Long ∷ kind.Float ∷ kind.Double
    ∷ kind.BigInteger ∷ kind.BigDecimal ∷ kind.Blob ∷ kind.Timestamp ∷ kind.Document ∷ kind.Structure ∷ []

abbrev pub prelude_nodes : List Node
prelude_nodes = map prelude_node prelude_kinds

abbrev pub prelude_len : ℕ
prelude_len = 14

-- fewer than the fourteen nodes of the prelude, the first ones, stand behind the table
abbrev pub HasFirstNodes : Table → Table → Type 0
HasFirstNodes old new = (n : ℕ) × (n < prelude_len) × (new ≡ old ++ map Some (take n prelude_nodes))
