-- The value that is read from a held thing by a node, at every depth.
use Rattle.std.specs.Prelude.{◌≡◌, ℕ, suc, zero, ◌&&◌, not, List, [], ◌∷◌, Option, Some, None, Result, Ok, if◌then◌else◌}
use Rattle.smithy_types.specs.Results.{then_try, then_give}
use Rattle.smithy_ids.specs.declared.shape_type.ShapeType.{ShapeType}
use Rattle.smithy_ids.specs.declared.shape_type.ShapeType.TheVariants as kind
use Rattle.smithy_ids.specs.Kinds.{same_kind}
use Rattle.smithy_schema.specs.Nodes.{Table, Schema, at_place, element_of, key_of, value_of, shape}
use Rattle.smithy_serde.specs.Values as value
use Rattle.smithy_serde.specs.Values.{Value, Write, label_of, writes_of}
use Rattle.smithy_serde.specs.declared.error.SerdeError.{SerdeError}
use Rattle.smithy_serde.specs.Held.{Held, levels_of, is_null_held}
use Rattle.smithy_serde.specs.IndexOrder.{in_order}
use Rattle.smithy_serde.specs.HeldReads.{read_scalar, elements, entries, fields}

-- f of each, in order, up to the first refusal
abbrev pub all_read : {A B : Type 0} → (A → Result B SerdeError) → List A → Result (List B) SerdeError
all_read read [] = Ok []
all_read read (x ∷ xs) = then_try (read x) (λ y. then_give (all_read read xs) (λ ys. y ∷ ys))

-- one write with its node
abbrev pub write_by : Schema → Value → Write
write_by node v = record { label = label_of node; value = v }

-- the key and the value of an entry as writes
abbrev pub entry_by : Schema → Schema → List ℕ → Value → Write × Write
entry_by k n key v = (write_by k (value.scalar (value.text key)), write_by n v)

-- the node stands at that place of its table
abbrev pub StandsAt : Schema → ℕ → Type 0
StandsAt node place = at_place node.table place ≡ Some node

-- a node of the table
abbrev pub IsPlaced : Table → Schema → Type 0
IsPlaced table node = (place : ℕ) × (at_place table place ≡ Some node)

-- the key and the value of an entry, in turn
abbrev pub joined : List (Write × Write) → List Write
joined [] = []
joined (e ∷ es) = e.0 ∷ e.1 ∷ joined es

module _ (inner : Schema → Held → Result Value SerdeError) where
  abbrev pub value_of_list : Schema → Schema → Held → Result Value SerdeError
  value_of_list node element h =
      then_give (then_try (elements node h) (all_read (λ x. then_give (inner element x) (write_by element)))) (λ ws. value.list (writes_of ws))

  abbrev pub value_of_map : Schema → Schema → Schema → Held → Result Value SerdeError
  value_of_map node key entry h =
      then_give (then_try (entries node h) (all_read (λ x. then_give (inner entry x.1) (entry_by key entry x.0))))
      (λ es. value.map (writes_of (joined es)))

  abbrev pub value_of_structure : Schema → Held → Result Value SerdeError
  value_of_structure node h =
      then_give (then_try (fields node h) (all_read (λ x. then_give (inner x.0 x.1) (write_by x.0)))) (λ ws. value.structure (writes_of (in_order ws)))

  -- the key and the value node of a map, where it has both
  abbrev pub map_by : Schema → Option Schema → Option Schema → Held → Result Value SerdeError
  map_by node (Some key) (Some entry) h = value_of_map node key entry h
  map_by node key entry h = then_give (read_scalar kind.Document node h) value.scalar

  abbrev pub list_by : Schema → Option Schema → Held → Result Value SerdeError
  list_by node (Some element) h = value_of_list node element h
  list_by node None h = then_give (read_scalar kind.Document node h) value.scalar

  -- by the node's kind; what a program has no values of is read as a document
  abbrev pub value_by_kind : ShapeType → Schema → Held → Result Value SerdeError
  value_by_kind kind.List node h = list_by node (element_of node) h
  value_by_kind kind.Map node h = map_by node (key_of node) (value_of node) h
  value_by_kind kind.Structure node h = value_of_structure (shape node) h
  value_by_kind kind.Union node h = value_of_structure (shape node) h
  value_by_kind kind.Float node h = then_give (read_scalar kind.Document node h) value.scalar
  value_by_kind kind.Double node h = then_give (read_scalar kind.Document node h) value.scalar
  value_by_kind kind.Member node h = then_give (read_scalar kind.Document node h) value.scalar
  value_by_kind k node h = then_give (read_scalar k node h) value.scalar

  -- a null is a null at every node but a document's
  abbrev pub value_with : Schema → Held → Result Value SerdeError
  value_with node h = if is_null_held h && not (same_kind node.node.kind kind.Document) then Ok (value.scalar value.null) else value_by_kind node.node.kind node h

-- the value of what has less than so many levels
abbrev pub value_within : ℕ → Schema → Held → Result Value SerdeError
value_within zero node h = Ok (value.scalar value.null)
value_within (suc levels) node h = value_with (value_within levels) node h

-- The value that is read by the node, or the first refusal in the order of the reads. The writes of a structure stand in index order.
unfoldable pub value_read : Schema → Held → Result Value SerdeError
value_read node h = value_within (suc (levels_of h)) node h
