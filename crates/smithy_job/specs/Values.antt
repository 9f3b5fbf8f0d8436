-- The value that a JSON value is at a node: of the node's kind where it has the form of one, and else its natural value, which is that at no node.
use Rattle.std.specs.Prelude.{ℕ, List, codes, Bool, true, false, Option, Some, None, option_map, option_and_then, if◌then◌else◌}
use Rattle.std.specs.Option.{option_map_or, unwrap_or}
use Rattle.serde_json.specs.Data as json
use Rattle.serde_json.specs.Data.{Data, Items, Members}
use Rattle.smithy_ids.specs.declared.shape_type.ShapeType.{ShapeType}
use Rattle.smithy_ids.specs.declared.shape_type.ShapeType.TheVariants as kind
use Rattle.smithy_ids.specs.Kinds.{is_structure_or_union}
use Rattle.smithy_schema.specs.Nodes.{Schema, shape, element_of, key_of, value_of, member_named}
use Rattle.smithy_serde.specs.Values.{Label, label_of, boolean, document, null, Value, scalar, list, map, structure, Writes, no_writes, write}
use Rattle.smithy_json.specs.FromData.{of_data}
use Rattle.smithy_model.specs.declared.floats.Floats.{Floats}
use Rattle.smithy_job.specs.Scalars.{number_at, text_at}

abbrev pub kind_of : Option Schema → Option ShapeType
kind_of here = option_map (λ s. s.node.kind) here

abbrev pub is_document_kind : Option ShapeType → Bool
is_document_kind (Some kind.Document) = true
is_document_kind _ = false

abbrev pub is_structure_kind : Option ShapeType → Bool
is_structure_kind kind = option_map_or is_structure_or_union kind false

-- the node of a natural value inside another
abbrev pub natural_label : Label
natural_label = record { full_name = codes "smithy.api#Document"; member_name = None; member_index = None; time_format = None }

-- the node of a name that is no member's
abbrev pub further_label : List ℕ → Label
further_label name = record natural_label { member_name = Some name }

abbrev pub label_at : Option Schema → Label
label_at here = unwrap_or (option_map label_of here) natural_label

-- the member of this name, of the structure that the node is of
abbrev pub member_at : Option Schema → List ℕ → Option Schema
member_at here name = option_and_then (λ s. member_named (shape s) name) here

-- a name that is no member's has a node of that name, without an index
abbrev pub member_label : Option Schema → List ℕ → Label
member_label None name = further_label name
member_label (Some m) name = label_of m

-- at a node of documents the document
abbrev pub document_or : Option Schema → Data → Option Value → Option Value
document_or here d value = if is_document_kind (kind_of here) then option_map (λ x. scalar (document x)) (of_data d) else value

unfoldable mutual
  -- none where there is a float in it
  pub value_in : Floats → Option Schema → Data → Option Value
  value_in floats here json.null = document_or here json.null (Some (scalar null))
  value_in floats here (json.boolean b) = document_or here (json.boolean b) (Some (scalar (boolean b)))
  value_in floats here (json.number n) = document_or here (json.number n) (option_map scalar (number_at floats (kind_of here) n))
  value_in floats here (json.string s) = document_or here (json.string s) (Some (scalar (text_at (kind_of here) s)))
  value_in floats here (json.array ds) = document_or here (json.array ds) (option_map list (elements_in floats (option_and_then element_of here) ds))
  value_in floats here (json.object ms) =
      document_or here (json.object ms)
      (if is_structure_kind (kind_of here) then option_map structure (members_in floats here ms)
      else option_map map (entries_in floats (option_and_then key_of here) (option_and_then value_of here) ms))

  pub elements_in : Floats → Option Schema → Items → Option Writes
  elements_in floats element json.no_items = Some no_writes
  elements_in floats element (json.item d ds) =
      option_and_then (λ v. option_map (write (label_at element) v) (elements_in floats element ds)) (value_in floats element d)

  -- keys and values in turn
  pub entries_in : Floats → Option Schema → Option Schema → Members → Option Writes
  entries_in floats key value json.no_members = Some no_writes
  entries_in floats key value (json.member k d ms) =
      option_and_then (λ v. option_map (λ ws. write (label_at key) (scalar (text_at (kind_of key) k)) (write (label_at value) v ws)) (entries_in floats key value ms)) (value_in floats value d)

  -- the members of a structure at a node
  pub members_in : Floats → Option Schema → Members → Option Writes
  members_in floats here json.no_members = Some no_writes
  members_in floats here (json.member k d ms) =
      option_and_then (λ v. option_map (write (member_label (member_at here k) k) v) (members_in floats here ms)) (value_in floats (member_at here k) d)
