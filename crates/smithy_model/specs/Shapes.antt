-- The shapes of a model (Smithy, JSON AST).
use Rattle.std.specs.Prelude.{ℕ, nat_eq, List, [], ◌∷◌, codes, find, Bool, true, false, not, ◌&&◌, ◌==◌, length, Option, Some, None, option_map, option_and_then, if◌then◌else◌}
use Rattle.std.specs.List.{starts_with}
use Rattle.std.specs.Option.{option_map_or, option_or}
use Rattle.serde_json.specs.Data.{Data}
use Rattle.serde_json.specs.Find.{get}
use Rattle.smithy_types.specs.Results.{each}
use Rattle.smithy_ids.specs.declared.shape_type.ShapeType.{ShapeType}
use Rattle.smithy_ids.specs.declared.shape_type.ShapeType.TheVariants as kind
use Rattle.smithy_schema.specs.Nodes.{Traits, no_traits}
use Rattle.smithy_model.specs.Json.{items_in, members_in, text_at, provided}
use Rattle.smithy_model.specs.Names.{is, is_full_name}
use Rattle.smithy_model.specs.GivenTraits.{traits_of}
use Rattle.smithy_model.specs.Prelude.{prelude_kind}

pub record Member : Type 0 where
  pub name : List ℕ
  -- the full name of the shape that it is of
  pub target : List ℕ
  pub traits : Traits

-- A shape with its members, in byte order of their names: a list has one, and a map has two.
pub record Shape : Type 0 where
  pub name : List ℕ
  pub kind : ShapeType
  pub traits : Traits
  pub members : List Member

-- an object with a `target`, and its traits
abbrev pub member_at : List ℕ → Data → Option Member
member_at name d =
    option_and_then (λ target. option_map (λ traits. record { name = name; target = target; traits = traits }) (traits_of d)) (text_at (codes "target") d)

abbrev pub member_in : List ℕ × Data → Option Member
member_in entry = member_at entry.0 entry.1

-- the member under a key of the shape's own
abbrev pub part_at : List ℕ → Data → Option Member
part_at key shape = option_and_then (member_at key) (get key shape)

-- the members of a structure or a union
abbrev pub members_at : Data → Option (List Member)
members_at shape = option_and_then (each member_in) (option_and_then members_in (get (codes "members") shape))

-- the element of a list
abbrev pub element_in : Data → Option (List Member)
element_in shape = option_map (λ m. m ∷ []) (part_at (codes "member") shape)

-- the key and the value of a map
abbrev pub key_and_value_in : Data → Option (List Member)
key_and_value_in shape =
    option_and_then (λ k. option_map (λ v. k ∷ v ∷ []) (part_at (codes "value") shape)) (part_at (codes "key") shape)

-- the members of a shape of this kind
abbrev pub members_by : ShapeType → Data → Option (List Member)
members_by kind.Structure shape = members_at shape
members_by kind.Union shape = members_at shape
members_by kind.List shape = element_in shape
members_by kind.Map shape = key_and_value_in shape
members_by _ shape = Some []

-- the types of shapes that have a schema, with their kinds; an enum is a string, an intEnum an integer, a set a list (Smithy, simple and aggregate types)
abbrev pub type_kinds : List (List ℕ × ShapeType)
type_kinds =
    (codes "byte", kind.Byte)
    ∷ (codes "short", kind.Short)
    ∷ (codes "integer", kind.Integer)
    ∷ (codes "long", kind.Long)
    ∷ (codes "float", kind.Float)
    ∷ (codes "double", kind.Double)
    ∷ (codes "bigInteger", kind.BigInteger)
    ∷ (codes "bigDecimal", kind.BigDecimal)
    ∷ (codes "boolean", kind.Boolean)
    ∷ (codes "string", kind.String)
    ∷ (codes "blob", kind.Blob)
    ∷ (codes "timestamp", kind.Timestamp)
    ∷ (codes "document", kind.Document)
    ∷ (codes "enum", kind.String)
    ∷ (codes "intEnum", kind.Integer)
    ∷ (codes "list", kind.List)
    ∷ (codes "set", kind.List)
    ∷ (codes "map", kind.Map)
    ∷ (codes "structure", kind.Structure)
    ∷ (codes "union", kind.Union)
    ∷ []

unfoldable pub kind_named : List ℕ → Option ShapeType
kind_named type = option_map (λ p. p.1) (find (λ p. is p.0 type) type_kinds)

abbrev pub kind_in : Data → Option ShapeType
kind_in shape = option_and_then kind_named (text_at (codes "type") shape)

abbrev pub is_empty_array : Data → Bool
is_empty_array d = option_map_or (λ items. length items == 0) (items_in d) false

-- mixins are absent, or none
abbrev pub has_no_mixins : Data → Bool
has_no_mixins shape = option_map_or is_empty_array (get (codes "mixins") shape) true

abbrev pub shape_with : List ℕ → Data → ShapeType → Option Shape
shape_with name d k =
    option_and_then (λ traits. option_map (λ members. record { name = name; kind = k; traits = traits; members = members }) (members_by k d)) (traits_of d)

-- the shape of this name
abbrev pub shape_in : List ℕ → Data → Option Shape
shape_in name d = provided (has_no_mixins d) (option_and_then (shape_with name d) (kind_in d))

-- the namespace of the prelude (Smithy, prelude model)
abbrev pub is_of_prelude : List ℕ → Bool
is_of_prelude name = starts_with nat_eq name (codes "smithy.api#")

-- what a model has at the name of a shape; the prelude's names are its own
abbrev pub found_at : Data → List ℕ → Option Data
found_at shapes name = provided (is_full_name name && not (is_of_prelude name)) (get name shapes)

-- the shape that a model has at this name
abbrev pub own_shape_at : Data → List ℕ → Option Shape
own_shape_at shapes name = option_and_then (shape_in name) (found_at shapes name)

-- a shape of the prelude
abbrev pub prelude_shape : List ℕ → ShapeType → Shape
prelude_shape name k = record { name = name; kind = k; traits = no_traits; members = [] }

-- the shape of this name: the prelude's, and where it has none the model's own
unfoldable pub shape_at : Data → List ℕ → Option Shape
shape_at shapes name = option_or (option_map (prelude_shape name) (prelude_kind name)) (own_shape_at shapes name)
