-- What the walk over a value of a body asks of a group, and of keys and values in turn.
use Rattle.std.specs.Prelude.{Bool, true, false, ◌&&◌, Option, Some}
use Rattle.smithy_ids.specs.declared.shape_type.ShapeType.TheVariants as kind
use Rattle.smithy_types.specs.Texts.{are_distinct}
use Rattle.smithy_schema.specs.Nodes.{Schema, key_of}
use Rattle.smithy_serde.specs.Fits.{fits, fits_in_range}
use Rattle.smithy_serde.specs.Shaped.{is_kind, has_distinct_fields, is_shaped, are_entries_shaped, are_values_shaped}
use Rattle.smithy_serde.specs.Values.{Value, Writes, keys_of}

-- the node takes the map, its keys are texts, and each stands once
abbrev pub takes_map : Schema → Value → Writes → Bool
takes_map here v entries = fits here.node.kind v && is_kind kind.String (key_of here) && are_distinct (keys_of entries)

-- the node takes the structure, and has each name once
abbrev pub takes_structure : Schema → Value → Bool
takes_structure here v = fits here.node.kind v && has_distinct_fields (Some here)

-- a key is a text, and a value is shaped by its node
abbrev pub is_part_shaped : Bool → Option Schema → Value → Bool
is_part_shaped true values v = fits_in_range kind.String v
is_part_shaped false values v = is_shaped values v

-- keys and values in turn, from a key on or from a value on
abbrev pub are_parts_shaped : Bool → Option Schema → Writes → Bool
are_parts_shaped true values ws = are_entries_shaped values ws
are_parts_shaped false values ws = are_values_shaped values ws
