-- Which values of a body follow their nodes (Smithy, data model: simple and aggregate types; timestampFormat trait).
use Rattle.std.specs.Prelude.{ℤ, ◌==◌, ◌||◌, ◌&&◌, Bool, true, not, length, Option, Some, None, is_some}
use Rattle.smithy_ids.specs.Kinds.{same_kind}
use Rattle.smithy_ids.specs.declared.shape_type.ShapeType.TheVariants as kind
use Rattle.smithy_ids.specs.declared.traits.TimestampFormat.TheVariants as time
use Rattle.smithy_types.specs.Timestamps.{is_in_calendar}
use Rattle.smithy_serde.specs.Fits.{fits}
use Rattle.smithy_serde.specs.Values as value
use Rattle.smithy_serde.specs.Values.{Label, Scalar, Value, scalar, list, structure, Writes, no_writes, write, list_of}
use Rattle.smithy_wire.specs.Words.{Schema, TimestampFormat, element_of, value_of, shape, list_all}
use Rattle.smithy_wire.specs.ExactNumbers.{is_number, is_integer}
use Rattle.smithy_wire.specs.Forms.{either_format}
use Rattle.smithy_wire.specs.Misfits.{is_outside, told_name}
use Rattle.smithy_wire.specs.WireNames.{field_named}
use Rattle.smithy_wire.specs.declared.side.Side.{Side}

-- the value is of the kind of the node's shape
abbrev pub is_of_kind : Schema → Value → Bool
is_of_kind n v = fits (shape n).node.kind v

-- a time that is written as a text is of a year from 1 to 9999
abbrev pub has_text : Option TimestampFormat → ℤ → Bool
has_text (Some time.DateTime) seconds = is_in_calendar seconds
has_text (Some time.HttpDate) seconds = is_in_calendar seconds
has_text _ seconds = true

-- so is a time in its node's format, and a big number is a number of JSON
abbrev pub has_json : Schema → Scalar → Bool
has_json n (value.timestamp seconds) = has_text (either_format n) seconds
has_json n (value.big_integer text) = is_integer text
has_json n (value.big_decimal text) = is_number text
has_json n _ = true

-- a union has exactly one member
abbrev pub has_one_if_union : Schema → Writes → Bool
has_one_if_union n ws = not (same_kind (shape n).node.kind kind.Union) || (length (list_of ws) == 1)

-- the field of a structure that a write is of, by its name
abbrev pub field_of : Option Side → Schema → Label → Option Schema
field_of side s l = field_named side s (told_name l)

-- A null follows any node. Else a value is of its node's kind, and so are its parts at every depth, in a structure
-- each that of a field. Where no node stands, nothing is asked.
abbrev mutual
  pub follows : Option Schema → Value → Bool
  follows None v = true
  follows (Some n) (scalar value.null) = true
  follows (Some n) (scalar s) = is_of_kind n (scalar s) && has_json n s
  follows (Some n) (list ws) = is_of_kind n (list ws) && elements_follow (element_of (shape n)) ws
  follows (Some n) (value.map ws) = is_of_kind n (value.map ws) && entries_follow (value_of (shape n)) ws
  follows (Some n) (structure ws) = is_of_kind n (structure ws) && (has_one_if_union n ws && fields_follow None (shape n) ws)

  pub elements_follow : Option Schema → Writes → Bool
  elements_follow element no_writes = true
  elements_follow element (write l v ws) = follows element v && elements_follow element ws

  -- each value stands behind its key
  pub entries_follow : Option Schema → Writes → Bool
  entries_follow values no_writes = true
  entries_follow values (write k key ws) = values_follow values ws

  pub values_follow : Option Schema → Writes → Bool
  values_follow values no_writes = true
  values_follow values (write l v ws) = follows values v && entries_follow values ws

  -- each write is of a field, whose node its value follows
  pub fields_follow : Option Side → Schema → Writes → Bool
  fields_follow side s no_writes = true
  fields_follow side s (write l v ws) = is_some (field_of side s l) && follows (field_of side s l) v && fields_follow side s ws

abbrev pub field_follows : Option Side → Schema → Label → Value → Bool
field_follows side s l v = is_some (field_of side s l) && follows (field_of side s l) v

-- so is each write of an input that doesn't stand in the target or the headers of the request
abbrev pub body_follows : Schema → Writes → Bool
body_follows n ws = list_all (λ w. is_outside n (told_name w.label) || field_follows None (shape n) w.label w.value) (list_of ws)
