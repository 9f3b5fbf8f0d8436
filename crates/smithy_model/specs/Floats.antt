-- How the floats of a model are read (Smithy, simple types).
use Rattle.std.specs.Prelude.{List, map}
use Rattle.smithy_ids.specs.declared.shape_type.ShapeType.{ShapeType}
use Rattle.smithy_ids.specs.declared.shape_type.ShapeType.TheVariants as kind
use Rattle.smithy_model.specs.Shapes.{Shape}
use Rattle.smithy_model.specs.declared.floats.Floats.{Floats}
use Rattle.smithy_model.specs.declared.floats.Floats.TheVariants.{Kept, Decimals}

-- that of a float is a decimal's
abbrev pub decimal_kind : ShapeType → ShapeType
decimal_kind kind.Float = kind.BigDecimal
decimal_kind kind.Double = kind.BigDecimal
decimal_kind k = k

abbrev pub decimal_shape : Shape → Shape
decimal_shape s = record s { kind = decimal_kind s.kind }

-- shapes with the floats among them as they are, or as decimals
abbrev pub with_floats : Floats → List Shape → List Shape
with_floats Kept shapes = shapes
with_floats Decimals shapes = map decimal_shape shapes
