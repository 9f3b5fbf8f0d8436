-- The shapes that every model has (Smithy, prelude model).
use Rattle.std.specs.Prelude.{ℕ, List, [], ◌∷◌, codes, find, Option, option_map}
use Rattle.smithy_ids.specs.declared.shape_type.ShapeType.{ShapeType}
use Rattle.smithy_ids.specs.declared.shape_type.ShapeType.TheVariants as kind
use Rattle.smithy_model.specs.Names.{is}

-- names and kinds; `Unit` is a structure without members, and the primitive ones are kinds by an older name
abbrev pub prelude_kinds : List (List ℕ × ShapeType)
prelude_kinds =
    (codes "smithy.api#Document", kind.Document)
    ∷ (codes "smithy.api#String", kind.String)
    ∷ (codes "smithy.api#Boolean", kind.Boolean)
    ∷ (codes "smithy.api#Byte", kind.Byte)
    ∷ (codes "smithy.api#Short", kind.Short)
    ∷ (codes "smithy.api#Integer", kind.Integer)
    ∷ (codes "smithy.api#Long", kind.Long)
    ∷ (codes "smithy.api#Float", kind.Float)
    ∷ (codes "smithy.api#Double", kind.Double)
    ∷ (codes "smithy.api#BigInteger", kind.BigInteger)
    ∷ (codes "smithy.api#BigDecimal", kind.BigDecimal)
    ∷ (codes "smithy.api#Blob", kind.Blob)
    ∷ (codes "smithy.api#Timestamp", kind.Timestamp)
    ∷ (codes "smithy.api#Unit", kind.Structure)
    ∷ (codes "smithy.api#PrimitiveBoolean", kind.Boolean)
    ∷ (codes "smithy.api#PrimitiveByte", kind.Byte)
    ∷ (codes "smithy.api#PrimitiveShort", kind.Short)
    ∷ (codes "smithy.api#PrimitiveInteger", kind.Integer)
    ∷ (codes "smithy.api#PrimitiveLong", kind.Long)
    ∷ (codes "smithy.api#PrimitiveFloat", kind.Float)
    ∷ (codes "smithy.api#PrimitiveDouble", kind.Double)
    ∷ []

-- the kind of the prelude's shape of this name
unfoldable pub prelude_kind : List ℕ → Option ShapeType
prelude_kind name = option_map (λ p. p.1) (find (λ p. is p.0 name) prelude_kinds)
