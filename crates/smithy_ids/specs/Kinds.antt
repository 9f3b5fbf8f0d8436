-- The kinds of shapes.
use denote.Enum.Declared.{tag_of}
use Rattle.std.specs.Prelude.{ℕ, Bool, true, false, not, ◌||◌, ◌==◌, codes, List}
use Rattle.smithy_ids.specs.contracts.shape_type.ShapeType.{the_type}
use Rattle.smithy_ids.specs.declared.shape_type.ShapeType.{ShapeType}
use Rattle.smithy_ids.specs.declared.shape_type.ShapeType.TheVariants as kind

-- they are one kind, as `==` of kinds tells it
abbrev pub same_kind : ShapeType → ShapeType → Bool
same_kind a b = tag_of the_type a == tag_of the_type b

-- the word of a kind in messages
abbrev pub kind_word : ShapeType → List ℕ
kind_word kind.Boolean = codes "boolean"
kind_word kind.Byte = codes "byte"
kind_word kind.Short = codes "short"
kind_word kind.Integer = codes "integer"
kind_word kind.Long = codes "long"
kind_word kind.Float = codes "float"
kind_word kind.Double = codes "double"
kind_word kind.BigInteger = codes "bigInteger"
kind_word kind.BigDecimal = codes "bigDecimal"
kind_word kind.String = codes "string"
kind_word kind.Blob = codes "blob"
kind_word kind.Timestamp = codes "timestamp"
kind_word kind.Document = codes "document"
kind_word kind.List = codes "list"
kind_word kind.Map = codes "map"
kind_word kind.Structure = codes "structure"
kind_word kind.Union = codes "union"
kind_word kind.Member = codes "member"

-- the kinds that a label and a query take: each simple kind but Float, Double, Blob and Document
abbrev pub is_scalar : ShapeType → Bool
is_scalar kind.Boolean = true
is_scalar kind.Byte = true
is_scalar kind.Short = true
is_scalar kind.Integer = true
is_scalar kind.Long = true
is_scalar kind.BigInteger = true
is_scalar kind.BigDecimal = true
is_scalar kind.String = true
is_scalar kind.Timestamp = true
is_scalar _ = false

-- the kinds that stand for no value here
abbrev pub is_unwritable : ShapeType → Bool
is_unwritable kind.Float = true
is_unwritable kind.Double = true
is_unwritable kind.Member = true
is_unwritable _ = false

abbrev pub is_structure : ShapeType → Bool
is_structure shape_type = same_kind shape_type kind.Structure

abbrev pub is_structure_or_union : ShapeType → Bool
is_structure_or_union kind.Structure = true
is_structure_or_union kind.Union = true
is_structure_or_union _ = false

-- the aggregate types (Smithy, aggregate types)
abbrev pub is_aggregate : ShapeType → Bool
is_aggregate kind.List = true
is_aggregate kind.Map = true
is_aggregate kind.Structure = true
is_aggregate kind.Union = true
is_aggregate _ = false

abbrev pub is_member : ShapeType → Bool
is_member kind.Member = true
is_member _ = false

-- the simple types, which hold no other shape (Smithy, simple types)
abbrev pub is_simple : ShapeType → Bool
is_simple shape_type = not (is_aggregate shape_type || is_member shape_type)
