-- The scalar that a text is written of where it is bound (Smithy, traits httpHeader, httpLabel and httpQuery).
use Rattle.std.specs.Prelude.{◌≡◌, ℕ, Bool, true, false, IsTrue, List, Option, Some, is_some, option_map, option_and_then}
use Rattle.std.specs.Option.{option_map_or}
use Rattle.std.specs.Str.{is_utf8}
use Rattle.base64.specs.Engines.{standard}
use Rattle.base64.specs.GeneralPurpose.{decoded_of}
use Rattle.smithy_types.specs.Texts.{same_text}
use Rattle.smithy_types.specs.TimestampReading.{timestamp_of}
use Rattle.smithy_ids.specs.declared.shape_type.ShapeType.{ShapeType}
use Rattle.smithy_ids.specs.declared.shape_type.ShapeType.TheVariants as kind
use Rattle.smithy_ids.specs.declared.traits.TimestampFormat.{TimestampFormat}
use Rattle.smithy_schema.specs.Nodes.{Table, Schema}
use Rattle.smithy_serde.specs.Fits.{scalar_kind}
use Rattle.smithy_serde.specs.Ranges.{is_scalar_in_range}
use Rattle.smithy_serde.specs.StoredValues.{value_in}
use Rattle.smithy_serde.specs.TextReads.{scalar_of_text}
use Rattle.smithy_serde.specs.Values as value
use Rattle.smithy_serde.specs.Values.{Scalar}
use Rattle.std.specs.Bool.{then_some}
use Rattle.smithy_serde.specs.declared.value.ShapeValue.{ShapeValue}
use Rattle.smithy_strings.specs.declared.wire.Place.{Place}
use Rattle.smithy_strings.specs.Wire.{wire, scalar_wire, time_format}

-- bytes as a text
abbrev pub text_of_bytes : List ℕ → Option Scalar
text_of_bytes bytes = then_some (is_utf8 bytes) (value.text bytes)

-- with a media type the text whose base64 it is (RFC 4648, section 4; Smithy, mediaType trait)
abbrev pub text_of_wire : Bool → List ℕ → Option Scalar
text_of_wire true text = option_and_then text_of_bytes (decoded_of standard text)
text_of_wire false text = Some (value.text text)

-- the point in time of a text in the format of a place
abbrev pub time_of_wire : Option TimestampFormat → Place → List ℕ → Option Scalar
time_of_wire format place text = option_map (λ z. value.timestamp z) (timestamp_of (time_format format place) text)

-- the one scalar of a kind that may have this text
abbrev pub spelled_wire : Option TimestampFormat → Bool → Place → ShapeType → List ℕ → Option Scalar
spelled_wire format has_media_type place kind.String text = text_of_wire has_media_type text
spelled_wire format has_media_type place kind.Timestamp text = time_of_wire format place text
spelled_wire format has_media_type place k text = scalar_of_text k text

-- the text is the scalar's
abbrev pub is_wire_of : Option TimestampFormat → Bool → Place → List ℕ → Scalar → Bool
is_wire_of format has_media_type place text x = option_map_or (λ t. same_text t text) (scalar_wire format has_media_type place x) false

-- The scalar of a kind whose text this is, or none where it is none's.
unfoldable pub unwired : Option TimestampFormat → Bool → Place → ShapeType → List ℕ → Option Scalar
unwired format has_media_type place k text =
    option_and_then (λ x. then_some (is_wire_of format has_media_type place text x) x) (spelled_wire format has_media_type place k text)

-- by the kind and the traits of a node
abbrev pub member_scalar : Schema → Place → List ℕ → Option Scalar
member_scalar s place text = unwired s.node.traits.timestamp_format (is_some s.node.traits.media_type) place s.node.kind text

-- the stored value is this scalar, or there is none
abbrev pub StoresScalar : Option Scalar → Option ShapeValue → Type 0
StoresScalar x o = (t : Table) → option_map (value_in t) o ≡ option_map (λ s. value.scalar s) x

-- whether the text is the stored value's, whatever the table
abbrev pub TellsText : Option TimestampFormat → Bool → Place → ShapeValue → List ℕ → Bool → Type 0
TellsText format has_media_type place v text tells =
    (t : Table) → tells ≡ option_map_or (λ s. same_text s text) (wire format has_media_type place (value_in t v)) false

-- A scalar in range is read back from its text, for its kind and place, and what is read is a scalar of the kind with that text.
pub record Unwires (format : Option TimestampFormat) (has_media_type : Bool) (place : Place) (k : ShapeType) (text : List ℕ) (read : Option Scalar) : Type 0 where
  pub reads_back : (x : Scalar) → IsTrue (is_scalar_in_range x) → scalar_kind x ≡ Some k → scalar_wire format has_media_type place x ≡ Some text → read ≡ Some x
  pub has_text : (x : Scalar) → read ≡ Some x → (scalar_kind x ≡ Some k) × (scalar_wire format has_media_type place x ≡ Some text)

abbrev pub UnwireIsExact : Type 0
UnwireIsExact =
    (format : Option TimestampFormat) (has_media_type : Bool) (place : Place) (k : ShapeType) (text : List ℕ) →
    Unwires format has_media_type place k text (unwired format has_media_type place k text)
