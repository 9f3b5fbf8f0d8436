-- Kinds and time formats that compare equal are one.
use denote.Enum.Declared.{tag_of}
use Rattle.std.proofs.Common.{◌≡◌, refl, sym, ap, ◌∙◌, ℕ, true, ◌==◌, List, [], ◌∷◌, slice_get, unwrap_or}
use Rattle.std.proofs.lemmas.Bool.{eqb-true}
use Rattle.smithy_ids.specs.Kinds.{same_kind}
use Rattle.smithy_ids.specs.contracts.shape_type.ShapeType.{the_type}
use Rattle.smithy_ids.specs.contracts.traits.TimestampFormat as contract
use Rattle.smithy_ids.specs.declared.shape_type.ShapeType.{ShapeType}
use Rattle.smithy_ids.specs.declared.shape_type.ShapeType.TheVariants as kind
use Rattle.smithy_ids.specs.declared.traits.TimestampFormat.{TimestampFormat}
use Rattle.smithy_ids.specs.declared.traits.TimestampFormat.TheVariants as format

-- the kind with a number
abbrev all_kinds : List ShapeType
all_kinds = kind.Boolean ∷ kind.Byte ∷ kind.Short ∷ kind.Integer ∷ kind.Long ∷ kind.Float ∷ kind.Double ∷ kind.BigInteger ∷ kind.BigDecimal ∷ kind.String ∷ kind.Blob ∷ kind.Timestamp ∷ kind.Document ∷ kind.List ∷ kind.Map ∷ kind.Structure ∷ kind.Union ∷ kind.Member ∷ []

abbrev kind_at : ℕ → ShapeType
kind_at n = unwrap_or (slice_get all_kinds n) kind.Member

kind_back : (k : ShapeType) → kind_at (tag_of the_type k) ≡ k
kind_back kind.Boolean = refl
kind_back kind.Byte = refl
kind_back kind.Short = refl
kind_back kind.Integer = refl
kind_back kind.Long = refl
kind_back kind.Float = refl
kind_back kind.Double = refl
kind_back kind.BigInteger = refl
kind_back kind.BigDecimal = refl
kind_back kind.String = refl
kind_back kind.Blob = refl
kind_back kind.Timestamp = refl
kind_back kind.Document = refl
kind_back kind.List = refl
kind_back kind.Map = refl
kind_back kind.Structure = refl
kind_back kind.Union = refl
kind_back kind.Member = refl

pub one_kind : (a b : ShapeType) → same_kind a b ≡ true → a ≡ b
one_kind a b e = sym (kind_back a) ∙ ap kind_at (eqb-true (tag_of the_type a) (tag_of the_type b) e) ∙ kind_back b

-- the format with a number
abbrev format_at : ℕ → TimestampFormat
format_at n = unwrap_or (slice_get (format.EpochSeconds ∷ format.DateTime ∷ format.HttpDate ∷ []) n) format.DateTime

format_back : (f : TimestampFormat) → format_at (tag_of contract.the_type f) ≡ f
format_back format.EpochSeconds = refl
format_back format.DateTime = refl
format_back format.HttpDate = refl

pub one_format : (f g : TimestampFormat) → (tag_of contract.the_type f == tag_of contract.the_type g) ≡ true → f ≡ g
one_format f g e = sym (format_back f) ∙ ap format_at (eqb-true (tag_of contract.the_type f) (tag_of contract.the_type g) e) ∙ format_back g
