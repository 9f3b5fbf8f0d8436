-- The scalar of a text as a stored value: no node stands in it.
use Rattle.std.proofs.Common.{◌≡◌, refl, sym, ◌∙◌, ap, ℕ, List, [], Option, Some, None, option_map, is_some}
use Rattle.smithy_types.specs.Documents.{Document}
use Rattle.smithy_types.specs.DocumentView.{view}
use Rattle.smithy_schema.specs.Nodes.{Table, Schema}
use Rattle.smithy_serde.specs.StoredValues.{value_in, IsDefined}
use Rattle.smithy_serde.specs.Values as value
use Rattle.smithy_serde.specs.Values.{Scalar, Value}
use Rattle.smithy_serde.specs.declared.value.ShapeValue.{ShapeValue}
use Rattle.smithy_serde.specs.declared.value.ShapeValue.TheVariants as stored
use Rattle.smithy_strings.specs.declared.wire.Place.{Place}
use Rattle.smithy_strings.specs.Unwired.{StoresScalar, member_scalar}
use Rattle.smithy_strings.proofs.UnwireLaws.{unwire_is_exact}
use Rattle.smithy_recovery.specs.HeaderParts.{text_value}
use Rattle.smithy_recovery.specs.views.Keeping.{IsValueRead}

abbrev IsNoDocument : Scalar → Type 0
IsNoDocument x = (d : Document) → x ≡ value.document d → ⊥

scalar_defined : (t : Table) (v : ShapeValue) (x : Scalar) → value_in t v ≡ value.scalar x → IsNoDocument x → IsDefined t v
unfolding value_in IsDefined
scalar_defined t (stored.Boolean b) x e other = tt
scalar_defined t (stored.Byte z) x e other = tt
scalar_defined t (stored.Short z) x e other = tt
scalar_defined t (stored.Integer z) x e other = tt
scalar_defined t (stored.Long z) x e other = tt
scalar_defined t (stored.BigInteger s) x e other = tt
scalar_defined t (stored.BigDecimal s) x e other = tt
scalar_defined t (stored.String s) x e other = tt
scalar_defined t (stored.Blob bytes) x e other = tt
scalar_defined t (stored.Timestamp z) x e other = tt
scalar_defined t (stored.Document d) x e other = absurd (other (view d) (let same : value.document (view d) ≡ x = cc e in sym same))
scalar_defined t stored.Null x e other = tt
scalar_defined t (stored.List ws) x e other = absurd (cc e)
scalar_defined t (stored.Map ws) x e other = absurd (cc e)
scalar_defined t (stored.Struct ws) x e other = absurd (cc e)

no_document : (m : Schema) (place : Place) (text : List ℕ) (x : Scalar) → member_scalar m place text ≡ Some x → IsNoDocument x
no_document m place text x e d is =
    let has = (unwire_is_exact m.node.traits.timestamp_format (is_some m.node.traits.media_type) place m.node.kind text).has_text (value.document d) (e ∙ ap Some is) in
    cc has.1

pub scalar_kept : (m : Schema) (place : Place) (text : List ℕ) (v : ShapeValue) → StoresScalar (member_scalar m place text) (Some v) → (t : Table) → IsValueRead t (text_value m place text) v
scalar_kept m place text v stores t = go (member_scalar m place text) refl (stores t)
  where
    go : (o : Option Scalar) → member_scalar m place text ≡ o → Some (value_in t v) ≡ option_map (λ s. value.scalar s) o → IsValueRead t (option_map (λ x. value.scalar x) o) v
    go None e same = absurd (cc same)
    go (Some x) e same =
        let is : value_in t v ≡ value.scalar x = cc same in
        record { value = ap Some (sym is); defined = scalar_defined t v x is (no_document m place text x e) }

pub scalar_none : (m : Schema) (place : Place) (text : List ℕ) → StoresScalar (member_scalar m place text) None → text_value m place text ≡ None
scalar_none m place text stores = sym (stores [])
