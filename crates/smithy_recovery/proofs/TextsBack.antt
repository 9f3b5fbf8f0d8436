-- The texts of scalars, and of lists of them, are read as what they were written of.
use Rattle.std.proofs.Common.{◌≡◌, refl, sym, ◌∙◌, ap, ℕ, true, false, List, [], ◌∷◌, map, Some, option_map, option_and_then, is_some}
use Rattle.std.proofs.lemmas.Bool.{and_parts}
use Rattle.smithy_types.specs.Results.{each}
use Rattle.smithy_ids.specs.declared.shape_type.ShapeType.{ShapeType}
use Rattle.smithy_ids.specs.declared.shape_type.ShapeType.TheVariants as kind
use Rattle.smithy_ids.specs.Kinds.{same_kind}
use Rattle.smithy_schema.specs.Nodes.{Schema}
use Rattle.smithy_serde.specs.Values as value
use Rattle.smithy_serde.specs.Values.{Value, Writes, no_writes, write, Write, list_of, label_of, writes_of}
use Rattle.smithy_serde.specs.Ranges.{is_in_range}
use Rattle.smithy_serde.specs.Fits.{fits, fits_in_range}
use Rattle.smithy_serde.specs.NormalBody.{settled_elements}
use Rattle.smithy_serde.specs.ValueRead.{write_by}
use Rattle.smithy_strings.specs.declared.wire.Place.{Place}
use Rattle.smithy_strings.specs.Wire.{wire}
use Rattle.smithy_strings.specs.Unwired.{unwired}
use Rattle.smithy_binding.specs.views.StoredTexts.{member_text, element_text}
use Rattle.smithy_unambiguity.proofs.Fits.{is_flat}
use Rattle.smithy_unambiguity.proofs.Values.{AreItems, HaveFormat, flat_value, flat_settled, each_first, wire_back}
use Rattle.smithy_recovery.specs.HeaderParts.{text_value, list_value, texts_value}

-- a member's value of a flat kind is read from its text
pub text_back : (m : Schema) (place : Place) (v : Value) (t : List ℕ) → is_flat m.node.kind ≡ true → fits_in_range m.node.kind v ≡ true → member_text place m v ≡ Some t → text_value m place t ≡ Some v
text_back m place v t flat fit e = wire_back m.node.traits.timestamp_format (is_some m.node.traits.media_type) place m.node.kind v t flat fit e

-- a flat kind is not that of a list
pub flat_not_list : (k : ShapeType) → is_flat k ≡ true → same_kind k kind.List ≡ false
flat_not_list kind.List flat = absurd (cc flat)
flat_not_list _ flat = refl

-- the values that stand in writes
abbrev pub values_in : Writes → List Value
values_in ws = map (λ (w : Write). w.value) (list_of ws)

-- elements of a flat kind, with the node's label
pub own_elements : (e : Schema) (ws : Writes) → is_flat e.node.kind ≡ true → AreItems e.node.kind ws → writes_of (map (write_by e) (values_in ws)) ≡ settled_elements (Some e) ws
own_elements e no_writes flat fit = refl
own_elements e (write l v ws) flat fit =
    let parts = and_parts (is_in_range v) (fits e.node.kind v) fit.0 in
    let same = flat_settled (Some e) v (flat_value e.node.kind v flat parts.1) in
    λ i. write (label_of e) (sym same i) (own_elements e ws flat fit.1 i)

-- the texts of elements are read as these
pub each_back : (e : Schema) (place : Place) (ws : Writes) (ts : List (List ℕ)) → is_flat e.node.kind ≡ true → is_some e.node.traits.media_type ≡ false → AreItems e.node.kind ws → HaveFormat e.node.traits.timestamp_format ws
    → each (element_text place) (list_of ws) ≡ Some ts → each (text_value e place) ts ≡ Some (values_in ws)
each_back e place no_writes ts flat plain fit own h = let none : [] ≡ ts = cc h in ap (each (text_value e place)) (sym none)
each_back e place (write l v ws) ts flat plain fit own h =
    let x = each_first (element_text place) (record { label = l; value = v }) (list_of ws) ts h in
    let text : wire e.node.traits.timestamp_format false place v ≡ Some x.text = ap (λ f. wire f false place v) (sym own.0) ∙ x.first in
    let here : text_value e place x.text ≡ Some v =
    ap (λ media. option_map (λ s. value.scalar s) (unwired e.node.traits.timestamp_format media place e.node.kind x.text)) plain
    ∙ wire_back e.node.traits.timestamp_format false place e.node.kind v x.text flat fit.0 text in
    ap (each (text_value e place)) (sym x.is)
    ∙ (λ i. option_and_then (λ y. option_map (λ ys. y ∷ ys) (each_back e place ws x.rest flat plain fit.1 own.1 x.later i)) (here i))

-- and make the list that the normal form has
pub texts_back : (e : Schema) (place : Place) (ws : Writes) (ts : List (List ℕ)) → is_flat e.node.kind ≡ true → is_some e.node.traits.media_type ≡ false → AreItems e.node.kind ws → HaveFormat e.node.traits.timestamp_format ws
    → each (element_text place) (list_of ws) ≡ Some ts → texts_value e place ts ≡ Some (value.list (settled_elements (Some e) ws))
texts_back e place ws ts flat plain fit own h =
    ap (option_map (list_value e)) (each_back e place ws ts flat plain fit own h) ∙ ap (λ us. Some (value.list us)) (own_elements e ws flat fit)
