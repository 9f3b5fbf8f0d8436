-- What stands in the object of a structure, by what is told of its names.
use Rattle.smithy_wire.proofs.Common.{◌≡◌, sym, ap, ap₂, ◌∙◌, subst, ℕ, Bool, true, List, Option, Some, None}
use Rattle.std.specs.Borrow.{Bor}
use Rattle.std.specs.Option.{option_map_or}
use Rattle.smithy_schema.specs.Columns.{cell_at}
use Rattle.smithy_schema.specs.Nodes.{Schema, at_place, name_of}
use Rattle.smithy_wire.specs.declared.json_names.JsonNames.{JsonNames}
use Rattle.smithy_wire.specs.declared.parts.Part.{Part}
use Rattle.smithy_wire.specs.declared.side.Side.{Side}
use Rattle.smithy_wire.specs.declared.wire_json.WireJson.{WireJson}
use Rattle.smithy_wire.specs.Forms.{Form, fields, form_of, form_or_free, part_form}
use Rattle.smithy_wire.specs.Standing.{Each, StructureStands, Stand}
use Rattle.smithy_wire.specs.WireNames.{json_name, named_in_json, names_stand, field_named, field_in_json, swapped}
use Rattle.smithy_wire.specs.views.FieldNames.{are_own, MayTell}
use Rattle.smithy_wire.specs.views.KnownForms.{IsKnown}
use Rattle.smithy_wire.specs.views.PartView.{IsPart, IsWritten}
use Rattle.smithy_wire.specs.views.WireOf.{form_in, style_in}
use Rattle.smithy_wire.proofs.FieldLemmas.{form_back, own_stays, read_back, read_other}
use Rattle.smithy_wire.proofs.StandLemmas.{stand_here}

pub names_here : (names : Bool) (f : Form) (side : Option Side) (s : Schema) → f ≡ fields side s → names ≡ true → Stand names f → names_stand side s ≡ true
names_here names f side s is applied stand = stand_here side s (subst (Each StructureStands) is (stand applied))

pub told_here : (names : Bor JsonNames) (f : Form) (side : Option Side) (s : Schema) (place : ℕ) → f ≡ fields side s → IsKnown (Some names) f → at_place s.table place ≡ Some s → MayTell s (cell_at names.now.column place)
told_here names f side s place is known at = (subst (IsKnown (Some names)) is known) place s at

-- ---- what is read

pub own_part : (w : WireJson) (side : Option Side) (s : Schema) (name : List ℕ) (p : Part) → are_own s ≡ true → IsPart w name p → IsPart w (swapped side s name) p
own_part w side s name p own h = subst (λ n. IsPart w n p) (sym (own_stays side s name own)) h

pub renamed_form : (f : Form) (side : Option Side) (s : Schema) (name own : List ℕ) (m : Schema) → f ≡ fields side s → names_stand side s ≡ true
    → Some m ≡ field_in_json side s name → own ≡ name_of m → form_of m ≡ part_form f own
renamed_form f side s name own m is stand at named = form_back side s name m stand (sym at) ∙ ap₂ part_form (sym is) (sym named)

pub renamed_part : (w : WireJson) (side : Option Side) (s : Schema) (name : List ℕ) (m : Schema) (p : Part) → names_stand side s ≡ true → Some m ≡ field_in_json side s name
    → p.name.now ≡ name_of m → form_in p.place ≡ part_form (form_in w) (name_of m) → style_in p.place ≡ style_in w → IsPart w (swapped side s name) p
renamed_part w side s name m p stand at named formed styled =
    subst (λ n. IsPart w n p) (sym (read_back side s name m stand (sym at))) record { name = named; form = formed; style = styled }

pub other_part : (w : WireJson) (side : Option Side) (s : Schema) (name : List ℕ) (p : Part) → None ≡ field_in_json side s name
    → IsPart w (named_in_json side s name) p → IsPart w (swapped side s name) p
other_part w side s name p none h = subst (λ n. IsPart w n p) (read_other side s name (sym none)) h

-- ---- what is written

pub written_form : (f : Form) (side : Option Side) (s : Schema) (name : List ℕ) (m : Schema) → f ≡ fields side s → Some m ≡ field_named side s name → form_of m ≡ part_form f name
written_form f side s name m is at = ap form_or_free at ∙ ap (λ g. part_form g name) (sym is)

pub written_renamed : (w : WireJson) (side : Option Side) (s : Schema) (name : List ℕ) (m : Schema) (p : Part) → Some m ≡ field_named side s name
    → p.name.now ≡ json_name m → form_in p.place ≡ part_form (form_in w) name → style_in p.place ≡ style_in w → IsWritten w name (swapped side s name) p
written_renamed w side s name m p at named formed styled = record {
  name = named ∙ ap (λ o. option_map_or json_name o (option_map_or name_of (field_in_json side s name) name)) at;
  form = formed;
  style = styled;
}

pub written_other : (w : WireJson) (side : Option Side) (s : Schema) (name : List ℕ) (p : Part) → None ≡ field_named side s name
    → p.name.now ≡ option_map_or name_of (field_in_json side s name) name → form_in p.place ≡ part_form (form_in w) name → style_in p.place ≡ style_in w
    → IsWritten w name (swapped side s name) p
written_other w side s name p none named formed styled = record {
  name = named ∙ ap (λ o. option_map_or json_name o (option_map_or name_of (field_in_json side s name) name)) none;
  form = formed;
  style = styled;
}
