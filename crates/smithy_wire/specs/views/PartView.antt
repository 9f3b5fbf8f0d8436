-- What stands in an object, by the JSON of that.
use Rattle.std.specs.Prelude.{◌≡◌, ℕ, List}
use Rattle.smithy_wire.specs.Forms.{part_form}
use Rattle.smithy_wire.specs.declared.parts.Part.{Part}
use Rattle.smithy_wire.specs.declared.wire_json.WireJson.{WireJson}
use Rattle.smithy_wire.specs.views.WireOf.{form_in, style_in}

-- what is written under a name of its own with a name in JSON
pub record IsWritten (w : WireJson) (own in_json : List ℕ) (part : Part) : Type 0 where
  pub name : part.name.now ≡ in_json
  pub form : form_in part.place ≡ part_form (form_in w) own
  pub style : style_in part.place ≡ style_in w

-- what stands under a name of its own
abbrev pub IsPart : WireJson → List ℕ → Part → Type 0
IsPart w name part = IsWritten w name name part
