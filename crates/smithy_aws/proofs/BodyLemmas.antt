-- The values of bodies, from what their readers have at hand.
use Rattle.std.proofs.Common.{◌≡◌, ℕ, Bool, false, List, [], Option, Some, Result, Ok, Err, refl, sym, ap, subst, ◌∙◌}
use Rattle.std.specs.Prelude.{IfSome, IsErrAnd, unwrap_or}
use Rattle.smithy_types.specs.Results.{then_give}
use Rattle.smithy_http.specs.Responses.{Response}
use Rattle.smithy_schema.specs.Nodes.{Schema, shape}
use Rattle.smithy_serde.specs.Held.{Held}
use Rattle.smithy_serde.specs.Present.{present, present_members}
use Rattle.smithy_serde.specs.StructValues.{members_of}
use Rattle.smithy_serde.specs.ValueRead.{value_of_structure, value_read}
use Rattle.smithy_serde.specs.ValueReading.{gives_structure, reader_node}
use Rattle.smithy_serde.specs.Values.{Value, structure}
use Rattle.smithy_serde.specs.declared.builders.ValueReader.{ValueReader}
use Rattle.smithy_serde.specs.declared.error.SerdeError.{SerdeError}
use Rattle.smithy_serde.specs.declared.struct_value.StructValue.{StructValue}
use Rattle.smithy_wire.specs.Forms.{Form, whole_form}
use Rattle.smithy_wire.specs.WireOf.{form_in, style_in}
use Rattle.smithy_wire.specs.WireText.{wire_held}
use Rattle.smithy_wire.specs.declared.wire_json.WireJson.{WireJson}
use Rattle.smithy_wire.specs.declared.wire_style.WireStyle.{WireStyle}
use Rattle.smithy_aws.specs.BodyValues.{aws_json_value, held_in_body, style_of, GivesValue}

told : (style : WireStyle) (f : Form) (r : Response) → wire_held style f (unwrap_or r.body []) ≡ Some (held_in_body style f r)
unfolding wire_held
told style f r = refl

-- what a reader of a node's JSON has at hand
pub at_hand : (held : Option Held) (c : WireJson) (style : WireStyle) (f : Form) (r : Response) (bytes : List ℕ) → held ≡ wire_held (style_in c) (form_in c) bytes
    → style_in c ≡ style → form_in c ≡ f → bytes ≡ unwrap_or r.body [] → held ≡ Some (held_in_body style f r)
at_hand held c style f r bytes is same form there =
    is ∙ ap (λ k. wire_held k (form_in c) bytes) same ∙ ap (λ g. wire_held style g bytes) form ∙ ap (wire_held style f) there ∙ told style f r

-- a refusal that is passed on
pub given_on : (value : Result Value SerdeError) (e : SerdeError) (result : Result StructValue SerdeError) → IsErrAnd result (λ y. y ≡ e) → GivesValue value (Err e) → GivesValue value result
given_on value e (Ok v) same is = absurd same
given_on value e (Err y) same is = subst (λ z. GivesValue value (Err z)) (sym same) is

-- what was read, without its null members
pub present_read : (value : Result Value SerdeError) (v w : StructValue) → GivesValue value (Ok v) → members_of w ≡ present_members (members_of v)
    → GivesValue (then_give value present) (Ok w)
present_read (Ok x) v w is same = ap structure same ∙ ap present is
present_read (Err e) v w is same = absurd is

pub present_refused : (value : Result Value SerdeError) (e : SerdeError) → GivesValue value (Err e) → GivesValue (then_give value present) (Err e)
present_refused (Ok x) e is = is
present_refused (Err x) e is = is

-- what a body that holds a whole structure is read as
module _ (floors : Bool) (n : Schema) (r : Response) (reader : ValueReader) (body : Option Held) (by : reader_node reader ≡ Some n)
    (at : body ≡ Some (held_in_body (style_of false floors) (whole_form n) r)) where
  read_here : (result : Result StructValue SerdeError) → IfSome body (λ h. gives_structure reader h result)
      → GivesValue (value_of_structure value_read (shape n) (held_in_body (style_of false floors) (whole_form n) r)) result
  read_here result is = subst (λ o. IfSome o (λ h. gives_structure reader h result)) at is n by

  pub whole_read : (v w : StructValue) → IfSome body (λ h. gives_structure reader h (Ok v)) → members_of w ≡ present_members (members_of v)
      → GivesValue (aws_json_value floors n r) (Ok w)
  unfolding aws_json_value
  whole_read v w is same = present_read _ v w (read_here (Ok v) is) same

  pub whole_refused : (e : SerdeError) → IfSome body (λ h. gives_structure reader h (Err e)) → GivesValue (aws_json_value floors n r) (Err e)
  unfolding aws_json_value
  whole_refused e is = present_refused _ e (read_here (Err e) is)
