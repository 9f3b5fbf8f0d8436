-- The shapes that responses are read by, and the values by them.
use Rattle.std.proofs.Common.{◌≡◌, ℕ, Bool, true, false, Option, Some, None, Ok, Err, sym, ap, ◌∙◌}
use Rattle.std.specs.Prelude.{if◌then◌else◌, option_and_then}
use Rattle.smithy_http.specs.Responses.{Response}
use Rattle.smithy_http.specs.declared.non_utf8.NonUtf8HeaderHandling.{NonUtf8HeaderHandling}
use Rattle.smithy_schema.specs.Nodes.{Schema, Table, at_place}
use Rattle.smithy_serde.specs.Held.{Held}
use Rattle.smithy_serde.specs.Present.{present_members}
use Rattle.smithy_serde.specs.StoredValues.{HasNode}
use Rattle.smithy_serde.specs.StructValues.{members_of}
use Rattle.smithy_serde.specs.declared.error.SerdeError.{SerdeError}
use Rattle.smithy_serde.specs.declared.struct_value.StructValue.{StructValue}
use Rattle.smithy_serde.proofs.TableLemmas.{at_place-has_node}
use Rattle.smithy_response.specs.WholeResponses.{GivesResponse}
use Rattle.smithy_wire.specs.Forms.{body_form}
use Rattle.smithy_wire.specs.declared.side.Side.TheVariants as side
use Rattle.smithy_aws.specs.BodyValues.{held_in_body, style_of, GivesValue}
use Rattle.smithy_aws.specs.ResponseShapes.{shape_at}
use Rattle.smithy_aws.specs.ResponseValues.{rest_json1_value, schema_in, taken, takes_responses}
use Rattle.smithy_aws.proofs.BodyLemmas.{present_read, present_refused}

-- the node at a place
pub same_node : (t : Table) (place : ℕ) (n : Schema) → HasNode t place → Some n ≡ at_place t place → n ≡ schema_in t place
same_node t place n has there =
    let both : Some n ≡ Some (schema_in t place) = there ∙ sym (at_place-has_node t place has) in cc both

-- the shape there, where the test holds, and else none
pub is_taken : (t : Table) (place : ℕ) (is_error : Bool) (n : Schema) (b : Bool) → HasNode t place → Some n ≡ at_place t place → takes_responses n ≡ b
    → (if b then Some (shape_at t place is_error false) else None) ≡ option_and_then (taken is_error) (at_place t place)
is_taken t place is_error n b has there is =
    let here : b ≡ takes_responses (schema_in t place) = sym is ∙ ap takes_responses (same_node t place n has there) in
    ap (λ c. if c then Some (shape_at t place is_error false) else None) here
    ∙ ap (option_and_then (taken is_error)) (at_place-has_node t place has)

module _ (t : Table) (place : ℕ) (is_error floors : Bool) (r : Response) (policy : NonUtf8HeaderHandling) (body : Option Held) (has : HasNode t place)
    (at : body ≡ Some (held_in_body (style_of true floors) (body_form side.Response (schema_in t place)) r)) where
  pub rest_read : (v w : StructValue) → GivesResponse t place r is_error policy body (Ok v) → members_of w ≡ present_members (members_of v)
      → GivesValue (rest_json1_value (shape_at t place is_error floors) r policy) (Ok w)
  unfolding rest_json1_value
  rest_read v w is same = present_read _ v w (is (schema_in t place) (sym (at_place-has_node t place has)) _ at) same

  pub rest_refused : (e : SerdeError) → GivesResponse t place r is_error policy body (Err e)
      → GivesValue (rest_json1_value (shape_at t place is_error floors) r policy) (Err e)
  unfolding rest_json1_value
  rest_refused e is = present_refused _ e (is (schema_in t place) (sym (at_place-has_node t place has)) _ at)
