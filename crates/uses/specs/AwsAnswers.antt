-- What a response of AWS's JSON protocols is of an operation: its output, or an error (Smithy, AWS restJson1 and AWS JSON protocols).
use Rattle.std.specs.Prelude.{ℕ, Bool, true, false, codes, Option, Some, None, option_and_then, ok_or, Result}
use Rattle.smithy_types.specs.Results.{then_give, then_try}
use Rattle.smithy_http.specs.Responses.{Response}
use Rattle.smithy_http.specs.declared.non_utf8.NonUtf8HeaderHandling.TheVariants.{Reject}
use Rattle.smithy_registry.specs.declared.composed.ComposedRegistry.{ComposedRegistry}
use Rattle.smithy_schema.specs.Nodes.{Table, at_place}
use Rattle.smithy_model.specs.declared.table.ModelTable.{ModelTable}
use Rattle.smithy_serde.specs.ValueReading.{structure_of}
use Rattle.smithy_serde.specs.Values.{Value}
use Rattle.smithy_serde.specs.declared.error.SerdeError.{SerdeError}
use Rattle.smithy_serde.specs.declared.error.SerdeError.TheVariants.{InvalidInput}
use Rattle.smithy_aws.specs.BodyValues.{aws_json_value}
use Rattle.smithy_aws.specs.ErrorShapes.{error_in}
use Rattle.smithy_aws.specs.ResponseValues.{floored, rest_json1_value, taken}
use Rattle.uses.specs.declared.answers.Answered.{Answered}
use Rattle.uses.specs.declared.answers.Answered.TheVariants as answered

-- what is seen of an answer: the place of the error, where it is one, and the value
abbrev pub answered_view : Answered → Option ℕ × Value
answered_view (answered.Output v) = (None, structure_of v)
answered_view (answered.Error place v) = (Some place.0, structure_of v)

-- no response is read by the shape
abbrev pub unread : SerdeError
unread = InvalidInput (codes "no response is read by the shape")

-- the answer, from the value by the output and that by the error at a place, where the response has this error or none
abbrev pub answer_by : Result Value SerdeError → (ℕ → Result Value SerdeError) → Option ℕ → Result (Option ℕ × Value) SerdeError
answer_by output error None = then_give output λ v. (None, v)
answer_by output error (Some place) = then_give (error place) λ v. (Some place, v)

-- ---- restJson1

-- what a response has by the shape at a place, as an output or as an error; a header that is no UTF-8 is refused, and fractions of
-- seconds are dropped
abbrev pub rest_value : Table → ℕ → Bool → Response → Result Value SerdeError
rest_value table place is_error r =
    then_try (ok_or (option_and_then (taken is_error) (at_place table place)) unread) λ s. rest_json1_value (floored s) r Reject

-- the answer of an operation, by its output, or by the one of these errors that the response names
abbrev pub rest_answer : {R : Type 0} {g : _} → Table → ℕ → ComposedRegistry R g → Response → Result (Option ℕ × Value) SerdeError
rest_answer table output errors r =
    then_try (error_in errors r) (answer_by (rest_value table output false r) λ error. rest_value table error true r)

-- ---- AWS JSON 1.0 and 1.1

-- what a body has by the shape at a place; fractions of seconds are dropped
abbrev pub body_value : Table → ℕ → Response → Result Value SerdeError
body_value table place r = then_try (ok_or (at_place table place) unread) λ n. aws_json_value true n r

-- the answer of an operation, whose errors are of a table of their own
abbrev pub body_answer : {R : Type 0} {g : _} → ModelTable → Table → ComposedRegistry R g → Response → Result (Option ℕ × Value) SerdeError
body_answer output table errors r =
    then_try (error_in errors r) (answer_by (body_value output.table output.index.0 r) λ error. body_value table error r)
