-- A request can be placed by the schema that is made in code.
use Rattle.std.proofs.Common.{◌≡◌, refl, subst, true, [], Result}
use Rattle.smithy_http.specs.Requests.{Request}
use Rattle.smithy_schema.specs.Nodes.{Schema}
use Rattle.smithy_serde.specs.Values.{Writes, list_of}
use Rattle.smithy_serde.specs.declared.error.SerdeError.{SerdeError}
use Rattle.smithy_binding.proofs.OnLiterals.{binding_on_literals}
use Rattle.smithy_binding.specs.Answer.{answer}
use Rattle.smithy_binding.specs.Checked.{checked_input}
use Rattle.smithy_binding.specs.Placing.{OmitFlags}
use Rattle.smithy_binding.specs.Refusing.{Answers}
use Rattle.uses.specs.Answering.{RestAnswers, RestAnswersModel, json_bodies, keep_all}
use Rattle.uses.specs.GetObject.{schema_at, input_node}

pub get_object_is_checked : checked_input (schema_at input_node) ≡ true
unfolding binding_on_literals
get_object_is_checked = refl

-- what is answered by that schema
pub model_answered : (schema : Schema) (ws is : Writes) (omit : OmitFlags) (result : Result Request SerdeError) → schema ≡ schema_at input_node
    → ws ≡ is → omit ≡ keep_all → RestAnswers schema ws [] omit result → RestAnswersModel is result
model_answered schema ws is omit result same writes kept told =
    let by_node : RestAnswers (schema_at input_node) ws [] omit result = subst (λ (s : Schema). RestAnswers s ws [] omit result) same told in
    let of_writes : RestAnswers (schema_at input_node) is [] omit result = subst (λ (w : Writes). RestAnswers (schema_at input_node) w [] omit result) writes by_node in
    subst (λ (o : OmitFlags). Answers result (answer json_bodies (schema_at input_node) (list_of is) [] o)) kept (of_writes get_object_is_checked)
