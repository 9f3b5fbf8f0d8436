-- Requests of AWS's JSON protocols, by schemas that may be no ones for these, and by their calls.
use Rattle.std.proofs.Common.{◌≡◌, ℕ, codes, false, refl, sym, ap, subst, ◌∙◌, [], List, Option, Some, None, Result, Ok, Err}
use Rattle.std.specs.Prelude.{ok_or}
use Rattle.smithy_types.specs.Results.{then_try}
use Rattle.smithy_http.specs.Requests.{Request}
use Rattle.smithy_schema.specs.Nodes.{Schema}
use Rattle.smithy_serde.specs.Values.{Writes}
use Rattle.smithy_serde.specs.declared.error.SerdeError.{SerdeError}
use Rattle.smithy_binding.specs.Faults.{Fault}
use Rattle.smithy_binding.specs.Placing.{OmitFlags}
use Rattle.smithy_binding.specs.Refusing.{Answers, Says}
use Rattle.smithy_binding.proofs.OnLiterals.{binding_on_literals}
use Rattle.smithy_binding.proofs.Refusals.{TellsFault-then}
use Rattle.smithy_aws.specs.Added.{target_text}
use Rattle.smithy_aws.specs.Requests.{Call, aws_json_request, rest_json1_request, taken_input}
use Rattle.smithy_aws.specs.declared.aws_json.AwsJsonVersion.TheVariants.{V1_0}
use Rattle.uses.specs.Answering.{keep_all}
use Rattle.uses.specs.AwsBodies.{aws_request, unplaced}
use Rattle.uses.specs.GetItem.{get_item_request}
use Rattle.uses.specs.UpdateConfiguration.{schema_at, input_node}

module _ (o : Option Schema) (f : Schema → Result Request Fault) where
  abbrev made_by : Option Schema → Result Request Fault
  made_by schema = then_try (ok_or schema unplaced) f

  -- requests are made by this one
  pub made : (s : Schema) (result : Result Request SerdeError) → Some s ≡ o → Answers result (f s) → Answers result (then_try (ok_or o unplaced) f)
  made s result is told = subst (λ schema. Answers result (made_by schema)) is told

  -- and by none
  pub not_made : (e : SerdeError) → None ≡ o → Says e unplaced → Answers {A = Request} (Err e) (then_try (ok_or o unplaced) f)
  not_made e is told =
      subst (λ schema. Answers {A = Request} (Err e) (made_by schema)) is
      (TellsFault-then e (λ x. x ≡ unplaced) (λ x. made_by None ≡ Err x) (λ x same. ap (λ y. Err y) (sym same)) told)

-- requests are made by the schema that is made in code
pub update_is_taken : taken_input (schema_at input_node) ≡ Some (schema_at input_node)
unfolding binding_on_literals lib.Utf8.encode
update_is_taken = refl

-- what is answered by that schema
pub update_answered : (schema : Schema) (ws is : Writes) (omit : OmitFlags) (result : Result Request SerdeError) → schema ≡ schema_at input_node → ws ≡ is
    → omit ≡ keep_all → Answers result (aws_request schema ws [] omit) → Answers result (rest_json1_request (schema_at input_node) is [] keep_all)
update_answered schema ws is omit result same writes kept told =
    let by_node : Answers result (aws_request (schema_at input_node) ws [] omit) = subst (λ (s : Schema). Answers result (aws_request s ws [] omit)) same told in
    let of_writes : Answers result (aws_request (schema_at input_node) is [] omit) = subst (λ (w : Writes). Answers result (aws_request (schema_at input_node) w [] omit)) writes by_node in
    let kept_all : Answers result (aws_request (schema_at input_node) is [] keep_all) = subst (λ (k : OmitFlags). Answers result (aws_request (schema_at input_node) is [] k)) kept of_writes in
    subst (λ (o : Option Schema). Answers result (then_try (ok_or o unplaced) (λ s. rest_json1_request s is [] keep_all))) update_is_taken kept_all

-- a call by AWS JSON 1.0, by the names of the service and of the operation
abbrev call : List ℕ → List ℕ → Call
call service operation = record { version = V1_0; target = target_text service operation; is_query_compatible = false }

-- what is answered by the call of these names
pub get_item_answered : (service operation : List ℕ) (schema : Schema) (ws : Writes) (endpoint : List ℕ) (omit : OmitFlags) (result : Result Request SerdeError)
    → service ≡ codes "DynamoDB_20120810" → operation ≡ codes "GetItem" → Answers result (aws_json_request (call service operation) schema ws endpoint omit)
    → Answers result (get_item_request schema ws endpoint omit)
get_item_answered service operation schema ws endpoint omit result same named told =
    subst (λ (name : List ℕ). Answers result (aws_json_request (call (codes "DynamoDB_20120810") name) schema ws endpoint omit)) named
    (subst (λ (name : List ℕ). Answers result (aws_json_request (call name operation) schema ws endpoint omit)) same told)
