-- The requests of restJson1, from their steps.
use Rattle.std.proofs.Common.{◌≡◌, sym, subst, ◌∙◌, ap, ℕ, List, Option, Some, None, Result, Ok, Err}
use Rattle.std.specs.Option.{option_map_or}
use Rattle.smithy_types.specs.Results.{then_give, then_try}
use Rattle.smithy_http.specs.Requests.{Request}
use Rattle.smithy_schema.specs.Nodes.{Schema}
use Rattle.smithy_serde.specs.Present.{present_members}
use Rattle.smithy_serde.specs.Values.{Writes, list_of}
use Rattle.smithy_serde.specs.declared.error.SerdeError.{SerdeError}
use Rattle.smithy_serde.specs.declared.header_omit_settings.OmitFlags.{OmitFlags}
use Rattle.smithy_binding.specs.Bindings.{headers}
use Rattle.smithy_binding.specs.Faults.{Fault}
use Rattle.smithy_binding.specs.Refusing.{Answers}
use Rattle.smithy_aws.specs.Added.{raw_payload, with_type}
use Rattle.smithy_aws.specs.Ready.{ready}
use Rattle.smithy_aws.specs.Requests.{body_followed, placed, rest_json1_request}
use Rattle.smithy_aws.proofs.RequestLemmas.{given_alone}

module _ (s : Schema) (ws there ps : Writes) (endpoint : List ℕ) (omit : OmitFlags) (result : Result Request SerdeError) (ready_is : there ≡ ready s ws)
    (present_is : ps ≡ present_members ws) where
  abbrev pub steps : Writes → Writes → Result Request Fault
  steps all present = then_try (placed s (list_of all) endpoint omit) (body_followed s present)

  abbrev typed_by : Writes → Option Schema → Request → Request
  typed_by all o r = option_map_or (λ m. with_type m omit (headers s (list_of all)) r) o r

  abbrev made_by : Writes → Writes → Option Schema → Result Request Fault
  made_by all present o = then_give (steps all present) (typed_by all o)

  of_ready : Answers result (made_by there ps (raw_payload s)) → Answers result (rest_json1_request s ws endpoint omit)
  unfolding rest_json1_request
  of_ready told =
      subst (λ all. Answers result (made_by all (present_members ws) (raw_payload s))) ready_is
      (subst (λ present. Answers result (made_by there present (raw_payload s))) present_is told)

  -- of a payload whose bytes are the body
  pub raw_given : (m : Schema) → Some m ≡ raw_payload s → Answers result (then_give (steps there ps) (with_type m omit (headers s (list_of there))))
      → Answers result (rest_json1_request s ws endpoint omit)
  raw_given m is told = of_ready (subst (λ o. Answers result (made_by there ps o)) is told)

  -- and of no such one
  pub coded_given : None ≡ raw_payload s → Answers result (steps there ps) → Answers result (rest_json1_request s ws endpoint omit)
  coded_given is told =
      of_ready (subst (λ o. Answers result (made_by there ps o)) is (subst (λ o. Answers result o) (sym (given_alone (steps there ps))) told))
