-- The first place of a value that keeps it from being a job of a command.
use Rattle.std.specs.Prelude.{ℕ, ◌+◌, List, [], ◌∷◌, ◌++◌, codes, Bool, true, is_some, is_none, Option, Some, None, option_and_then, unwrap_or}
use Rattle.std.specs.Option.{option_map_or}
use Rattle.serde_json.specs.Data.{Data}
use Rattle.serde_json.specs.Find.{get, as_str}
use Rattle.smithy_model.specs.Json.{items_in, text_at}
use Rattle.smithy_model.specs.Models as models
use Rattle.smithy_model.specs.Shapes.{found_at}
use Rattle.smithy_model.specs.Wrong.{Wrong, ◌or◌, asked_here, asked_at, in_key, in_item, unless_here, unless_at, first_in, first_item, within, Leads}
use Rattle.smithy_model.specs.WrongModels.{is_object, wrong_name, wrong_in_shapes, wrong_in_errors, may_have, may_have_http, shapes_in, wrong_model}
use Rattle.smithy_job.specs.Answering.{operation_code}
use Rattle.smithy_job.specs.Gateway.{sending}
use Rattle.smithy_job.specs.Jobs.{full_name_in, names_given, received_by}
use Rattle.smithy_job.specs.Keys.{keys_among}
use Rattle.smithy_job.specs.Responses.{policy_given, status_in}
use Rattle.smithy_job.specs.Settings.{endpoint, rpc_endpoint, flag_given}
use Rattle.smithy_job.specs.WrongInputs.{wrong_many, wrong_writes}
use Rattle.smithy_job.specs.WrongMessages.{wrong_request, wrong_response}
use Rattle.smithy_job.specs.declared.job_kind.JobKind.{JobKind}
use Rattle.smithy_job.specs.declared.job_kind.JobKind.TheVariants as kind
use Rattle.smithy_job.specs.declared.job_part.JobPart.{JobPart}
use Rattle.smithy_job.specs.declared.job_part.JobPart.TheVariants as part

-- the parts of a job in the order in which they are read: an object, its keys, and the shapes that they reach
unfoldable pub parts_of : JobKind → List JobPart
parts_of kind.Request = part.Object ∷ part.Model ∷ part.Operation ∷ part.Input ∷ part.Endpoint ∷ part.Omit ∷ part.InputShapes ∷ []
parts_of kind.Requests = part.Object ∷ part.Model ∷ part.Operation ∷ part.Inputs ∷ part.Endpoint ∷ part.Omit ∷ part.InputShapes ∷ []
parts_of kind.Rpc = part.Object ∷ part.Model ∷ part.Operation ∷ part.Input ∷ part.Endpoint ∷ part.Omit ∷ part.InputShapes ∷ []
parts_of kind.Response =
    part.Object ∷ part.Model ∷ part.Operation ∷ part.Response ∷ part.Error ∷ part.Code ∷ part.ServiceErrors ∷ part.Policy ∷ part.ExpectedShapes ∷ []
parts_of kind.Responses = part.Object ∷ part.Model ∷ part.Responses ∷ []
parts_of kind.Recover = part.Object ∷ part.Model ∷ part.Operation ∷ part.Endpoint ∷ part.Omit ∷ part.Request ∷ part.InputShapes ∷ []
parts_of kind.Route = part.Object ∷ part.AnyModel ∷ part.Omit ∷ part.Request ∷ part.Operations ∷ []
parts_of kind.Gateway =
    part.Object ∷ part.Model ∷ part.Operation ∷ part.Endpoint ∷ part.Omit ∷ part.Request ∷ part.To ∷ part.RpcEndpoint ∷ part.InputShapes ∷ []
parts_of kind.Answer = part.Object ∷ part.Model ∷ part.Operation ∷ part.Output ∷ part.Status ∷ part.OutputShapes ∷ part.OperationCode ∷ []

-- what stands under a key that has to be there, or these words
abbrev pub wrong_under : (Data → Option Wrong) → List ℕ → List ℕ → Data → Option Wrong
wrong_under f key words job = in_key key (option_map_or f (get key job) (Some (asked_here words)))

-- the shapes of a job's model
abbrev pub shapes_given : Data → Option Data
shapes_given job = option_and_then shapes_in (get (codes "model") job)

-- what is found among the shapes of a model
abbrev pub in_model_shapes : Option Wrong → Option Wrong
in_model_shapes found = in_key (codes "model") (in_key (codes "shapes") found)

abbrev pub in_shapes : (Data → Option Wrong) → Data → Option Wrong
in_shapes f job = in_model_shapes (option_and_then f (shapes_given job))

abbrev pub is_operation_named : Data → List ℕ → Bool
is_operation_named job name = option_map_or (λ shapes. is_some (found_at shapes name)) (shapes_given job) true

-- the name of an operation of the model
unfoldable pub wrong_operation_named : Data → List ℕ → Option Wrong
wrong_operation_named job name = unless_here (is_operation_named job name) (name ++ codes " is no operation of the model")

unfoldable pub wrong_operation_of : Data → Option Wrong
wrong_operation_of job =
    in_key (codes "operation")
    (option_map_or (wrong_operation_named job) (text_at (codes "operation") job) (Some (asked_here (codes "the full name of an operation is asked"))))

unfoldable pub wrong_status : Data → Option Wrong
wrong_status job =
    option_and_then (λ d. unless_at (is_some (status_in d)) (codes "status") (codes "a whole number from 100 to 999 is asked")) (get (codes "status") job)

-- the headers to be left out
unfoldable pub wrong_omit : Data → Option Wrong
wrong_omit d =
    unless_here (is_object d) (codes "an object is asked")
    or unless_at (is_some (flag_given (get (codes "contentType") d))) (codes "contentType") (codes "true or false is asked")
    or unless_at (is_some (flag_given (get (codes "contentLength") d))) (codes "contentLength") (codes "true or false is asked")

unfoldable pub wrong_omit_of : Data → Option Wrong
wrong_omit_of job = in_key (codes "omit") (option_and_then wrong_omit (get (codes "omit") job))

-- the operation of a job has this error
abbrev pub may_have_error : List ℕ → Data → Data → Bool
may_have_error name job shapes = option_map_or (may_have (models.error name) shapes) (text_at (codes "operation") job) true

abbrev pub wrong_error_in : List ℕ → Data → Data → Option Wrong
wrong_error_in name job shapes =
    unless_here (may_have_error name job shapes) (name ++ codes " is no error of the operation")
    or wrong_name shapes name

unfoldable pub wrong_error_named : Data → List ℕ → Option Wrong
wrong_error_named job name = option_and_then (wrong_error_in name job) (shapes_given job)

abbrev pub wrong_error_given : Data → Data → Option Wrong
wrong_error_given job d = option_map_or (wrong_error_named job) (as_str d) (Some (asked_here (codes "the full name of an error is asked")))

unfoldable pub wrong_error : Data → Option Wrong
wrong_error job = in_key (codes "error") (option_and_then (wrong_error_given job) (get (codes "error") job))

-- `code` and `serviceErrors` stand without `error`
abbrev pub is_alone : Data → Bool
is_alone job = is_none (get (codes "error") job)

abbrev pub wrong_code_given : Data → Data → Option Wrong
wrong_code_given job d =
    unless_here (is_alone job) (codes "nothing is asked beside `error`")
    or unless_here (is_some (as_str d)) (codes "a text is asked")

unfoldable pub wrong_code : Data → Option Wrong
wrong_code job = in_key (codes "code") (option_and_then (wrong_code_given job) (get (codes "code") job))

abbrev pub wrong_full_name : Data → Option Wrong
wrong_full_name d = unless_here (is_some (full_name_in d)) (codes "the full name of an error is asked")

unfoldable pub wrong_full_names : Data → Option Wrong
wrong_full_names d = option_map_or (first_item wrong_full_name 0) (items_in d) (Some (asked_here (codes "an array of full names is asked")))

abbrev pub wrong_service_given : Data → Data → Option Wrong
wrong_service_given job d = unless_here (is_alone job) (codes "nothing is asked beside `error`") or wrong_full_names d

unfoldable pub wrong_service_errors : Data → Option Wrong
wrong_service_errors job = in_key (codes "serviceErrors") (option_and_then (wrong_service_given job) (get (codes "serviceErrors") job))

-- the shapes that are reached from what is asked of a job's operation
abbrev pub wrong_asked_of : models.Asked → Data → List ℕ → Option Wrong
wrong_asked_of asked job name = in_shapes (λ shapes. wrong_in_shapes asked shapes name) job

unfoldable pub wrong_shapes : models.Asked → Data → Option Wrong
wrong_shapes asked job = option_and_then (wrong_asked_of asked job) (text_at (codes "operation") job)

-- the errors of a service have to be there
abbrev pub wrong_service : Data → List (List ℕ) → Option Wrong
wrong_service job names = in_key (codes "serviceErrors") (option_and_then (λ shapes. first_item (wrong_name shapes) 0 names) (shapes_given job))

abbrev pub wrong_errors_of : List (List ℕ) → Data → List ℕ → Option Wrong
wrong_errors_of names job name = in_shapes (λ shapes. wrong_in_errors names shapes name) job

unfoldable pub wrong_coded_by : Data → List (List ℕ) → Option Wrong
wrong_coded_by job names = wrong_service job names or option_and_then (wrong_errors_of names job) (text_at (codes "operation") job)

abbrev pub wrong_coded : Data → Option Wrong
wrong_coded job = option_and_then (wrong_coded_by job) (names_given (get (codes "serviceErrors") job))

-- what a response is read as: an error by its name, one by its code, or an output
abbrev pub wrong_by_code : Data → Option Data → Option Wrong
wrong_by_code job None = wrong_shapes models.output job
wrong_by_code job (Some d) = wrong_coded job

abbrev pub wrong_by_error : Data → Option Data → Option Wrong
wrong_by_error job None = wrong_by_code job (get (codes "code") job)
wrong_by_error job (Some d) = option_and_then (λ name. wrong_shapes (models.error name) job) (as_str d)

unfoldable pub wrong_expected : Data → Option Wrong
wrong_expected job = wrong_by_error job (get (codes "error") job)

-- the code of a job's operation, which counts where the job has no `status`
abbrev pub wrong_operation_code_at : Data → List ℕ → Option Wrong
wrong_operation_code_at job name =
    in_model_shapes (in_key name (in_key (codes "traits") (in_key (codes "smithy.api#http")
    (unless_at (is_some (operation_code job)) (codes "code") (codes "a whole number from 100 to 999 is asked, or `status` in the job")))))

abbrev pub wrong_code_without : Data → Option Data → Option Wrong
wrong_code_without job None = option_and_then (wrong_operation_code_at job) (text_at (codes "operation") job)
wrong_code_without job (Some d) = None

unfoldable pub wrong_operation_code : Data → Option Wrong
wrong_operation_code job = wrong_code_without job (get (codes "status") job)

-- an operation of many, of this position, with `@http`
abbrev pub at_operation : ℕ → Option Wrong → Option Wrong
at_operation i found = in_key (codes "operations") (in_item i found)

unfoldable pub wrong_routed_name : Data → ℕ → List ℕ → Option Wrong
wrong_routed_name shapes i name =
    at_operation i (unless_here (is_some (found_at shapes name)) (name ++ codes " is no operation of the model"))
    or in_model_shapes (wrong_in_shapes models.input shapes name)
    or at_operation i (unless_here (may_have_http shapes name) (name ++ codes " has no smithy.api#http"))

abbrev pub wrong_routed : Data → ℕ → Data → Option Wrong
wrong_routed shapes i d =
    option_map_or (wrong_routed_name shapes i) (as_str d) (at_operation i (Some (asked_here (codes "the full name of an operation is asked"))))

abbrev pub first_routed : Data → ℕ → List Data → Option Wrong
first_routed shapes i [] = None
first_routed shapes i (d ∷ ds) = wrong_routed shapes i d or first_routed shapes (i + 1) ds

abbrev pub wrong_listed : List Data → Data → Option Wrong
wrong_listed ds model = option_map_or (λ shapes. first_routed shapes 0 ds) (shapes_in model) (in_key (codes "model") (wrong_model model))

abbrev pub operations_given : Data → Option (List Data)
operations_given job = option_and_then items_in (get (codes "operations") job)

unfoldable pub wrong_operations : Data → Option Wrong
wrong_operations job =
    option_map_or (λ ds. option_and_then (wrong_listed ds) (get (codes "model") job)) (operations_given job)
    (Some (asked_at (codes "operations") (codes "an array of full names is asked")))

unfoldable pub wrong_model_part : Data → Option Wrong
wrong_model_part job = wrong_under wrong_model (codes "model") (codes "an object with `shapes` is asked") job

-- an input or an output
unfoldable pub wrong_written_part : List ℕ → Data → Option Wrong
wrong_written_part key job = wrong_under wrong_writes key (codes "an object from names to values is asked, or an array of pairs") job

-- an item among many responses: its own response, and then whether it is a job of one
abbrev pub wrong_item_response : Data → Option Wrong
wrong_item_response item = in_key (codes "response") (option_and_then wrong_response (get (codes "response") item))

unfoldable pub wrong_item : Data → Data → Option Wrong
wrong_item job item =
    wrong_item_response item
    or unless_here (is_some (received_by (keys_among job item))) (codes "a job of `response` is asked, with the keys of the whole job beside")

abbrev pub wrong_responses : Data → Data → Option Wrong
wrong_responses job d = option_map_or (first_item (wrong_item job) 0) (items_in d) (Some (asked_here (codes "an array of responses is asked")))

unfoldable pub wrong_responses_part : Data → Option Wrong
wrong_responses_part job = wrong_under (wrong_responses job) (codes "responses") (codes "an array of responses is asked") job

-- many inputs
unfoldable pub wrong_inputs_part : Data → Option Wrong
wrong_inputs_part job = wrong_under wrong_many (codes "inputs") (codes "an array of inputs is asked") job

unfoldable pub wrong_response_part : Data → Option Wrong
wrong_response_part job = wrong_under wrong_response (codes "response") (codes "an object with `status` is asked") job

unfoldable pub wrong_request_part : Data → Option Wrong
wrong_request_part job = wrong_under wrong_request (codes "request") (codes "an object with `method` and `target` is asked") job

unfoldable pub wrong_object : Data → Option Wrong
wrong_object job = unless_here (is_object job) (codes "an object is asked")

unfoldable pub wrong_any_model : Data → Option Wrong
wrong_any_model job = unless_at (is_some (get (codes "model") job)) (codes "model") (codes "an object with `shapes` is asked")

unfoldable pub wrong_endpoint : Data → Option Wrong
wrong_endpoint job = unless_at (is_some (endpoint job)) (codes "endpoint") (codes "a text is asked")

unfoldable pub wrong_policy : Data → Option Wrong
wrong_policy job = unless_at (is_some (policy_given (get (codes "policy") job))) (codes "policy") (codes "`reject` or `skip` is asked")

unfoldable pub wrong_to : Data → Option Wrong
wrong_to job = unless_at (is_some (sending job)) (codes "to") (codes "`rpc` or `rest` is asked")

unfoldable pub wrong_rpc_endpoint : Data → Option Wrong
wrong_rpc_endpoint job = unless_at (is_some (rpc_endpoint job)) (codes "rpcEndpoint") (codes "a legal target is asked, or the empty text")

-- what is wrong with a part of a job
unfoldable pub wrong_part : Data → JobPart → Option Wrong
wrong_part job part.Object = wrong_object job
wrong_part job part.Model = wrong_model_part job
wrong_part job part.AnyModel = wrong_any_model job
wrong_part job part.Operation = wrong_operation_of job
wrong_part job part.Input = wrong_written_part (codes "input") job
wrong_part job part.Inputs = wrong_inputs_part job
wrong_part job part.Output = wrong_written_part (codes "output") job
wrong_part job part.Status = wrong_status job
wrong_part job part.Endpoint = wrong_endpoint job
wrong_part job part.Omit = wrong_omit_of job
wrong_part job part.Response = wrong_response_part job
wrong_part job part.Responses = wrong_responses_part job
wrong_part job part.Error = wrong_error job
wrong_part job part.Code = wrong_code job
wrong_part job part.ServiceErrors = wrong_service_errors job
wrong_part job part.Policy = wrong_policy job
wrong_part job part.Request = wrong_request_part job
wrong_part job part.Operations = wrong_operations job
wrong_part job part.To = wrong_to job
wrong_part job part.RpcEndpoint = wrong_rpc_endpoint job
wrong_part job part.InputShapes = wrong_shapes models.input job
wrong_part job part.OutputShapes = wrong_shapes models.output job
wrong_part job part.ExpectedShapes = wrong_expected job
wrong_part job part.OperationCode = wrong_operation_code job

-- and where nothing is found, the job as a whole
abbrev pub or_whole : Option Wrong → Wrong
or_whole found = unwrap_or found (asked_here (codes "a job of this command is asked"))

-- what is found in a job of a command, whose place leads into it
unfoldable pub wrong_in_job : JobKind → Data → Wrong
wrong_in_job k job = within job (or_whole (first_in (wrong_part job) (parts_of k)))

-- the place leads to a value of the job, or to a key that an object there lacks
abbrev pub WrongPlacesLead : Type 0
WrongPlacesLead = (k : JobKind) (job : Data) → Leads job (wrong_in_job k job).path
