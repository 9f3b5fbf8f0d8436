-- What is answered to a response (Smithy, HTTP protocol bindings).
use Rattle.std.specs.Prelude.{ℕ, codes, Bool, true, false, List, [], ◌∷◌, ◌++◌, Option, Some, None, option_map, option_and_then, unwrap_or, Result, Ok, Err}
use Rattle.std.specs.Option.{option_or}
use Rattle.serde_json.specs.Data.{Data}
use Rattle.smithy_types.specs.Documents.{Document}
use Rattle.smithy_types.specs.Maps.{with_value}
use Rattle.smithy_http.specs.Responses.{Response}
use Rattle.smithy_http.specs.declared.non_utf8.NonUtf8HeaderHandling.{NonUtf8HeaderHandling}
use Rattle.smithy_schema.specs.Nodes.{Schema}
use Rattle.smithy_serde.specs.DocumentOf.{DocumentFault, document_of, document_fault_text}
use Rattle.smithy_serde.specs.Held.{Held}
use Rattle.smithy_serde.specs.Values.{Value}
use Rattle.smithy_serde.specs.declared.error.SerdeError.{SerdeError}
use Rattle.smithy_serde.specs.declared.error.SerdeError.TheVariants.{Custom, UnknownMember}
use Rattle.smithy_json.specs.FromText.{document_of_text}
use Rattle.smithy_document.specs.JsonHeld.{held_of}
use Rattle.smithy_document.specs.JsonText.{json_text}
use Rattle.smithy_binding.specs.CheckedOutput.{checked_output}
use Rattle.smithy_registry.specs.ErrorCodes.{sanitized}
use Rattle.smithy_registry.specs.Registries.{by_code}
use Rattle.smithy_response.specs.ResponseValue.{value_of_response}
use Rattle.smithy_model.specs.Json.{provided}
use Rattle.smithy_model.specs.Nodes.{Errors}
use Rattle.smithy_job.specs.Jobs as jobs
use Rattle.smithy_job.specs.Jobs.{Expected, Message, expected, message}
use Rattle.smithy_job.specs.Keys.{Keys, keys_of}
use Rattle.smithy_bind.specs.Shown.{refusal_line}
use Rattle.smithy_bind.specs.Told.{Outcome, fault_line, output, outcome_of}

-- the compact JSON text of a document and the end of the line, or the line of the first rule that is broken
abbrev pub shown_document : Result Document DocumentFault → Outcome
shown_document (Ok d) = output (json_text d ++ codes "\n")
shown_document (Err f) = fault_line (refusal_line (Custom (document_fault_text f)))

-- what is read of a response: the document of its value, and the full name of its error where that was found for a code
pub record Reply : Type 0 where
  pub error : Option (List ℕ)
  pub document : Document

-- a document that was made, or its first broken rule as a refusal
abbrev pub made_document : Result Document DocumentFault → Result Document SerdeError
made_document (Ok d) = Ok d
made_document (Err f) = Err (Custom (document_fault_text f))

abbrev pub document_read : Result Value SerdeError → Result Document SerdeError
document_read (Ok v) = made_document (document_of v)
document_read (Err e) = Err e

abbrev pub reply_with : Option (List ℕ) → Result Document SerdeError → Result Reply SerdeError
reply_with error (Ok d) = Ok (record { error = error; document = d })
reply_with error (Err e) = Err e

-- what a reader of JSON has at hand over the body, over no bytes where it is not buffered
abbrev pub body_held : Response → Held
body_held r = held_of (document_of_text (unwrap_or r.body []))

-- what is read of a response by a schema, as an output or as a modelled error
unfoldable pub read_by : Schema → (is_error : Bool) → (error : Option (List ℕ)) → Response → NonUtf8HeaderHandling → Result Reply SerdeError
read_by schema is_error error r policy = reply_with error (document_read (value_of_response schema r (body_held r) is_error policy))

-- the shapes of these schemas by their names, beside those that are there
abbrev pub with_errors : List Schema → List (List ℕ × Schema) → List (List ℕ × Schema)
with_errors [] entries = entries
with_errors (s ∷ ss) entries = with_errors ss (with_value s.node.full_name s entries)

-- the error of a code: of the shapes whose name is that of the code, the one with the least full name
abbrev pub error_with : List ℕ → List Schema → Option Schema
error_with code errors = by_code code (with_errors errors [])

-- the error of a code among the operation's, or else among its service's
unfoldable pub error_of : List ℕ → Errors → Option Schema
error_of code errors = option_or (error_with code errors.operation) (error_with code errors.service)

-- an output behind a name on a line of its own
abbrev pub behind_name : List ℕ → Outcome → Outcome
behind_name name (output text) = output (name ++ (codes "\n" ++ text))
behind_name name other = other

-- what a response is read by: a schema, as an output or as a modelled error, which may have been found for a code; or no error has the code
pub data Target : Type 0 where
  by_schema : Schema → (is_error : Bool) → (error : Option (List ℕ)) → Target
  unknown : List ℕ → Target

-- a schema that no response can be read by is none
abbrev pub checked_target : Schema → (is_error : Bool) → (error : Option (List ℕ)) → Option Target
checked_target s is_error error = provided (checked_output s) (Some (by_schema s is_error error))

abbrev pub target_found : List ℕ → Option Schema → Option Target
target_found code (Some s) = checked_target s true (Some s.node.full_name)
target_found code None = Some (unknown code)

unfoldable pub target_of : Expected → Option Target
target_of (jobs.output s) = checked_target s false None
target_of (jobs.error s) = checked_target s true None
target_of (jobs.coded code errors) = target_found code (error_of code errors)

-- what is read of a response, or the first refusal
abbrev pub reply_by : Target → Response → NonUtf8HeaderHandling → Result Reply SerdeError
reply_by (by_schema s is_error error) r policy = read_by s is_error error r policy
reply_by (unknown code) r policy = Err (UnknownMember (sanitized code))

-- what a response is read by for these keys
abbrev pub target_asked : Keys → Option Target
target_asked k = option_and_then target_of (expected k)

abbrev pub reply_with_target : Option Target → Message → Option (Result Reply SerdeError)
reply_with_target t m = option_map (λ t. reply_by t m.response m.policy) t

-- what is read of the response under these keys; none where there is no job of one
unfoldable pub reply_among : Keys → Option (Result Reply SerdeError)
reply_among k = option_and_then (reply_with_target (target_asked k)) (message k)

-- what is read of the response that a JSON value has
abbrev pub reply_to : Data → Option (Result Reply SerdeError)
reply_to d = reply_among (keys_of d)

-- an error's name on a line of its own, where it was found for a code, then the line of the value
abbrev pub error_line : Option (List ℕ) → List ℕ
error_line None = []
error_line (Some name) = name ++ codes "\n"

unfoldable pub shown_reply : Reply → List ℕ
shown_reply r = error_line r.error ++ (json_text r.document ++ codes "\n")

abbrev pub told_reply : Result Reply SerdeError → Outcome
told_reply (Ok r) = output (shown_reply r)
told_reply (Err e) = fault_line (refusal_line e)

-- the answer to a JSON value
unfoldable pub responded_to : Data → Outcome
responded_to d = outcome_of told_reply (reply_to d)
