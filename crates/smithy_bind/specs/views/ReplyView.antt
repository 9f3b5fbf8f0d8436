-- What a response is read by, and what is read of it, as the code has them.
use Rattle.std.specs.Prelude.{◌≡◌, ℕ, codes, Bool, true, false, List, [], ◌∷◌, ◌++◌, Option, Some, None, option_map, Result, Ok, Err, OnOk, IfOk, IfSome, Vec}
use Rattle.std.specs.Borrow.{Bor}
use Rattle.std.specs.List.{AllByRecursion}
use Rattle.std.specs.declared.alloc.Global.{Global}
use Rattle.json.specs.Token as token
use Rattle.json.specs.Token.{Token}
use Rattle.serde_json.specs.Data.{Data}
use Rattle.serde_json.specs.Written.{compact_text}
use Rattle.smithy_types.specs.Documents.{Document}
use Rattle.smithy_http.specs.Responses.{Response}
use Rattle.smithy_http.specs.declared.non_utf8.NonUtf8HeaderHandling.{NonUtf8HeaderHandling}
use Rattle.smithy_schema.specs.Nodes.{Table, Schema, at_place}
use Rattle.smithy_serde.specs.Refusals.{IsRefusal}
use Rattle.smithy_serde.specs.declared.error.SerdeError.{SerdeError}
use Rattle.smithy_serde.specs.declared.error.SerdeError.TheVariants.{OutOfMemory}
use Rattle.smithy_document.specs.JsonText.{json_text}
use Rattle.smithy_binding.specs.CheckedOutput.{checked_output}
use Rattle.smithy_model.specs.declared.error.JobError.{JobError}
use Rattle.smithy_model.specs.declared.error.JobError.TheVariants as job_error
use Rattle.smithy_model.specs.Nodes.{Errors}
use Rattle.smithy_response.specs.ResponseValue.{value_of_response}
use Rattle.smithy_job.specs.Jobs as jobs
use Rattle.smithy_job.specs.Keys as keys
use Rattle.smithy_job.specs.KeysView.{keys_seen}
use Rattle.smithy_job.specs.ReceivedView.{message_seen, IsCoded, IsExpected}
use Rattle.smithy_job.specs.Tables.{Has, ReadsAs}
use Rattle.smithy_job.specs.declared.received.CodedError.{CodedError}
use Rattle.smithy_job.specs.declared.received.Expected.{Expected}
use Rattle.smithy_job.specs.declared.received.ExpectedIn.{ExpectedIn}
use Rattle.smithy_job.specs.declared.received.Message.{Message}
use Rattle.smithy_bind.specs.Lines.{fault_value}
use Rattle.smithy_bind.specs.Replying.{reply_line}
use Rattle.smithy_bind.specs.Responding as answers
use Rattle.smithy_bind.specs.Responding.{body_held, by_schema, checked_target, document_read, error_of, reply_by, shown_reply, target_asked, target_found, target_of, unknown}
use Rattle.smithy_bind.specs.Shown.{refusal_words}
use Rattle.smithy_bind.specs.views.LineView.{status_tokens}
use Rattle.smithy_bind.specs.declared.reply.Reply.{Reply}
use Rattle.smithy_bind.specs.declared.responded.Known.{Known}
use Rattle.smithy_bind.specs.declared.target.By.{By}
use Rattle.smithy_bind.specs.declared.target.By.TheVariants.{Schema as BySchema, Unknown}
use Rattle.smithy_bind.specs.declared.target.Target.{Target}

-- ---- what is read of a response

abbrev pub name_seen : Option (Bor (List ℕ)) → Option (List ℕ)
name_seen error = option_map (λ t. t.now) error

pub record IsReply (stored : Reply) (is : answers.Reply) : Type 0 where
  pub error : name_seen stored.error ≡ is.error
  pub text : stored.text ≡ json_text is.document

-- it is the text of what is read of a response
abbrev pub ShowsReply : Reply → Vec ℕ Global → Type 0
ShowsReply reply text = (is : answers.Reply) → IsReply reply is → text.items ≡ shown_reply is

-- this was made, or refused with this; want of memory is free
abbrev pub Makes : {A V : Type 0} → (A → V → Type 0) → Result V SerdeError → Result A SerdeError → Type 0
Makes Is (Ok v) (Ok a) = Is a v
Makes Is (Ok v) (Err e) = e ≡ OutOfMemory
Makes Is (Err x) (Ok a) = ⊥
Makes Is (Err x) (Err e) = IsRefusal x e

-- the text of this document, or this refusal
abbrev pub MakesText : Result Document SerdeError → Result (List ℕ) SerdeError → Type 0
MakesText is result = Makes (λ text d. text ≡ json_text d) is result

abbrev pub Replies : Result answers.Reply SerdeError → Result Reply SerdeError → Type 0
Replies is result = Makes IsReply is result

-- the text of what is read of a response by the schema at a place
abbrev pub ReadsText : Table → ℕ → (is_error : Bool) → Response → NonUtf8HeaderHandling → Result (List ℕ) SerdeError → Type 0
ReadsText table place is_error r policy result =
    (s : Schema) → at_place table place ≡ Some s → MakesText (document_read (value_of_response s r (body_held r) is_error policy)) result

-- ---- what a response is read by

-- the name of an error that was found for a code
abbrev pub name_of : (is_coded : Bool) → Schema → Option (List ℕ)
name_of true s = Some s.node.full_name
name_of false s = None

-- it is that name, of the schema at a place
abbrev pub NamesSchema : Table → ℕ → (is_coded : Bool) → Option (Bor (List ℕ)) → Type 0
NamesSchema table place is_coded result = (s : Schema) → at_place table place ≡ Some s → name_seen result ≡ name_of is_coded s

-- a schema that stands at a place of a table, or a code that no error has
abbrev pub IsBy : Table → By → answers.Target → Type 0
IsBy table (BySchema place is_error is_coded) is = (s : Schema) × (at_place table place.0 ≡ Some s) × (is ≡ by_schema s is_error (name_of is_coded s))
IsBy table (Unknown code) is = is ≡ unknown code.now

abbrev pub IsTarget : Target → answers.Target → Type 0
IsTarget stored is = IsBy stored.table stored.by is

-- some response can be read by it
abbrev pub IsSound : Target → Type 0
IsSound stored = (is : answers.Target) × IsTarget stored is

-- it is read by the schema at a place, where a response can be
abbrev pub ReadsSchema : Table → ℕ → (is_error is_coded : Bool) → Result By JobError → Type 0
ReadsSchema table place is_error is_coded result =
    (s : Schema) → at_place table place ≡ Some s → ReadsAs (IsBy table) (checked_target s is_error (name_of is_coded s)) result

-- it is read by the error of a code, whatever the errors are that the code is looked for in
abbrev pub ReadsCoded : Table → CodedError → Result By JobError → Type 0
ReadsCoded table error result =
    (errors : Errors) → IsCoded table error errors → ReadsAs (IsBy table) (target_found error.code.now (error_of error.code.now errors)) result

-- it is read by what is expected
abbrev pub ReadsExpected : Table → Expected → Result By JobError → Type 0
ReadsExpected table expected result = (is : jobs.Expected) → IsExpected table expected is → ReadsAs (IsBy table) (target_of is) result

-- there is something that is expected
abbrev pub IsExpectable : Table → Expected → Type 0
IsExpectable table expected = (is : jobs.Expected) × IsExpected table expected is

-- what is read of a response by it
abbrev pub RepliesBy : Target → Message → Result Reply SerdeError → Type 0
RepliesBy target m result = (is : answers.Target) → IsTarget target is → Replies (reply_by is m.response m.policy) result

-- it is such a target, where it is there
abbrev pub IsSoundOrNone : Option Target → Type 0
IsSoundOrNone stored = IfSome stored IsSound

-- ---- what is known of many responses

-- it is what a response with these keys is read by, or there is nothing that it could be read by
abbrev pub IsTargetOf : keys.Keys → Option Target → Type 0
IsTargetOf k (Some t) = Has (target_asked k) (IsTarget t)
IsTargetOf k None = target_asked k ≡ None

-- it is known of keys of this model
pub record IsKnown (of : Option Data) (known : Known) : Type 0 where
  pub model : (keys_seen known.keys).model ≡ of
  pub target : IsTargetOf (keys_seen known.keys) known.target

abbrev pub AreKnown : Option Data → List Known → Type 0
AreKnown model known = AllByRecursion (IsKnown model) known

-- ---- lines

abbrev pub error_tokens : Option (List ℕ) → List Token
error_tokens None = []
error_tokens (Some name) = token.key (codes "error") ∷ token.string name ∷ []

-- those before the value
abbrev pub front_tokens : Option (List ℕ) → List Token
front_tokens error = status_tokens 0 ++ (error_tokens error ++ token.key (codes "value") ∷ [])

-- it is the line of what was read of a response
abbrev pub IsReplyLine : Result Reply SerdeError → List ℕ → Type 0
IsReplyLine made line = (is : Result answers.Reply SerdeError) → Replies is made → line ≡ reply_line (Some is)

abbrev pub IsValueLine : Reply → List ℕ → Type 0
IsValueLine reply line = (is : answers.Reply) → IsReply reply is → line ≡ reply_line (Some (Ok is))

-- it is the line of a refusal; want of memory is passed on
pub record WritesRefused {E : Type 0} (e : SerdeError) (result : Result (Vec ℕ Global) E) : Type 0 where
  pub line : IfOk result (λ l. l.items ≡ reply_line (Some (Err e)))
  pub memory : e ≡ OutOfMemory → OnOk result ⊥

abbrev pub IsLineBy : Option Target → Message → Vec ℕ Global → Type 0
IsLineBy (Some t) m line = (is : answers.Target) → IsTarget t is → line.items ≡ reply_line (Some (reply_by is m.response m.policy))
IsLineBy None m line = line.items ≡ reply_line None
