-- What is sent and read by a protocol of AWS, from its parts.
use Rattle.std.proofs.Common.{◌≡◌, refl, sym, ap, ◌∙◌, subst, codes, ℕ, Bool, true, false, List, ◌||◌, Option, Some, None, option_map, option_and_then, unwrap_or, Result, Ok, Err, if◌then◌else◌}
use Rattle.std.specs.Bool.{then_some}
use Rattle.std.specs.Borrow.{Bor}
use Rattle.std.specs.Option.{option_map_or}
use Rattle.serde_json.specs.Data.{Data}
use Rattle.smithy_types.specs.Documents.{Document}
use Rattle.smithy_schema.specs.Nodes.{Schema, Table, at_place}
use Rattle.smithy_schema.specs.declared.parts.SchemaIndex.{SchemaIndex}
use Rattle.smithy_serde.specs.Refusals.{IsRefusal}
use Rattle.smithy_serde.specs.Values.{Value, Writes}
use Rattle.smithy_serde.specs.declared.error.SerdeError.{SerdeError}
use Rattle.smithy_serde.specs.declared.error.SerdeError.TheVariants.{InvalidInput}
use Rattle.smithy_serde.specs.declared.header_omit_settings.OmitFlags.{OmitFlags}
use Rattle.smithy_serde.specs.declared.struct_value.StructValue.{StructValue}
use Rattle.smithy_aws.specs.BodyValues.{GivesValue}
use Rattle.smithy_aws.specs.ErrorCodes.{error_code}
use Rattle.smithy_aws.specs.Requests.{Call, aws_json_request, rest_json1_request, takes_requests, taken_input}
use Rattle.smithy_aws.specs.ResponseValues.{Shape, rest_json1_value, taken}
use Rattle.smithy_model.specs.Nodes.{Errors}
use Rattle.smithy_model.specs.PlacedView.{ArePlaced, ArePlacedAt, PlacesErrors}
use Rattle.smithy_model.specs.Reads.{Reads}
use Rattle.smithy_model.specs.declared.error.JobError.{JobError}
use Rattle.smithy_model.specs.declared.error.JobError.TheVariants as job_error
use Rattle.smithy_model.specs.declared.table.PlacedErrors.{PlacedErrors}
use Rattle.smithy_model.specs.declared.floats.Floats.TheVariants.{Decimals}
use Rattle.smithy_job.specs.Jobs as jobs
use Rattle.smithy_job.specs.Jobs.{errors_given_with_floats, expected_with_floats, message}
use Rattle.smithy_job.specs.Keys.{Keys}
use Rattle.smithy_job.specs.ReceivedView.{message_seen, IsCoded, IsExpected, IsExpectedIn}
use Rattle.smithy_job.specs.Tables.{Has, ReadsAs}
use Rattle.smithy_job.specs.declared.aws_call.AwsReading.{AwsReading}
use Rattle.smithy_job.specs.declared.received.CodedError.{CodedError}
use Rattle.smithy_job.specs.declared.received.Expected.{Expected}
use Rattle.smithy_job.specs.declared.received.Expected.TheVariants.{Output, Error, Coded}
use Rattle.smithy_job.specs.declared.received.ExpectedIn.{ExpectedIn}
use Rattle.smithy_job.specs.declared.received.Message.{Message}
use Rattle.smithy_bind.specs.AwsRequesting.{aws_json_sent, rest_json1_sent}
use Rattle.smithy_bind.specs.AwsResponding.{aws_reply, aws_reply_by, aws_target, coded_target, expected_for, floored_if, is_asked, message_read, named_error, reply_as, rest_json1_read, value_read}
use Rattle.smithy_bind.specs.Outcome.{told}
use Rattle.smithy_bind.specs.Responding as answers
use Rattle.smithy_bind.specs.Responding.{document_read, error_of, reply_with, told_reply}
use Rattle.smithy_bind.specs.Told.{Outcome, no_job, outcome_of}
use Rattle.smithy_bind.specs.declared.reply.Reply.{Reply}
use Rattle.smithy_bind.specs.declared.target.By.{By}
use Rattle.smithy_bind.specs.declared.target.By.TheVariants.{Schema as BySchema, Unknown}
use Rattle.smithy_bind.specs.declared.told.Answer.{Answer}
use Rattle.smithy_bind.specs.views.AnswerView.{Gives, job_of, TellsRefusal}
use Rattle.smithy_bind.specs.views.AwsView.{IsByFor, MakesValueText, NamesReply, ReadsByAws, ReadsReply, ReadsText, StandSomehow, TellsError, TellsExpected}
use Rattle.smithy_bind.specs.views.CodedView.{FindsCoded, IsFound}
use Rattle.smithy_bind.specs.views.ReplyView.{name_of, name_seen, IsBy, IsExpectable, IsReply, MakesText, NamesSchema, Replies}
use Rattle.smithy_bind.proofs.ReplyLemmas.{refusal_told}
use Rattle.smithy_bind.proofs.WriteLemmas.{writes_listed}

-- ---- a schema that requests are made by

none_if : {A : Type 0} (b : Bool) (x : A) → None ≡ then_some b x → b ≡ false
none_if true x is = absurd cc
none_if false x is = refl

some_if : {A : Type 0} (b : Bool) (x y : A) → Some y ≡ then_some b x → (b ≡ true) × (y ≡ x)
some_if true x y is = (refl, cc)
some_if false x y is = absurd cc

module _ (n : Schema) (ws : Writes) (e : List ℕ) (o : OmitFlags) where
  pub not_taken : None ≡ taken_input n → Gives (rest_json1_sent (job_of n ws e o)) (Err job_error.NoJob)
  unfolding rest_json1_sent
  not_taken is = let not : takes_requests n ≡ false = none_if (takes_requests n) n is in rw not refl

  pub taken_sent : (input : Schema) (r : Result Answer JobError) → Some input ≡ taken_input n → Gives (told (rest_json1_request input ws e o)) r → Gives (rest_json1_sent (job_of n ws e o)) r
  unfolding rest_json1_sent
  taken_sent input r is told_so =
      let taken = some_if (takes_requests n) n input is in
      rw (taken.0, writes_listed ws) (subst (λ s. Gives (told (rest_json1_request s ws e o)) r) taken.1 told_so)

  pub call_sent : (c : Call) (r : Result Answer JobError) → Gives (told (aws_json_request c n ws e o)) r → Gives (aws_json_sent c (job_of n ws e o)) r
  unfolding aws_json_sent
  call_sent c r told_so = rw (writes_listed ws) told_so

-- ---- what a job names

pub named_so : {J : Type 0} (answer : J → Outcome) (o : Option J) (j : J) (r : Result Answer JobError) → Some j ≡ o → Gives (answer j) r → Gives (outcome_of answer o) r
named_so answer o j r is told_so = subst (λ o. Gives (outcome_of answer o) r) is told_so

pub named_none : {J : Type 0} (answer : J → Outcome) (o : Option J) → None ≡ o → Gives (outcome_of answer o) (Err job_error.NoJob)
named_none answer o is = subst (λ o. Gives (outcome_of answer o) (Err job_error.NoJob)) is refl

pub protocol_so : (answer : Data → Outcome) (plain : Outcome) (o : Option Data) (p : Data) (r : Result Answer JobError) → Some p ≡ o → Gives (answer p) r → Gives (option_map_or answer o plain) r
protocol_so answer plain o p r is told_so = subst (λ o. Gives (option_map_or answer o plain) r) is told_so

pub protocol_none : (answer : Data → Outcome) (plain : Outcome) (o : Option Data) (r : Result Answer JobError) → None ≡ o → Gives plain r → Gives (option_map_or answer o plain) r
protocol_none answer plain o r is told_so = subst (λ o. Gives (option_map_or answer o plain) r) is told_so

-- ---- what a response is read by

pub output_for : (table : Table) (place : SchemaIndex) → IsByFor table (Output place) (BySchema place false false)
unfolding aws_target
output_for table place = go
  where
    go : (is : jobs.Expected) → IsExpected table (Output place) is → IsBy table (BySchema place false false) (aws_target is)
    go (jobs.output s) at = (s, at, refl)
    go (jobs.error s) at = absurd at
    go (jobs.coded code errors) at = absurd at

pub error_for : (table : Table) (place : SchemaIndex) → IsByFor table (Error place) (BySchema place true false)
unfolding aws_target
error_for table place = go
  where
    go : (is : jobs.Expected) → IsExpected table (Error place) is → IsBy table (BySchema place true false) (aws_target is)
    go (jobs.output s) at = absurd at
    go (jobs.error s) at = (s, at, refl)
    go (jobs.coded code errors) at = absurd at

found_for : (table : Table) (code : List ℕ) (found : Option Schema) (place : SchemaIndex) → IsFound table found (Some place) → IsBy table (BySchema place true true) (coded_target code found)
found_for table code (Some s) place at = (s, at, refl)
found_for table code None place at = absurd at

pub coded_for : (table : Table) (error : CodedError) (place : SchemaIndex) → FindsCoded table error (Some place) → IsByFor table (Coded error) (BySchema place true true)
unfolding aws_target
coded_for table error place found = go
  where
    go : (is : jobs.Expected) → IsExpected table (Coded error) is → IsBy table (BySchema place true true) (aws_target is)
    go (jobs.output s) at = absurd at
    go (jobs.error s) at = absurd at
    go (jobs.coded code errors) at =
        found_for table code (error_of code errors) place (subst (λ (c : List ℕ). IsFound table (error_of c errors) (Some place)) at.0 (found errors at.1))

none_found : (code : List ℕ) (table : Table) (found : Option Schema) → IsFound table found None → coded_target code found ≡ answers.unknown code
none_found code table (Some s) at = absurd at
none_found code table None at = refl

pub unknown_for : (table : Table) (error : CodedError) → FindsCoded table error None → IsByFor table (Coded error) (Unknown error.code)
unfolding aws_target
unknown_for table error found = go
  where
    go : (is : jobs.Expected) → IsExpected table (Coded error) is → IsBy table (Unknown error.code) (aws_target is)
    go (jobs.output s) at = absurd at
    go (jobs.error s) at = absurd at
    go (jobs.coded code errors) at =
        none_found code table (error_of code errors) (subst (λ (c : List ℕ). IsFound table (error_of c errors) None) at.0 (found errors at.1)) ∙ ap answers.unknown (sym at.0)

-- ---- what is read of it

made_named : (made : Result Document SerdeError) (name : Option (List ℕ)) (reply : Reply) → name_seen reply.error ≡ name → MakesText made (Ok reply.text) → Replies (reply_with name made) (Ok reply)
made_named (Ok d) name reply same is = record { error = same; text = is }
made_named (Err x) name reply same is = absurd is

pub refused_named : (made : Result Document SerdeError) (name : Option (List ℕ)) (e : SerdeError) → MakesText made (Err e) → Replies (reply_with name made) (Err e)
refused_named (Ok d) name e is = is
refused_named (Err x) name e is = is

pub text_named : (made : Result Document SerdeError) (reply : Reply) → MakesText made (Ok reply.text) → Replies (reply_with (name_seen reply.error) made) (Ok reply)
text_named made reply is = made_named made (name_seen reply.error) reply refl is

-- the reply of a text, by the value that it is of
pub value_replied : (value : Option (Result Value SerdeError)) (text : Result (List ℕ) SerdeError) (name : Option (List ℕ)) (made : Result Reply SerdeError)
    → Has value (λ v. MakesText (document_read v) text) → ((d : Result Document SerdeError) → MakesText d text → Replies (reply_with name d) made)
    → Has (option_map (λ v. reply_with name (document_read v)) value) (λ is. Replies is made)
value_replied None text name made has replies = absurd has
value_replied (Some v) text name made has replies = replies (document_read v) has

-- no reply, where there is no value
pub no_value : (value : Option (Result Value SerdeError)) (name : Option (List ℕ)) (x : JobError) (r : Result (Result Reply SerdeError) JobError)
    → r ≡ Err x → ReadsText value (Err x) → ReadsReply (option_map (λ v. reply_with name (document_read v)) value) r
no_value value name job_error.NoJob r is none = rw (is, none) refl
no_value value name job_error.OutOfMemory r is none = rw is tt

module _ (reading : AwsReading) (table : Table) (place : SchemaIndex) (is_error is_coded : Bool) (m : Message) where
  pub schema_refused : (x : JobError) (r : Result (Result Reply SerdeError) JobError) → r ≡ Err x → ReadsByAws reading table place.0 is_error m (Err x)
      → (is : answers.Target) → IsBy table (BySchema place is_error is_coded) is → ReadsReply (aws_reply_by reading (message_seen m) is) r
  schema_refused x r refused reads is (s, at, same) = rw same (no_value (value_read reading s is_error (message_seen m)) (name_of is_coded s) x r refused (reads s at))

  pub schema_replied : (text : Result (List ℕ) SerdeError) (name : Option (Bor (List ℕ))) (made : Result Reply SerdeError)
      → ReadsByAws reading table place.0 is_error m (Ok text) → NamesSchema table place.0 is_coded name → NamesReply text name made
      → (is : answers.Target) → IsBy table (BySchema place is_error is_coded) is → ReadsReply (aws_reply_by reading (message_seen m) is) (Ok made)
  schema_replied text name made reads names replies is (s, at, same) =
      rw same
      (value_replied (value_read reading s is_error (message_seen m)) text (name_of is_coded s) made (reads s at) (λ d makes. subst (λ n. Replies (reply_with n d) made) (names s at) (replies d makes)))

-- by restJson1

module _ (floors is_error : Bool) (s : Schema) (m : Message) where
  abbrev value_of_shape : Shape → Result Value SerdeError
  value_of_shape shape = rest_json1_value (floored_if floors shape) m.response m.policy

  pub no_shape_read : None ≡ taken is_error s → ReadsText (rest_json1_read floors s is_error (message_seen m)) (Err job_error.NoJob)
  no_shape_read is = ap (option_map value_of_shape) (sym is)

  pub shape_read : (shape : Shape) (value : Result StructValue SerdeError) (text : Result (List ℕ) SerdeError) → Some shape ≡ taken is_error s → (read : Shape) → read ≡ floored_if floors shape
      → GivesValue (rest_json1_value read m.response m.policy) value → MakesValueText value text → ReadsText (rest_json1_read floors s is_error (message_seen m)) (Ok text)
  shape_read shape value text is read floored gives makes =
      subst (λ o. Has (option_map value_of_shape o) (λ v. MakesText (document_read v) text)) is
      (makes (value_of_shape shape) (subst (λ sh. GivesValue (rest_json1_value sh m.response m.policy) value) floored gives))

-- ---- what is told of it

pub reply_none : (reply : Option (Result answers.Reply SerdeError)) (x : JobError) (r : Result Answer JobError) → r ≡ Err x → ReadsReply reply (Err x) → Gives (outcome_of told_reply reply) r
reply_none reply job_error.NoJob r is none = rw (is, none) refl
reply_none reply job_error.OutOfMemory r is none = rw is tt

pub reply_so : (reply : Option (Result answers.Reply SerdeError)) (made : Result Reply SerdeError) (r : Result Answer JobError) → ReadsReply reply (Ok made)
    → ((is : Result answers.Reply SerdeError) → Replies is made → Gives (told_reply is) r) → Gives (outcome_of told_reply reply) r
reply_so None made r has told = absurd has
reply_so (Some is) made r has told = told is has

-- the error of a code that a response tells

pub some_coded : (placed : PlacedErrors) (code : Bor (List ℕ)) → StandSomehow placed
    → IsExpectable placed.table (Coded (record { code = code; operation = placed.operation; service = placed.service }))
some_coded placed code (errors, stand) = (jobs.coded code.now errors, (refl, record { operation = stand.operation; service = stand.service }))

module _ (reading : AwsReading) (placed : PlacedErrors) (m : Message) (r : Result Answer JobError) where
  pub error_told : (code : Bor (List ℕ)) → Some code.now ≡ error_code m.response
      → TellsExpected reading (record { table = placed.table; expected = Coded (record { code = code; operation = placed.operation; service = placed.service }) }) m r
      → TellsError reading placed m r
  error_told code is told_so = λ errors stand.
      subst (λ o. Gives (outcome_of told_reply (reply_as reading (message_seen m) (named_error errors o))) r) is
      (told_so (jobs.coded code.now errors) (refl, record { operation = stand.operation; service = stand.service }))

  pub no_error_told : (e : SerdeError) → None ≡ error_code m.response → IsRefusal (InvalidInput (codes "the response names no error")) e → TellsRefusal e r → TellsError reading placed m r
  no_error_told e is refusal told_so = λ errors stand.
      subst (λ o. Gives (outcome_of told_reply (reply_as reading (message_seen m) (named_error errors o))) r) is (refusal_told _ e r refusal told_so)

module _ (reading : AwsReading) (k : Keys) (r : Result Answer JobError) where
  pub message_none : (x : JobError) → r ≡ Err x → Reads message_seen (message k) (Err x) → Gives (outcome_of told_reply (aws_reply reading k)) r
  unfolding aws_reply
  message_none job_error.NoJob is h = rw (is, h) refl
  message_none job_error.OutOfMemory is h = rw is tt

  module _ (m : Message) where
    pub message_so : message k ≡ Some (message_seen m) → Gives (outcome_of told_reply (message_read reading k (message_seen m))) r → Gives (outcome_of told_reply (aws_reply reading k)) r
    unfolding aws_reply
    message_so read told = rw read told

    -- what the job asks
    pub expected_none : is_asked k m.response ≡ true → (x : JobError) → r ≡ Err x → ReadsAs IsExpectedIn (expected_with_floats Decimals k) (Err x) → Gives (outcome_of told_reply (message_read reading k (message_seen m))) r
    unfolding expected_for
    expected_none asked job_error.NoJob is h = rw (is, asked, h) refl
    expected_none asked job_error.OutOfMemory is h = rw is tt

    pub expected_so : is_asked k m.response ≡ true → (stored : ExpectedIn) → Has (expected_with_floats Decimals k) (IsExpectedIn stored) → TellsExpected reading stored m r
        → Gives (outcome_of told_reply (message_read reading k (message_seen m))) r
    unfolding expected_for
    expected_so asked stored has told = rw asked (go (expected_with_floats Decimals k) has)
      where
        go : (o : Option jobs.Expected) → Has o (IsExpectedIn stored) → Gives (outcome_of told_reply (option_and_then (reply_as reading (message_seen m)) (option_map Ok o))) r
        go None has = absurd has
        go (Some is) has = told is has

    -- the error that the response names
    pub errors_none : is_asked k m.response ≡ false → (x : JobError) → r ≡ Err x → PlacesErrors (errors_given_with_floats Decimals k) (Err x) → Gives (outcome_of told_reply (message_read reading k (message_seen m))) r
    unfolding expected_for
    errors_none unasked job_error.NoJob is h = rw (is, unasked, h) refl
    errors_none unasked job_error.OutOfMemory is h = rw is tt

    pub errors_so : is_asked k m.response ≡ false → (placed : PlacedErrors) → ArePlacedAt (errors_given_with_floats Decimals k) placed → TellsError reading placed m r
        → Gives (outcome_of told_reply (message_read reading k (message_seen m))) r
    unfolding expected_for
    errors_so unasked placed stand told = rw unasked (go (errors_given_with_floats Decimals k) stand)
      where
        go : (o : Option Errors) → ArePlacedAt o placed
            → Gives (outcome_of told_reply (option_and_then (reply_as reading (message_seen m)) (option_map (λ errors. named_error errors (error_code m.response)) o))) r
        go None stand = absurd stand
        go (Some errors) stand = told errors stand

pub some_errors : (o : Option Errors) (placed : PlacedErrors) → ArePlacedAt o placed → StandSomehow placed
some_errors None placed stand = absurd stand
some_errors (Some errors) placed stand = (errors, stand)
