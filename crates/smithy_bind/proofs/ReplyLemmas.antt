-- What a response is read by, and what is read of it.
use Rattle.std.proofs.Common.{◌≡◌, refl, sym, ap, ◌∙◌, subst, codes, append_assoc, inl, inr, ℕ, ◌+◌, ◌<◌, Bool, true, false, List, [], ◌∷◌, ◌++◌, drop, get_or, length, map, Vec, Global, IfOk, IfErr, Option, Some, None, option_map, option_and_then, unwrap_or, Result, Ok, Err}
use Rattle.std.specs.Prelude.{decimal}
use Rattle.std.specs.Result.{result_err}
use Rattle.std.proofs.lemmas.List.{drop_more}
use Rattle.json.specs.Print.{print, print_from, escape_byte, quoted}
use Rattle.json.specs.Written.{Written}
use Rattle.serde_json.specs.Data.{Data}
use Rattle.serde_json.proofs.Texts.{print-outline}
use Rattle.serde_json.specs.Written.{compact_text}
use Rattle.smithy_json.specs.JsonView.{view}
use Rattle.smithy_json.specs.declared.value.JsonValue.{JsonValue}
use Rattle.smithy_types.specs.Documents.{Document}
use Rattle.smithy_schema.specs.Nodes.{Schema, Table, at_place}
use Rattle.smithy_schema.specs.declared.parts.SchemaIndex.{SchemaIndex}
use Rattle.smithy_serde.specs.DocumentOf.{DocumentFault, document_fault, document_fault_text, document_of}
use Rattle.smithy_serde.specs.Finishing.{IsTextOf}
use Rattle.smithy_serde.specs.ReadCalls as calls
use Rattle.smithy_serde.specs.Refusals.{IsRefusal}
use Rattle.smithy_serde.specs.Refusing.{IsFaultRefusal}
use Rattle.smithy_serde.specs.StoredValues.{HasNode}
use Rattle.smithy_serde.specs.ValueReading.{structure_of}
use Rattle.smithy_serde.specs.Values.{Value}
use Rattle.smithy_serde.specs.declared.error.SerdeError.{SerdeError}
use Rattle.smithy_serde.specs.declared.error.SerdeError.TheVariants.{Custom, OutOfMemory}
use Rattle.smithy_serde.specs.declared.struct_value.StructValue.{StructValue}
use Rattle.smithy_document.specs.JsonText.{as_data, json_text}
use Rattle.smithy_document.proofs.PrintLemmas.{IsPrinted}
use Rattle.smithy_binding.specs.CheckedOutput.{checked_output}
use Rattle.smithy_model.specs.Nodes.{Errors}
use Rattle.smithy_model.specs.Reads.{Reads}
use Rattle.smithy_model.specs.declared.error.JobError.{JobError}
use Rattle.smithy_model.specs.declared.error.JobError.TheVariants as job_error
use Rattle.smithy_response.specs.ResponseValue.{value_of_response}
use Rattle.smithy_job.specs.Jobs as jobs
use Rattle.smithy_job.specs.Jobs.{expected, message}
use Rattle.smithy_job.specs.Keys.{Keys, keys_among}
use Rattle.smithy_job.specs.KeysView.{keys_seen, AskAlike}
use Rattle.smithy_job.specs.ReceivedView.{message_seen, IsCoded, IsExpected, IsExpectedIn}
use Rattle.smithy_job.specs.Tables.{Has, ReadsAs}
use Rattle.smithy_job.specs.declared.received.CodedError.{CodedError}
use Rattle.smithy_job.specs.declared.received.Expected.{Expected}
use Rattle.smithy_job.specs.declared.received.Expected.TheVariants.{Output, Error, Coded}
use Rattle.smithy_job.specs.declared.received.ExpectedIn.{ExpectedIn}
use Rattle.smithy_job.specs.declared.received.Message.{Message}
use Rattle.smithy_job.proofs.KeysLemmas.{alike-expected, keys-alone}
use Rattle.smithy_bind.specs.Alone.{RepliesAreAlone}
use Rattle.smithy_bind.specs.Lines.{answer_line, fault_value}
use Rattle.smithy_bind.specs.Replying.{line_of_item, lines_of_items, reply_line}
use Rattle.smithy_bind.specs.Responding as answers
use Rattle.smithy_bind.specs.Responding.{body_held, document_read, error_line, error_of, made_document, read_by, reply_among, reply_by, reply_with, responded_to, shown_document, shown_reply, target_asked, target_found, target_of, told_reply}
use Rattle.smithy_bind.specs.Shown.{refusal_line, refusal_words}
use Rattle.smithy_bind.specs.Told.{Outcome, fault_line, output, outcome_of}
use Rattle.smithy_bind.specs.declared.reply.Reply.{Reply}
use Rattle.smithy_bind.specs.declared.responded.Known.{Known}
use Rattle.smithy_bind.specs.declared.target.By.{By}
use Rattle.smithy_bind.specs.declared.target.By.TheVariants.{Schema as BySchema, Unknown}
use Rattle.smithy_bind.specs.declared.target.Target.{Target}
use Rattle.smithy_bind.specs.declared.told.Answer.{Answer}
use Rattle.smithy_bind.specs.declared.told.Answer.TheVariants.{Output as Told}
use Rattle.smithy_bind.specs.views.AnswerView.{Gives, TellsRefusal}
use Rattle.smithy_bind.specs.views.CodedView.{IsFound}
use Rattle.smithy_bind.specs.views.LineView.{data_tokens, EndsWithLine}
use Rattle.smithy_bind.specs.views.ReplyView.{front_tokens, name_of, name_seen, AreKnown, IsBy, IsExpectable, IsKnown, IsLineBy, IsReply, IsReplyLine, IsSound, IsTarget, IsTargetOf, IsValueLine, Makes, MakesText, ReadsCoded, ReadsExpected, ReadsSchema, Replies, WritesRefused}

-- ---- texts

-- whatever was to be made, there may be no memory
pub memory_makes : {A V : Type 0} (Is : A → V → Type 0) (is : Result V SerdeError) → Makes Is is (Err OutOfMemory)
memory_makes Is (Ok v) = refl
memory_makes Is (Err x) = inr refl

fault_refused : (made : Result Document DocumentFault) (e : SerdeError) → IsFaultRefusal (result_err made) e → MakesText (made_document made) (Err e)
fault_refused (Ok d) (Custom m) is = absurd (cc is)
fault_refused (Ok d) OutOfMemory is = refl
fault_refused (Ok d) _ is = absurd is
fault_refused (Err f) (Custom m) is = let same : document_fault_text f ≡ m = cc is in inl (ap Custom (sym same))
fault_refused (Err f) OutOfMemory is = inr refl
fault_refused (Err f) _ is = absurd is

-- the text of a value's document, or the first rule that it breaks
pub text_made : (v : Value) (r : Result (List ℕ) SerdeError) → IfOk r (IsTextOf json_text v) → IfErr r (IsFaultRefusal (document_fault v)) → MakesText (made_document (document_of v)) r
text_made v (Ok text) ok err = rw ok.1 ok.2
text_made v (Err e) ok err = fault_refused (document_of v) e err

-- what is told of a refusal

pub memory_told : (o : Outcome) (e : SerdeError) (r : Result Answer JobError) → e ≡ OutOfMemory → TellsRefusal e r → Gives o r
memory_told o e r is told = rw (told.memory is) tt

pub refusal_told : (x e : SerdeError) (r : Result Answer JobError) → IsRefusal x e → TellsRefusal e r → Gives (fault_line (refusal_line x)) r
refusal_told x e r (inl same) told = subst (λ y. Gives (fault_line (refusal_line y)) r) same told.line
refusal_told x e r (inr memory) told = memory_told _ e r memory told

pub document_told : (made : Result Document DocumentFault) (text : List ℕ) (line : Vec ℕ Global) → MakesText (made_document made) (Ok text) → line.items ≡ text ++ codes "\n" → Gives (shown_document made) (Ok (Told line))
document_told (Ok d) text line is e = ap output (e ∙ ap (λ t. t ++ codes "\n") is)
document_told (Err f) text line is e = absurd is

pub document_refused : (made : Result Document DocumentFault) (e : SerdeError) (r : Result Answer JobError) → MakesText (made_document made) (Err e) → TellsRefusal e r → Gives (shown_document made) r
document_refused (Ok d) e r is told = memory_told _ e r is told
document_refused (Err f) e r is told = refusal_told _ e r is told

-- what is read of a value
pub value_text : (v : Result Value SerdeError) (value : StructValue) (r : Result (List ℕ) SerdeError) → calls.Gives structure_of (Some v) (Ok value) → MakesText (made_document (document_of (structure_of value))) r → MakesText (document_read v) r
value_text (Ok v) value r is made = subst (λ w. MakesText (made_document (document_of w)) r) is made
value_text (Err x) value r is made = absurd is

pub value_refused : (v : Result Value SerdeError) (e : SerdeError) → calls.Gives structure_of (Some v) (Err e) → MakesText (document_read v) (Err e)
value_refused (Ok v) e is = rw is (memory_makes _ (made_document (document_of v)))
value_refused (Err x) e is = is

-- ---- what a response is read by

pub expectable : (o : Option jobs.Expected) (stored : ExpectedIn) → Has o (IsExpectedIn stored) → IsExpectable stored.table stored.expected
expectable None stored has = absurd has
expectable (Some is) stored has = (is, has)

pub target_unread : (k : Keys) (x : JobError) (r : Result Target JobError) → r ≡ Err x → ReadsAs IsExpectedIn (expected k) (Err x) → ReadsAs IsTarget (target_asked k) r
target_unread k job_error.NoJob r is h = rw (is, h) refl
target_unread k job_error.OutOfMemory r is h = rw is tt

pub target_refused : (o : Option jobs.Expected) (stored : ExpectedIn) (x : JobError) (r : Result Target JobError) → Has o (IsExpectedIn stored) → r ≡ Err x → ReadsExpected stored.table stored.expected (Err x)
    → ReadsAs IsTarget (option_and_then target_of o) r
target_refused None stored x r has is told = absurd has
target_refused (Some e) stored job_error.NoJob r has is told = rw is (told e has)
target_refused (Some e) stored job_error.OutOfMemory r has is told = rw is tt

pub target_so : (o : Option jobs.Expected) (stored : ExpectedIn) (by : By) → Has o (IsExpectedIn stored) → ReadsExpected stored.table stored.expected (Ok by) → Has (option_and_then target_of o) (IsTarget (record { table = stored.table; by = by }))
target_so None stored by has told = absurd has
target_so (Some e) stored by has told = told e has

-- by a schema that a response can be read by, or not

module _ (table : Table) (place : SchemaIndex) (is_error is_coded : Bool) (here : Schema) (there : Some here ≡ at_place table place.0) where
  same_there : (s : Schema) → at_place table place.0 ≡ Some s → here ≡ s
  same_there s at = ap (λ (o : Option Schema). unwrap_or o here) (there ∙ at)

  pub checked_by : checked_output here ≡ true → ReadsSchema table place.0 is_error is_coded (Ok (BySchema place is_error is_coded))
  checked_by is = λ s at. let checked : checked_output s ≡ true = ap checked_output (sym (same_there s at)) ∙ is in rw checked (s, at, refl)

  pub unchecked_by : checked_output here ≡ false → ReadsSchema table place.0 is_error is_coded (Err job_error.NoJob)
  unchecked_by is = λ s at. let checked : checked_output s ≡ false = ap checked_output (sym (same_there s at)) ∙ is in rw checked refl

-- by what is expected

pub output_by : (table : Table) (place : SchemaIndex) (r : Result By JobError) → ReadsSchema table place.0 false false r → ReadsExpected table (Output place) r
unfolding target_of
output_by table place r told = go
  where
    go : (is : jobs.Expected) → IsExpected table (Output place) is → ReadsAs (IsBy table) (target_of is) r
    go (jobs.output s) at = told s at
    go (jobs.error s) at = absurd at
    go (jobs.coded code errors) at = absurd at

pub error_by : (table : Table) (place : SchemaIndex) (r : Result By JobError) → ReadsSchema table place.0 true false r → ReadsExpected table (Error place) r
unfolding target_of
error_by table place r told = go
  where
    go : (is : jobs.Expected) → IsExpected table (Error place) is → ReadsAs (IsBy table) (target_of is) r
    go (jobs.output s) at = absurd at
    go (jobs.error s) at = told s at
    go (jobs.coded code errors) at = absurd at

pub coded_by : (table : Table) (error : CodedError) (r : Result By JobError) → ReadsCoded table error r → ReadsExpected table (Coded error) r
unfolding target_of
coded_by table error r told = go
  where
    go : (is : jobs.Expected) → IsExpected table (Coded error) is → ReadsAs (IsBy table) (target_of is) r
    go (jobs.output s) at = absurd at
    go (jobs.error s) at = absurd at
    go (jobs.coded code errors) at = subst (λ (c : List ℕ). ReadsAs (IsBy table) (target_found c (error_of c errors)) r) at.0 (told errors at.1)

pub output_stands : (table : Table) (place : SchemaIndex) → IsExpectable table (Output place) → HasNode table place.0
output_stands table place (jobs.output s, at) = rw at refl
output_stands table place (jobs.error s, at) = absurd at
output_stands table place (jobs.coded code errors, at) = absurd at

pub error_stands : (table : Table) (place : SchemaIndex) → IsExpectable table (Error place) → HasNode table place.0
error_stands table place (jobs.output s, at) = absurd at
error_stands table place (jobs.error s, at) = rw at refl
error_stands table place (jobs.coded code errors, at) = absurd at

pub coded_stand : (table : Table) (error : CodedError) → IsExpectable table (Coded error) → (errors : Errors) × IsCoded table error errors
coded_stand table error (jobs.output s, at) = absurd at
coded_stand table error (jobs.error s, at) = absurd at
coded_stand table error (jobs.coded code errors, at) = (errors, at.1)

-- by the error that was found for a code, or that there is none

pub found_by : (table : Table) (code : List ℕ) (found : Option Schema) (place : SchemaIndex) (r : Result By JobError) → IsFound table found (Some place) → ReadsSchema table place.0 true true r → ReadsAs (IsBy table) (target_found code found) r
found_by table code (Some s) place r at told = told s at
found_by table code None place r at told = absurd at

pub none_by : (table : Table) (error : CodedError) (found : Option Schema) → IsFound table found None → Has (target_found error.code.now found) (IsBy table (Unknown error.code))
none_by table error (Some s) at = absurd at
none_by table error None at = refl

-- ---- what is read of a response by it

pub by_stands : (table : Table) (place : SchemaIndex) (is_error is_coded : Bool) (is : answers.Target) → IsBy table (BySchema place is_error is_coded) is → HasNode table place.0
by_stands table place is_error is_coded is (s, at, same) = rw at refl

reply_refused : (made : Result Document SerdeError) (name : Option (List ℕ)) (e : SerdeError) → MakesText made (Err e) → Replies (reply_with name made) (Err e)
reply_refused (Ok d) name e is = is
reply_refused (Err x) name e is = is

module _ (table : Table) (place : SchemaIndex) (is_error is_coded : Bool) (m : Message) where
  abbrev read : Schema → Result Document SerdeError
  read s = document_read (value_of_response s m.response (body_held m.response) is_error m.policy)

  pub by_refused : (e : SerdeError) (r : Result Reply SerdeError) → r ≡ Err e → ((s : Schema) → at_place table place.0 ≡ Some s → MakesText (read s) (Err e)) → (is : answers.Target) → IsBy table (BySchema place is_error is_coded) is
      → Replies (reply_by is m.response m.policy) r
  unfolding read_by
  by_refused e r refused made is (s, at, same) = rw (refused, same) (reply_refused (read s) (name_of is_coded s) e (made s at))

-- ---- what is told of it

pub shown_made : (reply : Reply) (text : List ℕ) → text ≡ error_line (name_seen reply.error) ++ (reply.text ++ codes "\n") → (r : answers.Reply) → IsReply reply r → text ≡ shown_reply r
unfolding shown_reply
shown_made reply text is r reads = is ∙ (λ i. error_line (reads.error i) ++ (reads.text i ++ codes "\n"))

pub reply_told : (is : Result answers.Reply SerdeError) (reply : Reply) (text : Vec ℕ Global) → Replies is (Ok reply) → ((r : answers.Reply) → IsReply reply r → text.items ≡ shown_reply r) → Gives (told_reply is) (Ok (Told text))
reply_told (Ok r) reply text is shown = ap output (shown r is)
reply_told (Err x) reply text is shown = absurd is

pub refused_told : (is : Result answers.Reply SerdeError) (e : SerdeError) (r : Result Answer JobError) → Replies is (Err e) → TellsRefusal e r → Gives (told_reply is) r
refused_told (Ok v) e r is told = memory_told _ e r is told
refused_told (Err x) e r is told = refusal_told x e r is told

-- the job of a response

module _ (k : Keys) (r : Result Answer JobError) where
  pub message_none : (x : JobError) → r ≡ Err x → Reads message_seen (message k) (Err x) → Gives (outcome_of told_reply (reply_among k)) r
  unfolding reply_among
  message_none job_error.NoJob is h = rw (is, h) refl
  message_none job_error.OutOfMemory is h = rw is tt

  pub target_none : (m : Message) (x : JobError) → message k ≡ Some (message_seen m) → r ≡ Err x → ReadsAs IsTarget (target_asked k) (Err x) → Gives (outcome_of told_reply (reply_among k)) r
  unfolding reply_among
  target_none m job_error.NoJob read is h = rw (is, read, h) refl
  target_none m job_error.OutOfMemory read is h = rw is tt

  pub reply_so : (m : Message) (stored : Target) → message k ≡ Some (message_seen m) → Has (target_asked k) (IsTarget stored)
      → ((is : answers.Target) → IsTarget stored is → Gives (told_reply (reply_by is m.response m.policy)) r) → Gives (outcome_of told_reply (reply_among k)) r
  unfolding reply_among
  reply_so m stored read has told = rw read (go (target_asked k) has)
    where
      go : (t : Option answers.Target) → Has t (IsTarget stored) → Gives (outcome_of told_reply (option_map (λ t. reply_by t m.response m.policy) t)) r
      go None has = absurd has
      go (Some t) has = told t has

-- some response can be read by what is asked
pub sound_target : (o : Option answers.Target) (stored : Target) → Has o (IsTarget stored) → IsSound stored
sound_target None stored has = absurd has
sound_target (Some is) stored has = (is, has)

-- ---- lines

-- a value and the brackets and the end of its line behind a text
closed : (front text : List ℕ) → front ++ (text ++ codes "}\n") ≡ (front ++ (text ++ codes "}")) ++ codes "\n"
closed front text = ap (λ t. front ++ t) (sym (append_assoc text (codes "}") (codes "\n"))) ∙ sym (append_assoc front (text ++ codes "}") (codes "\n"))

-- the text of a line, by what is written before the value and behind it
value_written : (error : Option (List ℕ)) (d : Document) → print (front_tokens error) ++ (json_text d ++ codes "}\n") ≡ reply_line (Some (Ok (record { error = error; document = d })))
unfolding print_from escape_byte json_text reply_line
value_written None d =
    let value : List ℕ = codes ",\"value\":" in
    let text : List ℕ = compact_text (as_data d) in
    ap (λ t. codes "{\"status\":" ++ t) (closed (decimal 0 ++ value) text ∙ ap (λ t. t ++ codes "\n") (append_assoc (decimal 0) value (text ++ codes "}")))
value_written (Some name) d =
    let value : List ℕ = codes ",\"value\":" in
    let text : List ℕ = compact_text (as_data d) in
    let error : List ℕ = codes ",\"error\":" in
    ap (λ t. codes "{\"status\":" ++ t)
    (closed (decimal 0 ++ (error ++ (quoted name ++ value))) text
    ∙ ap (λ t. t ++ codes "\n")
    (append_assoc (decimal 0) (error ++ (quoted name ++ value)) (text ++ codes "}") ∙ ap (λ t. decimal 0 ++ (error ++ t)) (append_assoc (quoted name) value (text ++ codes "}"))))

-- the line of a value, by the tokens that were written to a new buffer, and what was added behind
pub value_lined : (reply : Reply) (old new : Written) (line : List ℕ) → old.before ≡ [] → old.tokens ≡ [] → IsPrinted (front_tokens (name_seen reply.error)) old new
    → line ≡ ((new.before ++ print new.tokens) ++ reply.text) ++ codes "}\n" → IsValueLine reply line
value_lined reply old new line before tokens printed is = λ r reads.
    is
    ∙ (λ i. (((printed.0 ∙ before) i ++ print ((printed.1 ∙ ap (λ ts. ts ++ front_tokens (name_seen reply.error)) tokens) i)) ++ reply.text) ++ codes "}\n")
    ∙ append_assoc (print (front_tokens (name_seen reply.error))) reply.text (codes "}\n")
    ∙ (λ i. print (front_tokens (reads.error i)) ++ (reads.text i ++ codes "}\n"))
    ∙ value_written r.error r.document

-- that of a refusal
pub refused_lined : (e : SerdeError) (old new : Written) (line : List ℕ) → old.before ≡ [] → old.tokens ≡ [] → IsPrinted (data_tokens (fault_value (refusal_words e))) old new
    → line ≡ (new.before ++ print new.tokens) ++ codes "\n" → line ≡ reply_line (Some (Err e))
unfolding reply_line
refused_lined e old new line before tokens printed is =
    is
    ∙ ap (λ text. text ++ codes "\n")
    ((λ i. (printed.0 ∙ before) i ++ print ((printed.1 ∙ ap (λ ts. ts ++ data_tokens (fault_value (refusal_words e))) tokens) i)) ∙ print-outline (fault_value (refusal_words e)))

-- that where there is no job
pub none_lined : {E : Type 0} (lines : List ℕ) (r : Result (Vec ℕ Global) E) → lines ≡ [] → IfOk r (λ more. EndsWithLine None lines more.items) → IfOk r (λ line. line.items ≡ reply_line None)
unfolding answer_line reply_line
none_lined lines (Ok line) none is = is None tt ∙ ap (λ text. text ++ answer_line None) none
none_lined lines (Err x) none is = tt

-- by what was made
pub line_made : (reply : Reply) (line : List ℕ) → IsValueLine reply line → IsReplyLine (Ok reply) line
line_made reply line h = go
  where
    go : (is : Result answers.Reply SerdeError) → Replies is (Ok reply) → line ≡ reply_line (Some is)
    go (Ok r) reads = h r reads
    go (Err x) reads = absurd reads

pub line_refused : {E : Type 0} (e : SerdeError) (r : Result (Vec ℕ Global) E) → WritesRefused e r → IfOk r (λ line. IsReplyLine (Err e) line.items)
line_refused e (Err x) w = tt
line_refused e (Ok line) w = go
  where
    go : (is : Result answers.Reply SerdeError) → Replies is (Err e) → line.items ≡ reply_line (Some is)
    go (Ok v) memory = absurd (w.memory memory)
    go (Err x) (inl same) = w.line ∙ ap (λ y. reply_line (Some (Err y))) same
    go (Err x) (inr memory) = absurd (w.memory memory)

-- ---- many responses

-- what is known of keys that ask for the same
pub known_alike : (k : Keys) (model : Option Data) (known : Known) → k.model ≡ model → IsKnown model known → AskAlike (keys_seen known.keys) k → IsTargetOf k known.target
known_alike k model known is known_is alike = go known.target known_is.target
  where
    same : target_asked (keys_seen known.keys) ≡ target_asked k
    same = ap (option_and_then target_of) (alike-expected (keys_seen known.keys) k (known_is.model ∙ sym is) alike)

    go : (t : Option Target) → IsTargetOf (keys_seen known.keys) t → IsTargetOf k t
    go (Some t) has = subst (λ (o : Option answers.Target). Has o (IsTarget t)) same has
    go None none = sym same ∙ none

pub known_first : (model : Option Data) (all : List Known) (i : ℕ) (x : Known) → i < length all → x ≡ get_or all i x → AreKnown model (drop i all) → IsKnown model x × AreKnown model (drop (i + 1) all)
known_first model all i x within is h =
    let first : AreKnown model (x ∷ drop (i + 1) all) = subst (AreKnown model) (drop_more all i x within ∙ ap (λ y. y ∷ drop (i + 1) all) (sym is)) h in
    (first.0, first.1)

-- no response is there
pub line_unread : (k : Keys) (line : List ℕ) → message k ≡ None → line ≡ reply_line None → line ≡ reply_line (reply_among k)
unfolding reply_among
line_unread k line none is = rw none is

-- the line of a response that is read by this
pub line_among : (k : Keys) (m : Message) (t : Option Target) (line : Vec ℕ Global) → message k ≡ Some (message_seen m) → IsTargetOf k t → IsLineBy t m line → line.items ≡ reply_line (reply_among k)
unfolding reply_among
line_among k m (Some t) line read has h = rw read (go (target_asked k) has)
  where
    go : (o : Option answers.Target) → Has o (IsTarget t) → line.items ≡ reply_line (option_map (λ t. reply_by t m.response m.policy) o)
    go None has = absurd has
    go (Some is) has = h is has
line_among k m None line read none h = rw (read, none) h

pub made_unread : {E : Type 0} (k : Keys) (r : Result (Vec ℕ Global) E) → message k ≡ None → IfOk r (λ line. line.items ≡ reply_line None) → IfOk r (λ line. line.items ≡ reply_line (reply_among k))
made_unread k (Ok line) none is = line_unread k line.items none is
made_unread k (Err x) none is = tt

pub made_among : {E : Type 0} (k : Keys) (m : Message) (t : Option Target) (r : Result (Vec ℕ Global) E) → message k ≡ Some (message_seen m) → IsTargetOf k t → IfOk r (IsLineBy t m)
    → IfOk r (λ line. line.items ≡ reply_line (reply_among k))
made_among k m t (Ok line) read has h = line_among k m t line read has h
made_among k m t (Err x) read has h = tt

-- one more line
pub lines_more : (job : Data) (items : List JsonValue) (i : ℕ) (x : JsonValue) (old line new all : List ℕ) → i < length items → x ≡ get_or items i x
    → line ≡ reply_line (reply_among (keys_among job (view x))) → new ≡ old ++ line → old ++ lines_of_items job (map view (drop i items)) ≡ all → new ++ lines_of_items job (map view (drop (i + 1) items)) ≡ all
lines_more job items i x old line new all within is told extended h =
    let rest = lines_of_items job (map view (drop (i + 1) items)) in
    ap (λ t. t ++ rest) (extended ∙ ap (λ l. old ++ l) (told ∙ ap (λ k. reply_line (reply_among k)) (sym (keys-alone job (view x)))))
    ∙ append_assoc old (line_of_item job (view x)) rest
    ∙ ap (λ vs. old ++ lines_of_items job (map view vs)) (sym (drop_more items i x within ∙ ap (λ y. y ∷ drop (i + 1) items) (sym is)))
    ∙ h

-- ---- one response alone

-- what `response` answers to a job with the keys of an item is what the line of that item tells
pub each_alone : RepliesAreAlone
unfolding responded_to
each_alone job item other same = ap (λ k. outcome_of told_reply (reply_among k)) (same ∙ sym (keys-alone job item))
