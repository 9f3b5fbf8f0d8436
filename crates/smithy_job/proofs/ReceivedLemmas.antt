-- The job of a response, from its parts.
use Rattle.std.proofs.Common.{◌≡◌, refl, sym, ap, ◌∙◌, ℕ, ◌+◌, ◌<◌, List, ◌∷◌, [], ◌++◌, length, map, drop, get_or, Option, Some, None, option_map, Result, Ok, Err, Bor}
use Rattle.base64.specs.Engines.{standard}
use Rattle.base64.specs.GeneralPurpose.{decode_of, decoded_of}
use Rattle.base64.specs.declared.decode.DecodeError.{DecodeError}
use Rattle.smithy_json.specs.views.JsonView.{view}
use Rattle.smithy_json.specs.declared.value.JsonValue.{JsonValue}
use Rattle.smithy_types.specs.Results.{each}
use Rattle.smithy_schema.specs.Nodes.{Schema, at_place}
use Rattle.smithy_model.specs.Nodes.{Errors}
use Rattle.smithy_model.specs.views.PlacedView.{IsPlacedAt, ArePlacedAt, Places, PlacesErrors}
use Rattle.smithy_model.specs.Reads.{Reads}
use Rattle.smithy_model.specs.declared.error.JobError.{JobError}
use Rattle.smithy_model.specs.declared.error.JobError.TheVariants.{NoJob, OutOfMemory}
use Rattle.smithy_model.specs.declared.floats.Floats.{Floats}
use Rattle.smithy_model.specs.declared.table.ModelTable.{ModelTable}
use Rattle.smithy_model.specs.declared.table.PlacedErrors.{PlacedErrors}
use Rattle.smithy_model.proofs.Each.{and_rest, each_item}
use Rattle.std.proofs.lemmas.List.{drop_more}
use Rattle.smithy_job.specs.Jobs as jobs
use Rattle.smithy_job.specs.Jobs.{errors_given_with_floats, expected, expected_by_code, expected_with_floats, message, names_given, received_as, received_by}
use Rattle.smithy_job.specs.Keys.{Keys}
use Rattle.smithy_job.specs.Responses.{header_in}
use Rattle.smithy_job.specs.views.Tables.{Has, ReadsAs}
use Rattle.smithy_job.specs.views.ReceivedView.{IsExpected, IsExpectedIn, IsReceived}
use Rattle.smithy_job.specs.declared.received.Expected.TheVariants.{Output, Error, Coded}
use Rattle.smithy_job.specs.declared.received.ExpectedIn.{ExpectedIn}
use Rattle.smithy_job.specs.declared.received.Received.{Received}

-- a text in base64, and one that is none
pub decoded-so : (t bytes : List ℕ) → decode_of standard t ≡ Ok bytes → decoded_of standard t ≡ Some bytes
unfolding decoded_of
decoded-so t bytes e = rw e refl

pub undecoded : (t : List ℕ) (error : DecodeError) → decode_of standard t ≡ Err error → decoded_of standard t ≡ None
unfolding decoded_of
undecoded t error e = rw e refl

-- one more header
module _ (items : List JsonValue) (i : ℕ) (x : JsonValue) (done more : List (List ℕ × List ℕ)) (all : Option (List (List ℕ × List ℕ))) (l : i < length items) (is : x ≡ get_or items i x)
    (h : and_rest done (each header_in (map view (drop i items))) ≡ all) where
  pub headers-more : Has (header_in (view x)) (λ p. more ≡ done ++ p ∷ []) → and_rest more (each header_in (map view (drop (i + 1) items))) ≡ all
  headers-more k = go (header_in (view x)) refl k
    where
      go : (o : Option (List ℕ × List ℕ)) → header_in (view x) ≡ o → Has o (λ p. more ≡ done ++ p ∷ []) → and_rest more (each header_in (map view (drop (i + 1) items))) ≡ all
      go None e none = absurd none
      go (Some p) e some = rw some (sym (each_item view header_in done p items i x l is e) ∙ h)

  headers-none : header_in (view x) ≡ None → all ≡ None
  headers-none e = sym h ∙ rw (drop_more items i x l, ← is, e) refl

  pub headers-refused : (Is : Unit {0} → List ℕ × List ℕ → Type 0) (e : JobError) (r : Result (List (List ℕ × List ℕ)) JobError) → r ≡ Err e → ReadsAs Is (header_in (view x)) (Err e) → Reads (λ hs. hs) all r
  headers-refused Is NoJob r same k = rw same (headers-none k)
  headers-refused Is OutOfMemory r same k = rw same tt

-- the schemas that were placed
pub output-stands : (o : Option Schema) (p : ModelTable) → IsPlacedAt o p → Has (option_map jobs.output o) (IsExpected p.table (Output p.index))
output-stands None p h = absurd h
output-stands (Some s) p h = ap (λ t. at_place t p.index.0) h.nodes ∙ h.node

pub error-stands : (o : Option Schema) (p : ModelTable) → IsPlacedAt o p → Has (option_map jobs.error o) (IsExpected p.table (Error p.index))
error-stands None p h = absurd h
error-stands (Some s) p h = ap (λ t. at_place t p.index.0) h.nodes ∙ h.node

pub errors-stand : (code : Bor (List ℕ)) (o : Option Errors) (p : PlacedErrors) → ArePlacedAt o p
    → Has (option_map (jobs.coded code.now) o) (IsExpected p.table (Coded (record { code = code; operation = p.operation; service = p.service })))
errors-stand code None p h = absurd h
errors-stand code (Some errors) p h = (refl, record { operation = h.operation; service = h.service })

pub none-mapped : {A B : Type 0} (f : A → B) (o : Option A) → o ≡ None → option_map f o ≡ None
none-mapped f o e = rw e refl

pub schema-refused : (f : Schema → jobs.Expected) (o : Option Schema) (e : JobError) (r : Result ExpectedIn JobError) → r ≡ Err e → Places o (Err e) → ReadsAs IsExpectedIn (option_map f o) r
schema-refused f o NoJob r is h = rw is (none-mapped f o h)
schema-refused f o OutOfMemory r is h = rw is tt

pub errors-refused : (f : Errors → jobs.Expected) (o : Option Errors) (e : JobError) (r : Result ExpectedIn JobError) → r ≡ Err e → PlacesErrors o (Err e) → ReadsAs IsExpectedIn (option_map f o) r
errors-refused f o NoJob r is h = rw is (none-mapped f o h)
errors-refused f o OutOfMemory r is h = rw is tt

-- the errors that a response may name, by the names of the service's
pub errors-so : (floats : Floats) (k : Keys) (names : List (List ℕ)) (r : Result PlacedErrors JobError) → names_given k.service_errors ≡ Some names → PlacesErrors (jobs.errors_among floats names k) r → PlacesErrors (errors_given_with_floats floats k) r
unfolding errors_given_with_floats
errors-so floats k names r given h = rw given h

pub errors-ungiven : {A : Type 0} (floats : Floats) (k : Keys) (seen : A → List (List ℕ)) (e : JobError) (r : Result PlacedErrors JobError) → r ≡ Err e → Reads seen (names_given k.service_errors) (Err e) → PlacesErrors (errors_given_with_floats floats k) r
unfolding errors_given_with_floats
errors-ungiven floats k seen NoJob r is h = rw (is, h) refl
errors-ungiven floats k seen OutOfMemory r is h = rw is tt

-- what is expected where no error is named
pub expected-unnamed : (floats : Floats) (k : Keys) (names : List (List ℕ)) → k.error ≡ None → names_given k.service_errors ≡ Some names → (r : Result ExpectedIn JobError) → ReadsAs IsExpectedIn (expected_by_code floats names k) r → ReadsAs IsExpectedIn (expected_with_floats floats k) r
expected-unnamed floats k names none given r h = rw (none, given) h

-- the whole job
module _ (k : Keys) (m : jobs.Message) (a : message k ≡ Some m) where
  by_parts : received_by k ≡ option_map (received_as m) (expected k)
  unfolding received_by
  by_parts = rw a refl

  pub received-so : (stored : Received) → stored.response ≡ m.response → stored.policy ≡ m.policy → Has (expected k) (IsExpected stored.table stored.expected) → Has (received_by k) (IsReceived stored)
  received-so stored e f h = rw by_parts (go (expected k) h)
    where
      go : (o : Option jobs.Expected) → Has o (IsExpected stored.table stored.expected) → Has (option_map (received_as m) o) (IsReceived stored)
      go None none = absurd none
      go (Some x) some = record { response = e; policy = f; expected = some }

  pub received-refused : (e : JobError) (s : Result Received JobError) → s ≡ Err e → ReadsAs IsExpectedIn (expected k) (Err e) → ReadsAs IsReceived (received_by k) s
  received-refused NoJob s is h = rw (is, by_parts) (none-mapped _ (expected k) h)
  received-refused OutOfMemory s is h = rw is tt
