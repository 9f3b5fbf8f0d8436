-- Many inputs of one operation: what their jobs have in common, and the inputs that are read so far.
use Rattle.std.proofs.Common.{◌≡◌, refl, sym, ap, ◌∙◌, codes, ℕ, Bool, true, false, ◌&&◌, is_some, ◌+◌, ◌<◌, ◌≤◌, length, take, get_or, List, [], ◌∷◌, ◌++◌, map, Option, Some, None, IfSome, option_map, option_and_then, unwrap_or, Result, Err}
use Rattle.std.proofs.lemmas.List.{map-append, take_more, take_all}
use Rattle.std.specs.Borrow.{Bor}
use Rattle.std.specs.List.{AllByRecursion, list_all}
use Rattle.serde_json.specs.Data.{Data}
use Rattle.serde_json.specs.Find.{get}
use Rattle.smithy_json.specs.views.JsonView.{view}
use Rattle.smithy_json.specs.declared.value.JsonValue.{JsonValue}
use Rattle.smithy_schema.specs.Nodes.{Table, Schema, at_place}
use Rattle.smithy_serde.specs.StoredValues.{AreDefined}
use Rattle.smithy_serde.specs.Values.{Write, Writes, label_of, list_of}
use Rattle.smithy_serde.specs.declared.header_omit_settings.OmitFlags.{OmitFlags}
use Rattle.smithy_serde.specs.declared.value.WriteList.{WriteList}
use Rattle.smithy_model.specs.Models as models
use Rattle.smithy_model.specs.views.PlacedView.{IsPlacedAt, IsPlaced, Places}
use Rattle.smithy_model.specs.declared.floats.Floats.TheVariants.{Kept}
use Rattle.smithy_model.specs.declared.error.JobError.{JobError}
use Rattle.smithy_model.specs.declared.error.JobError.TheVariants.{NoJob, OutOfMemory}
use Rattle.smithy_job.specs.Common as jobs
use Rattle.smithy_job.specs.Common.{Many, common, common_with, job_by, job_for, inputs_given, are_inputs, if_inputs, many, whole, IsAlone}
use Rattle.smithy_job.specs.Inputs.{input}
use Rattle.smithy_job.specs.Jobs.{Job, job, job_with, job_with_floats, operation_in, in_model, schema, written, written_by}
use Rattle.smithy_job.specs.Settings.{endpoint, omit, omit_given, text_given}
use Rattle.smithy_job.specs.views.CommonView.{input_read, writes_seen, AreInputs, AreReadOver, AreRead, IsCommon, IsWhole, ReadsBehind, TellsInputs, nodes_among}
use Rattle.smithy_job.specs.views.ReadingView.{Names}
use Rattle.smithy_job.specs.views.Tables.{AreWrites, Has, Keeps, ReadsAs, nodes_with}
use Rattle.smithy_job.specs.declared.common.Common.{Common}
use Rattle.smithy_job.specs.declared.common.Inputs.{Inputs}
use Rattle.smithy_job.proofs.ReceivedLemmas.{none-mapped}
use Rattle.smithy_job.proofs.TableLemmas.{keeps-all, keeps-both, model-kept, model-label, nodes_with-both}
use Rattle.smithy_job.proofs.ValueLemmas.{has_node}

-- ---- what the jobs have in common

module _ (d : Data) (text : List ℕ) (flags : OmitFlags) (e : endpoint d ≡ Some text) (o : omit d ≡ Some flags) where
  by_parts : common d ≡ common_with d text flags
  unfolding common
  by_parts = rw (e, o) refl

  pub common-so : (stored : Common) → view stored.job.now ≡ d → stored.endpoint.now ≡ text → stored.omit ≡ flags → IsPlacedAt (schema Kept models.input d) stored.model → Has (common d) (IsCommon stored)
  common-so stored same text_is flags_is h = rw by_parts (go (schema Kept models.input d) refl h)
    where
      go : (s : Option Schema) → schema Kept models.input d ≡ s → IsPlacedAt s stored.model → Has (option_map (λ x. record { schema = x; endpoint = text; omit = flags }) s) (IsCommon stored)
      go None is h = absurd h
      go (Some s) is h = record { model = rw same is; placed = h; endpoint = text_is; omit = flags_is }

  pub common-refused : (x : JobError) (r : Result Common JobError) → r ≡ Err x → Places (schema Kept models.input d) (Err x) → ReadsAs IsCommon (common d) r
  common-refused NoJob r is h = rw (is, by_parts) (none-mapped _ (schema Kept models.input d) h)
  common-refused OutOfMemory r is h = rw is tt

-- ---- inputs over tables that grow

all-more : {X : Type 0} (P : X → Type 0) (xs ys : List X) → AllByRecursion P xs → AllByRecursion P ys → AllByRecursion P (xs ++ ys)
all-more P [] ys h k = k
all-more P (x ∷ xs) ys h k = (h.0, all-more P xs ys h.1 k)

pub inputs-more : (t : Table) (xs ys : List (Option WriteList)) (done more : List (Option (List Write))) → AreInputs t xs done → AreInputs t ys more → AreInputs t (xs ++ ys) (done ++ more)
inputs-more t xs ys done more h k = record {
  writes = map-append (writes_seen t) xs ys ∙ (λ i. h.writes i ++ k.writes i);
  defined = all-more (λ w. IfSome w (AreDefined t)) xs ys h.defined k.defined;
}

-- an input was read
pub reads-one : (t : Table) (old own new : Names) (o : Option Writes) (w : WriteList) → new.items ≡ old.items ++ own.items → Has o (AreWrites (nodes_with (nodes_with t old.items) own.items) w)
    → ReadsBehind t old new (option_map list_of o) (Some w)
reads-one t old own new None w e h = absurd h
reads-one t old own new (Some ws) w e h =
    let nodes : nodes_with (nodes_with t old.items) own.items ≡ nodes_with t new.items = nodes_with-both t old.items own.items ∙ ap (nodes_with t) (sym e) in
    record {
      kept = rw (← nodes) (model-kept (nodes_with t old.items) own.items);
      read = λ u k.
          let kept : Keeps (nodes_with (nodes_with t old.items) own.items) u = rw nodes k in
          record { writes = ap (λ (x : Writes). Some (list_of x) ∷ []) (h.writes u kept); defined = (h.defined u kept, tt) };
    }

-- a value is none
pub reads-none : (t : Table) (names : Names) (o : Option Writes) → o ≡ None → ReadsBehind t names names (option_map list_of o) None
reads-none t names o e = rw e (record { kept = keeps-all (nodes_with t names.items); read = λ u k. record { writes = refl; defined = (tt, tt) } })

-- nothing was read so far
pub reads-start : (t : Table) (names : List (Bor (List ℕ))) → AreReadOver t names [] []
reads-start t names = λ u k. record { writes = refl; defined = tt }

reads-more : (t : Table) (old new : Names) (xs : List (Option WriteList)) (done : List (Option (List Write))) (w : Option WriteList) (is : Option (List Write))
    → AreReadOver t old.items xs done → ReadsBehind t old new is w → AreReadOver t new.items (xs ++ w ∷ []) (done ++ is ∷ [])
reads-more t old new xs done w is h b = λ u k. inputs-more u xs (w ∷ []) done (is ∷ []) (h u (keeps-both _ _ _ b.kept k)) (b.read u k)

module _ (s : Schema) (vs : List JsonValue) (i : ℕ) where
  abbrev so_far : ℕ → List (Option (List Write))
  so_far n = map (input_read s) (map view (take n vs))

  one-more : (v : JsonValue) → i < length vs → v ≡ get_or vs i v → so_far (i + 1) ≡ so_far i ++ input_read s (view v) ∷ []
  one-more v within is =
      ap (λ xs. map (input_read s) (map view xs)) (take_more vs i v within ∙ ap (λ x. take i vs ++ x ∷ []) (sym is))
      ∙ ap (map (input_read s)) (map-append view (take i vs) (v ∷ [])) ∙ map-append (input_read s) (map view (take i vs)) (view v ∷ [])

  -- the next one was read
  pub reads-next : (t : Table) (old new : Names) (xs ys : List (Option WriteList)) (v : JsonValue) (w : Option WriteList) → i < length vs → v ≡ get_or vs i v → ys ≡ xs ++ w ∷ []
      → AreReadOver t old.items xs (so_far i) → ReadsBehind t old new (input_read s (view v)) w → AreReadOver t new.items ys (so_far (i + 1))
  reads-next t old new xs ys v w within is e h b = rw (e, one-more v within is) (reads-more t old new xs (so_far i) w (input_read s (view v)) h b)

  -- all were read
  pub reads-end : (t : Table) (names : List (Bor (List ℕ))) (xs : List (Option WriteList)) → length vs ≤ i → AreReadOver t names xs (so_far i) → AreReadOver t names xs (map (input_read s) (map view vs))
  reads-end t names xs past h = rw (take_all i vs past) at h

-- the schema at the index is that of the jobs
pub common_there : (stored : Common) (is : jobs.Common) → IsCommon stored is → at_place stored.model.table stored.model.index.0 ≡ Some is.schema
common_there stored is common = ap (λ t. at_place t stored.model.index.0) common.placed.nodes ∙ common.placed.node

pub common_schema : (stored : Common) (is : jobs.Common) (s : Schema) → IsCommon stored is → Some s ≡ at_place stored.model.table stored.model.index.0 → s ≡ is.schema
common_schema stored is s common there = ap (λ (o : Option Schema). unwrap_or o s) (there ∙ common_there stored is common)

-- what was read, over the nodes that were made
pub inputs-read : (stored : Common) (is : jobs.Common) (s : Schema) (names : List (Bor (List ℕ))) (inputs : Inputs) (values : List Data)
    → IsCommon stored is → Some s ≡ at_place stored.model.table stored.model.index.0 → AreReadOver stored.model.table names inputs.each.items (map (input_read s) values)
    → nodes_among stored inputs ≡ nodes_with stored.model.table names → AreRead stored is inputs values
inputs-read stored is s names inputs values common there h nodes =
    let at = common_there stored is common in
    let same : s ≡ is.schema = common_schema stored is s common there in
    record {
      inputs = rw same at (h (nodes_among stored inputs) (rw nodes (keeps-all (nodes_with stored.model.table names))));
      node = has_node (nodes_among stored inputs) stored.model.index.0 (label_of is.schema) (rw nodes (model-label stored.model.table names stored.model.index.0 (label_of is.schema) (ap (option_map label_of) at)));
    }

-- ---- whether values are inputs

some_seen : (t : Table) (xs : List (Option WriteList)) → list_all (λ w. is_some w) xs ≡ list_all (λ w. is_some w) (map (writes_seen t) xs)
some_seen t [] = refl
some_seen t (None ∷ xs) = refl
some_seen t (Some w ∷ xs) = some_seen t xs

some_input : (c : jobs.Common) (d : Data) → is_some (input_read c.schema d) ≡ is_some (job_for c d)
unfolding job_for
some_input c d = go (input Kept c.schema d)
  where
    go : (ws : Option Writes) → is_some (option_map list_of ws) ≡ is_some (job_by c ws)
    go None = refl
    go (Some ws) = refl

some_inputs : (c : jobs.Common) (ds : List Data) → list_all (λ w. is_some w) (map (input_read c.schema) ds) ≡ are_inputs c ds
some_inputs c [] = refl
some_inputs c (d ∷ ds) = λ i. some_input c d i && some_inputs c ds i

pub are-some : (stored : Common) (is : jobs.Common) (inputs : Inputs) (values : List Data) → AreRead stored is inputs values → list_all (λ w. is_some w) inputs.each.items ≡ are_inputs is values
are-some stored is inputs values read =
    some_seen (nodes_among stored inputs) inputs.each.items ∙ ap (list_all (λ w. is_some w)) read.inputs.writes ∙ some_inputs is values

module _ (d : Data) (ds : List Data) (given : inputs_given d ≡ Some ds) where
  abbrev whole-with : Option jobs.Common → Option Many
  whole-with o = option_and_then if_inputs (option_and_then (λ c. option_map (λ xs. record { common = c; inputs = xs }) (Some ds)) o)

  whole-by : whole d ≡ whole-with (common d)
  unfolding whole many
  whole-by = rw given refl

  pub whole-so : (stored : Common) → Has (common d) (IsCommon stored) → TellsInputs stored ds true → Has (whole d) (IsWhole stored)
  whole-so stored has told = rw whole-by (go (common d) has)
    where
      go : (o : Option jobs.Common) → Has o (IsCommon stored) → Has (whole-with o) (IsWhole stored)
      go None has = absurd has
      go (Some c) has = rw (← told c has) has

  pub whole-none : (stored : Common) → Has (common d) (IsCommon stored) → TellsInputs stored ds false → whole d ≡ None
  whole-none stored has told = whole-by ∙ go (common d) has
    where
      go : (o : Option jobs.Common) → Has o (IsCommon stored) → whole-with o ≡ None
      go None has = refl
      go (Some c) has = rw (← told c has) refl

  pub whole-refused : (x : JobError) (r : Result Common JobError) → r ≡ Err x → ReadsAs IsCommon (common d) (Err x) → ReadsAs IsWhole (whole d) r
  whole-refused NoJob r is h = rw (is, whole-by, h) refl
  whole-refused OutOfMemory r is h = rw is tt

-- no inputs are there
pub whole-without : (d : Data) → inputs_given d ≡ None → whole d ≡ None
unfolding whole many
whole-without d none = rw none (go (common d))
  where
    go : (o : Option jobs.Common) → option_and_then if_inputs (option_and_then (λ c. option_map (λ xs. record { common = c; inputs = xs }) None) o) ≡ None
    go None = refl
    go (Some c) = refl

-- ---- the job of one input alone

module _ (d item alone : Data) (same : IsAlone d item alone) where
  operation-alone : operation_in alone ≡ operation_in d
  operation-alone = rw (same.model, same.operation) refl

  schema-alone : schema Kept models.input alone ≡ schema Kept models.input d
  unfolding schema
  schema-alone = rw operation-alone refl

  alone_by : (e : Option (List ℕ)) (o : Option OmitFlags) (s : Option Schema)
      → option_and_then (λ e. option_and_then (λ o. option_map (λ w. record { schema = w.schema; writes = w.writes; endpoint = e; omit = o }) (option_and_then (λ s. written_by s (input Kept s item)) s)) o) e
      ≡ option_and_then (λ c. job_by c (input Kept c.schema item)) (option_and_then (λ e. option_and_then (λ o. option_map (λ s. record { schema = s; endpoint = e; omit = o }) s) o) e)
  alone_by None o s = refl
  alone_by (Some e) None s = refl
  alone_by (Some e) (Some o) None = refl
  alone_by (Some e) (Some o) (Some s) = go (input Kept s item)
    where
      go : (ws : Option Writes) → option_map (λ w. record { schema = w.schema; writes = w.writes; endpoint = e; omit = o }) (written_by s ws) ≡ job_by (record { schema = s; endpoint = e; omit = o }) ws
      go None = refl
      go (Some ws) = refl

  -- its writes are those of the item
  written-alone : written Kept models.input (codes "input") alone ≡ option_and_then (λ s. written_by s (input Kept s item)) (schema Kept models.input d)
  unfolding written
  written-alone =
      ap (option_and_then (λ s. written_by s (option_and_then (input Kept s) (get (codes "input") alone)))) schema-alone
      ∙ ap (λ (i : Option Data). option_and_then (λ s. written_by s (option_and_then (input Kept s) i)) (schema Kept models.input d)) same.input

  -- it is what the jobs have in common, with this input
  pub job-alone : job alone ≡ option_and_then (λ c. job_for c item) (common d)
  unfolding job job_with_floats common job_for
  job-alone =
      (λ i. option_and_then (λ e. option_and_then (λ o. option_map (λ w. record { schema = w.schema; writes = w.writes; endpoint = e; omit = o }) (written-alone i)) (omit_given (same.omit i))) (text_given (same.endpoint i)))
      ∙ alone_by (endpoint d) (omit d) (schema Kept models.input d)
