-- Many inputs of one operation: what their jobs have in common, and the job of each.
use Rattle.std.specs.Prelude.{◌≡◌, ℕ, codes, is_some, Bool, List, Option, Some, option_map, option_and_then}
use Rattle.std.specs.List.{list_all}
use Rattle.serde_json.specs.Data.{Data}
use Rattle.serde_json.specs.Find.{get}
use Rattle.smithy_schema.specs.Nodes.{Schema}
use Rattle.smithy_serde.specs.Values.{Writes, list_of}
use Rattle.smithy_serde.specs.declared.header_omit_settings.OmitFlags.{OmitFlags}
use Rattle.smithy_model.specs.Json.{items_in, provided}
use Rattle.smithy_model.specs.Models as models
use Rattle.smithy_model.specs.declared.floats.Floats.TheVariants.{Kept}
use Rattle.smithy_job.specs.Inputs.{input}
use Rattle.smithy_job.specs.Jobs.{Job, schema}
use Rattle.smithy_job.specs.Settings.{endpoint, omit}

-- the schema of an operation's input, and what a job says beside model and input
pub record Common : Type 0 where
  pub schema : Schema
  pub endpoint : List ℕ
  pub omit : OmitFlags

abbrev pub common_with : Data → List ℕ → OmitFlags → Option Common
common_with job e o = option_map (λ s. record { schema = s; endpoint = e; omit = o }) (schema Kept models.input job)

-- what the jobs of many inputs have in common
unfoldable pub common : Data → Option Common
common job = option_and_then (λ e. option_and_then (common_with job e) (omit job)) (endpoint job)

abbrev pub job_by : Common → Option Writes → Option Job
job_by c ws = option_map (λ ws. record { schema = c.schema; writes = list_of ws; endpoint = c.endpoint; omit = c.omit }) ws

-- the job of one input; none where the value has not the form of an input
unfoldable pub job_for : Common → Data → Option Job
job_for c d = job_by c (input Kept c.schema d)

pub record Many : Type 0 where
  pub common : Common
  pub inputs : List Data

-- the inputs of a job, in order
abbrev pub inputs_given : Data → Option (List Data)
inputs_given job = option_and_then items_in (get (codes "inputs") job)

-- The jobs of many inputs that a JSON value is, whatever the inputs are. None where what they have in common has not the form of
-- a job's.
unfoldable pub many : Data → Option Many
many job = option_and_then (λ c. option_map (λ ds. record { common = c; inputs = ds }) (inputs_given job)) (common job)

-- each of these has the form of an input
abbrev pub are_inputs : Common → List Data → Bool
are_inputs c ds = list_all (λ d. is_some (job_for c d)) ds

abbrev pub if_inputs : Many → Option Many
if_inputs m = provided (are_inputs m.common m.inputs) (Some m)

-- the jobs of many inputs, each of which has the form of one
unfoldable pub whole : Data → Option Many
whole job = option_and_then if_inputs (many job)

-- a job with one of the inputs, and with what the jobs have in common
pub record IsAlone (job item alone : Data) : Type 0 where
  pub model : get (codes "model") alone ≡ get (codes "model") job
  pub operation : get (codes "operation") alone ≡ get (codes "operation") job
  pub endpoint : get (codes "endpoint") alone ≡ get (codes "endpoint") job
  pub omit : get (codes "omit") alone ≡ get (codes "omit") job
  pub input : get (codes "input") alone ≡ Some item
