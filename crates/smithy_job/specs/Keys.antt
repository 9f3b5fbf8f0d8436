-- What stands under the keys of a job of a response, of one alone and of one among many.
use Rattle.std.specs.Prelude.{ℕ, codes, List, [], ◌∷◌, Option, Some, None, option_and_then}
use Rattle.std.specs.Option.{option_or}
use Rattle.serde_json.specs.Data.{Data, Members, object, member, no_members}
use Rattle.serde_json.specs.Find.{get}
use Rattle.smithy_model.specs.Json.{items_in}
use Rattle.smithy_model.specs.WrongModels.{shapes_in}

pub record Keys : Type 0 where
  pub model : Option Data
  pub operation : Option Data
  pub response : Option Data
  pub error : Option Data
  pub code : Option Data
  pub service_errors : Option Data
  pub policy : Option Data

-- those of a job
abbrev pub keys_of : Data → Keys
keys_of job = record {
  model = get (codes "model") job;
  operation = get (codes "operation") job;
  response = get (codes "response") job;
  error = get (codes "error") job;
  code = get (codes "code") job;
  service_errors = get (codes "serviceErrors") job;
  policy = get (codes "policy") job;
}

-- what stands under a key of an item, or else of the job
abbrev pub given : List ℕ → Data → Data → Option Data
given key job item = option_or (get key item) (get key job)

-- those of an item of a job, whose model is the job's
abbrev pub keys_among : Data → Data → Keys
keys_among job item = record {
  model = get (codes "model") job;
  operation = given (codes "operation") job item;
  response = given (codes "response") job item;
  error = given (codes "error") job item;
  code = given (codes "code") job item;
  service_errors = given (codes "serviceErrors") job item;
  policy = given (codes "policy") job item;
}

-- a member under a key that has a value, before others
abbrev pub with_key : List ℕ × Option Data → Members → Members
with_key (key, None) ms = ms
with_key (key, Some d) ms = member key d ms

abbrev pub members_with : List (List ℕ × Option Data) → Members
members_with [] = no_members
members_with (p ∷ ps) = with_key p (members_with ps)

-- the keys with their values, in byte order
abbrev pub pairs_of : Keys → List (List ℕ × Option Data)
pairs_of k =
    (codes "code", k.code)
    ∷ (codes "error", k.error)
    ∷ (codes "model", k.model)
    ∷ (codes "operation", k.operation)
    ∷ (codes "policy", k.policy)
    ∷ (codes "response", k.response)
    ∷ (codes "serviceErrors", k.service_errors)
    ∷ []

-- the job of one response among many: that of all, with the keys of its item in it
unfoldable pub alone : Data → Data → Data
alone job item = object (members_with (pairs_of (keys_among job item)))

-- The items of a job, in order, one for each response. None where it has no model with shapes, or no array of them.
unfoldable pub responses_given : Data → Option (List Data)
responses_given job = option_and_then (λ shapes. option_and_then items_in (get (codes "responses") job)) (option_and_then shapes_in (get (codes "model") job))
