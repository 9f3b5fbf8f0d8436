-- The writes of a job, from their parts.
use Rattle.std.proofs.Common.{◌≡◌, refl, ap, ◌∙◌, ℕ, List, Option, Some, None, option_map, option_and_then, unwrap_or, Result, Err}
use Rattle.serde_json.specs.Data.{Data}
use Rattle.serde_json.specs.Find.{get}
use Rattle.std.specs.Borrow.{Bor}
use Rattle.smithy_schema.specs.Nodes.{Schema, at_place}
use Rattle.smithy_serde.specs.Values.{Writes, list_of, label_of}
use Rattle.smithy_model.specs.Models.{Asked}
use Rattle.smithy_model.specs.views.PlacedView.{IsPlaced, IsPlacedAt, Places}
use Rattle.smithy_model.specs.declared.error.JobError.{JobError}
use Rattle.smithy_model.specs.declared.error.JobError.TheVariants.{NoJob, OutOfMemory}
use Rattle.smithy_model.specs.declared.floats.Floats.{Floats}
use Rattle.smithy_model.specs.declared.table.ModelTable.{ModelTable}
use Rattle.smithy_job.specs.Inputs.{input}
use Rattle.smithy_job.specs.Jobs.{schema, written, written_by}
use Rattle.smithy_job.specs.views.Tables.{Has, ReadsAs, AreWrites, nodes_with}
use Rattle.smithy_job.specs.views.WrittenView.{IsWritten, nodes_in}
use Rattle.smithy_job.specs.declared.written.Written.{Written as Stored}
use Rattle.smithy_job.proofs.TableLemmas.{keeps-all, model-label}
use Rattle.smithy_job.proofs.ValueLemmas.{has_node}

pub no_schema : (floats : Floats) (asked : Asked) (key : List ℕ) (d : Data) → schema floats asked d ≡ None → written floats asked key d ≡ None
unfolding written
no_schema floats asked key d e = rw e refl

module _ (floats : Floats) (asked : Asked) (key : List ℕ) (d : Data) (s : Schema) (there : schema floats asked d ≡ Some s) where
  by_schema : written floats asked key d ≡ written_by s (option_and_then (input floats s) (get key d))
  unfolding written
  by_schema = rw there refl

  pub no_writes : option_and_then (input floats s) (get key d) ≡ None → written floats asked key d ≡ None
  no_writes e = by_schema ∙ ap (written_by s) e

  written_is : (i : Data) (ws : Writes) → get key d ≡ Some i → input floats s i ≡ Some ws → written floats asked key d ≡ Some (record { schema = s; writes = list_of ws })
  written_is i ws a b = by_schema ∙ ap (written_by s) (ap (option_and_then (input floats s)) a ∙ b)

-- the schema that was placed
pub placed_schema : (o : Option Schema) (placed : ModelTable) → IsPlacedAt o placed → (s : Schema) × (o ≡ Some s) × IsPlaced placed s
placed_schema None placed h = absurd h
placed_schema (Some s) placed h = (s, refl, h)

-- the schema at the index is that one
pub schema_there : (placed : ModelTable) (s here : Schema) → IsPlaced placed s → Some here ≡ at_place placed.table placed.index.0 → here ≡ s
schema_there placed s here h at = ap (λ (o : Option Schema). unwrap_or o s) (at ∙ ap (λ t. at_place t placed.index.0) h.nodes ∙ h.node)

module _ (floats : Floats) (asked : Asked) (key : List ℕ) (d : Data) (s : Schema) (there : schema floats asked d ≡ Some s) (stored : Stored) (names : List (Bor (List ℕ))) (i : Data) where
  by_input : (o : Option Writes) → input floats s i ≡ o → Has o (AreWrites (nodes_with stored.table names) stored.writes) → at_place stored.table stored.index.0 ≡ Some s
      → get key d ≡ Some i → nodes_in stored ≡ nodes_with stored.table names → Has (written floats asked key d) (IsWritten stored)
  by_input None e h at given nodes = absurd h
  by_input (Some ws) e h at given nodes =
      rw (written_is floats asked key d s there i ws given e)
      (record {
        schema = at;
        writes = ap list_of (h.writes (nodes_in stored) (rw nodes (keeps-all (nodes_with stored.table names))));
        node = has_node (nodes_in stored) stored.index.0 (label_of s) (rw nodes (model-label stored.table names stored.index.0 (label_of s) (ap (option_map label_of) at)));
        defined = h.defined (nodes_in stored) (rw nodes (keeps-all (nodes_with stored.table names)));
      })

  pub written_read : Has (input floats s i) (AreWrites (nodes_with stored.table names) stored.writes) → at_place stored.table stored.index.0 ≡ Some s → get key d ≡ Some i
      → nodes_in stored ≡ nodes_with stored.table names → Has (written floats asked key d) (IsWritten stored)
  written_read h at given nodes = by_input (input floats s i) refl h at given nodes

-- a model that is refused
pub written_refused : (floats : Floats) (asked : Asked) (key : List ℕ) (d : Data) (e : JobError) (r : Result Stored JobError) → r ≡ Err e → Places (schema floats asked d) (Err e) → ReadsAs IsWritten (written floats asked key d) r
written_refused floats asked key d NoJob r is h = rw is (no_schema floats asked key d h)
written_refused floats asked key d OutOfMemory r is h = rw is tt
