-- The job of a request whose input is to be recovered, from its parts.
use Rattle.std.proofs.Common.{◌≡◌, refl, ap, ◌∙◌, ℕ, List, Option, Some, None, option_map, Result, Err}
use Rattle.serde_json.specs.Data.{Data}
use Rattle.smithy_http.specs.Requests.{Request}
use Rattle.smithy_schema.specs.Nodes.{Schema, at_place}
use Rattle.smithy_serde.specs.declared.header_omit_settings.OmitFlags.{OmitFlags}
use Rattle.smithy_model.specs.Models as models
use Rattle.smithy_model.specs.declared.floats.Floats.TheVariants.{Kept}
use Rattle.smithy_model.specs.views.PlacedView.{IsPlacedAt, Places}
use Rattle.smithy_model.specs.declared.error.JobError.{JobError}
use Rattle.smithy_model.specs.declared.error.JobError.TheVariants.{NoJob, OutOfMemory}
use Rattle.smithy_model.specs.declared.table.ModelTable.{ModelTable}
use Rattle.smithy_job.specs.Jobs.{schema}
use Rattle.smithy_job.specs.Recovering.{recovering, recovering_with}
use Rattle.smithy_job.specs.Requests.{request_given}
use Rattle.smithy_job.specs.Settings.{endpoint, omit}
use Rattle.smithy_job.specs.views.RecoveringView.{IsRecovering}
use Rattle.smithy_job.specs.views.Tables.{Has, ReadsAs}
use Rattle.smithy_job.specs.declared.recovering.Recovering.{Recovering}
use Rattle.smithy_job.proofs.ReceivedLemmas.{none-mapped}

module _ (d : Data) (q : Request) (e : List ℕ) (o : OmitFlags) (read : request_given d ≡ Some q) (text : endpoint d ≡ Some e) (flags : omit d ≡ Some o) where
  by_parts : recovering d ≡ recovering_with d q e o
  unfolding recovering
  by_parts = rw (read, text, flags) refl

  pub recovering-so : (stored : Recovering) (placed : ModelTable) → stored.request ≡ q → stored.table ≡ placed.table → stored.index ≡ placed.index → stored.endpoint.now ≡ e → stored.omit ≡ o
      → IsPlacedAt (schema Kept models.input d) placed → Has (recovering d) (IsRecovering stored)
  recovering-so stored placed request table index same left_out h = rw by_parts (go (schema Kept models.input d) h)
    where
      go : (s : Option Schema) → IsPlacedAt s placed → Has (option_map (λ x. record { request = q; schema = x; endpoint = e; omit = o }) s) (IsRecovering stored)
      go None none = absurd none
      go (Some s) some =
          record {
            request = request;
            schema = ap (λ t. at_place t stored.index.0) table ∙ ap (λ i. at_place placed.table i.0) index ∙ ap (λ t. at_place t placed.index.0) some.nodes ∙ some.node;
            endpoint = same;
            omit = left_out;
          }

  -- a model that is refused
  pub recovering-refused : (x : JobError) (r : Result Recovering JobError) → r ≡ Err x → Places (schema Kept models.input d) (Err x) → ReadsAs IsRecovering (recovering d) r
  recovering-refused NoJob r is h = rw (is, by_parts) (none-mapped _ (schema Kept models.input d) h)
  recovering-refused OutOfMemory r is h = rw is tt
