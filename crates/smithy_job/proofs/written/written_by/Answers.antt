use Rattle.std.proofs.Common.{◌∙◌, [], rules, Some, sym, ap, option_and_then}
use Rattle.std.proofs.lemmas.List.{append-nil}
use Rattle.smithy_json.specs.views.JsonView.{view}
use Rattle.smithy_schema.specs.References.{schema_of}
use Rattle.smithy_model.specs.views.ModelView.{asked_view}
use Rattle.smithy_job.specs.Inputs.{input}
use Rattle.smithy_job.specs.Jobs.{schema}
use Rattle.smithy_job.specs.views.Tables.{AreWrites, nodes_with}
use Rattle.smithy_job.specs.views.WrittenView.{IsWritten}
use Rattle.smithy_job.proofs.ValueLemmas.{refuses}
use Rattle.smithy_job.proofs.WrittenLemmas.{placed_schema, schema_there, no_writes, written_read}
use Rattle.smithy_job.proofs.written.written_by.Goals as goal

pub returns-in_default-get : goal.returns-in_default-get
returns-in_default-get c =
    let asked = asked_view c.args.asked in
    let placed = placed_schema (schema c.args.floats asked (view c.args.job.now)) c.args.model c.requires in
    no_writes c.args.floats asked c.args.key.now (view c.args.job.now) placed.0 placed.1 (ap (option_and_then (input c.args.floats placed.0)) (sym c.in_default-get.ensures))

pub returns-in_err-writes : goal.returns-in_err-writes
returns-in_err-writes c =
    let asked = asked_view c.args.asked in
    let placed = placed_schema (schema c.args.floats asked (view c.args.job.now)) c.args.model c.requires in
    let same = schema_there c.args.model placed.0 (schema_of c.in-Some.schema) placed.2 c.in-Some.ensures.node in
    refuses (AreWrites (nodes_with (nodes_with c.args.model.table []) c.read_input.new.names.items)) IsWritten (input c.args.floats (schema_of c.in-Some.schema) (view c.in-Some-get.value.now)) _ c.in_err-writes.field-0.0 c.from_residual.result (search rules)
    (λ none. no_writes c.args.floats asked c.args.key.now (view c.args.job.now) placed.0 placed.1 (ap (option_and_then (input c.args.floats placed.0)) (sym c.in-Some-get.ensures) ∙ ap (λ s. input c.args.floats s (view c.in-Some-get.value.now)) (sym same) ∙ none)) c.in_err-writes.ensures.writes

pub returns : goal.returns
returns c =
    let asked = asked_view c.args.asked in
    let placed = placed_schema (schema c.args.floats asked (view c.args.job.now)) c.args.model c.requires in
    let same = schema_there c.args.model placed.0 (schema_of c.in-Some.schema) placed.2 c.in-Some.ensures.node in
    written_read c.args.floats asked c.args.key.now (view c.args.job.now) placed.0 placed.1 _ c.read_input.new.names.items (view c.in-Some-get.value.now) (rw same at (rw (append-nil c.args.model.table) at c.in_ok-writes.ensures.writes))
    (sym c.in-Some.ensures.node ∙ ap (λ s. Some s) same) (sym c.in-Some-get.ensures) (rw c.as_slice.ensures.value at c.in_ok-further.ensures)
