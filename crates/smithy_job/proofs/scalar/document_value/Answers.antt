use Rattle.smithy_json.specs.views.JsonView.{view}
use Rattle.smithy_job.proofs.ScalarLemmas.{document_is}
use Rattle.smithy_job.proofs.scalar.document_value.Goals as goal

pub returns : goal.returns
returns c = document_is (view c.args.value.now) c.in_ok-document_of.field-0 c.in_ok-document_of.ensures
