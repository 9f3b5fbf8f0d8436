use Rattle.std.proofs.Common.{sym, ap, ◌∙◌, subst}
use Rattle.serde_json.specs.Read.{read}
use Rattle.smithy_json.specs.views.JsonView.{view}
use Rattle.smithy_json.specs.Reads.{Reads}
use Rattle.smithy_json.proofs.OrderedData.{reading_ordered}
use Rattle.smithy_json.proofs.TextDocuments.{text_read, not_read}
use Rattle.smithy_json.proofs.reading.read_json.Goals as goal

pub returns-in-Ok-clause-value : goal.returns-in-Ok-clause-value
returns-in-Ok-clause-value c = subst (λ o. Reads view o c.only_value.result) (ap read c.in-Ok.ensures.cases.0 ∙ sym (text_read c.args.text.now c.in-Ok.ensures.cases.1)) c.only_value.ensures

pub returns-in-Err-clause-value : goal.returns-in-Err-clause-value
returns-in-Err-clause-value c = not_read c.args.text.now c.in-Err.ensures.cases.0

pub returns-in-Ok-clause-ordered : goal.returns-in-Ok-clause-ordered
returns-in-Ok-clause-ordered c = reading_ordered c.in-Ok.text.now c.only_value.result c.only_value.ensures
