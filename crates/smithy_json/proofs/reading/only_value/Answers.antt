use Rattle.std.proofs.Common.{sym, ◌∙◌}
use Rattle.smithy_json.specs.views.JsonView.{view}
use Rattle.smithy_json.proofs.ReadingLemmas.{no_tokens}
use Rattle.smithy_json.proofs.reading.only_value.Goals as goal

pub returns-in_err-first : goal.returns-in_err-first
returns-in_err-first c =
    no_tokens _ view c.args.text.now c.from_residual-in_err-first.result c.from_residual-in_err-first.ensures.1 (sym c.in_ok-reader.ensures.ok ∙ c.in_err-first.ensures.1)
