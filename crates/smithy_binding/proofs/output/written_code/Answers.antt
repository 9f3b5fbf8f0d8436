use Rattle.smithy_binding.proofs.Common.{ap, ◌∙◌, option_and_then, status_value, written_code}
use Rattle.smithy_binding.proofs.output.written_code.Goals as goal

pub returns : goal.returns
unfolding written_code
returns c = c.code_if.ensures c.args.table.now ∙ ap (option_and_then status_value) c.code_value.ensures
