use Rattle.std.proofs.Common.{ap, ◌∙◌, arith}
use Rattle.std.specs.Option.{option_and_then}
use Rattle.smithy_ids.proofs.NameLemmas.{cuts_at}
use Rattle.smithy_registry.specs.ErrorCodes.{cut_at_semicolon}
use Rattle.smithy_registry.proofs.CodeLemmas.{cut_shown}
use Rattle.smithy_registry.proofs.error_code.parse_query_compatible_header.Goals as goal

pub returns : goal.returns
returns c =
    cut_shown c.in_ok-get.field-0.now c.split_once.result (cuts_at 59 c.in_ok-get.field-0.now c.split_once.result c.split_once.ensures.cases (omega arith))
    ∙ ap (option_and_then cut_at_semicolon) c.in_ok-get.ensures
