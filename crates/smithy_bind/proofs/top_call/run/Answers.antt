use Rattle.std.proofs.Common.{◌∙◌, sym, subst}
use Rattle.smithy_bind.specs.Ends.{Asked}
use Rattle.smithy_bind.specs.Runs.{Ran}
use Rattle.smithy_bind.proofs.Asking.{words_ask}
use Rattle.smithy_bind.proofs.top_call.run.Goals as goal

pub returns-in-Some : goal.returns-in-Some
returns-in-Some g c =
    subst (λ (asked : Asked). Ran g.S.Source g.K.Sink asked c.args.source.now c.run_command.new.source c.args.sink.now c.run_command.new.sink c.run_command.result)
    (words_ask c.args.words.now c.in-Some.command (sym c.command_of.ensures ∙ c.in-Some.is)) c.run_command.ensures
