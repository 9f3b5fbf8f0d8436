-- What is asked by words.
use Rattle.std.proofs.Common.{◌≡◌, ap, sym, ℕ, List, Option, Some}
use Rattle.smithy_document.specs.JsonText.{json_text}
use Rattle.smithy_bind.specs.Commands.{command_of}
use Rattle.smithy_bind.specs.Ends.{Asked, asks, asks_by}
use Rattle.smithy_bind.specs.Outcome.{outcome_by}
use Rattle.smithy_bind.specs.declared.command.Command.{Command}

asked_for : Option Command → Asked
asked_for o = record { command = o; answer = outcome_by o }

-- words that are a command ask for it
pub words_ask : (words : List (List ℕ)) (c : Command) → command_of words ≡ Some c → asks c json_text ≡ asks_by words
unfolding asked_for
words_ask words c is = ap asked_for (sym is)
