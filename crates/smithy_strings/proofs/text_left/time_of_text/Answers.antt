use Rattle.std.proofs.Common.{refl}
use Rattle.smithy_strings.proofs.ReaderLemmas.{later_time, no_time}
use Rattle.smithy_strings.proofs.text_left.time_of_text.Goals as goal

pub returns-in-Ok-parse : goal.returns-in-Ok-parse
returns-in-Ok-parse c = record { value = later_time _ _ _ _ c.in-Err.ensures c.in-Ok-parse.ensures; of_kind = refl }

pub returns-in-Err-parse : goal.returns-in-Err-parse
returns-in-Err-parse c = record { value = no_time _ _ _ _ c.in-Err.ensures c.in-Err-parse.ensures; of_kind = tt }
