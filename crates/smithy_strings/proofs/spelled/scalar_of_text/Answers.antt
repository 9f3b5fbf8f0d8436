use Rattle.std.proofs.Common.{refl}
use Rattle.smithy_serde.specs.Values.{byte, short, integer, long}
use Rattle.smithy_strings.proofs.SpelledLemmas.{whole_parsed, whole_unparsed}
use Rattle.smithy_strings.proofs.spelled.scalar_of_text.Goals as goal

pub returns-in-Ok : goal.returns-in-Ok
returns-in-Ok c = rw c.in-Byte.is (record { value = whole_parsed byte c.args.text.now _ c.in-Ok.ensures.value.0; of_kind = refl })

pub returns-in-Err : goal.returns-in-Err
returns-in-Err c = rw c.in-Byte.is (record { value = whole_unparsed byte c.args.text.now c.in-Err.ensures.value.0; of_kind = tt })

pub returns-in-Ok-parse : goal.returns-in-Ok-parse
returns-in-Ok-parse c = rw c.in-Short.is (record { value = whole_parsed short c.args.text.now _ c.in-Ok-parse.ensures.value.0; of_kind = refl })

pub returns-in-Err-parse : goal.returns-in-Err-parse
returns-in-Err-parse c = rw c.in-Short.is (record { value = whole_unparsed short c.args.text.now c.in-Err-parse.ensures.value.0; of_kind = tt })

pub returns-in-Ok-parse-2 : goal.returns-in-Ok-parse-2
returns-in-Ok-parse-2 c = rw c.in-Integer.is (record { value = whole_parsed integer c.args.text.now _ c.in-Ok-parse-2.ensures.value.0; of_kind = refl })

pub returns-in-Err-parse-2 : goal.returns-in-Err-parse-2
returns-in-Err-parse-2 c = rw c.in-Integer.is (record { value = whole_unparsed integer c.args.text.now c.in-Err-parse-2.ensures.value.0; of_kind = tt })

pub returns-in-Ok-parse-3 : goal.returns-in-Ok-parse-3
returns-in-Ok-parse-3 c = rw c.in-Long.is (record { value = whole_parsed long c.args.text.now _ c.in-Ok-parse-3.ensures.value.0; of_kind = refl })

pub returns-in-Err-parse-3 : goal.returns-in-Err-parse-3
returns-in-Err-parse-3 c = rw c.in-Long.is (record { value = whole_unparsed long c.args.text.now c.in-Err-parse-3.ensures.value.0; of_kind = tt })
