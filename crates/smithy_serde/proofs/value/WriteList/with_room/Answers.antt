use Rattle.smithy_serde.proofs.StoredLemmas.{writes_in-no_items, defined-no_items}
use Rattle.smithy_serde.proofs.value.WriteList.with_room.Goals as goal

pub returns-clause-writes : goal.returns-clause-writes
returns-clause-writes c = λ t. writes_in-no_items t c.in_ok-writes.writes c.in_ok-writes.ensures.items

pub returns-clause-defined : goal.returns-clause-defined
returns-clause-defined c = λ t. defined-no_items t c.in_ok-writes.writes c.in_ok-writes.ensures.items
