use Rattle.std.proofs.Common.{ap}
use Rattle.smithy_serde.specs.StoredValues.{label_at, value_in, writes_in}
use Rattle.smithy_recovery.proofs.EntriesPut.{two_writes}
use Rattle.smithy_recovery.proofs.map_writes.push_entry.Goals as goal

pub returns-clause-writes : goal.returns-clause-writes
unfolding value_in
returns-clause-writes c = λ t.
    two_writes (label_at t c.args.places.0.0) (label_at t c.args.places.1.0) (writes_in t c.args.writes.now) (writes_in t c.push.new.self) (writes_in t c.push-2.new.self)
    (value_in t c.in_ok-text.field-0) (value_in t c.args.value) c.args.key.now (ap (value_in t) c.in_ok-text.ensures) (c.in_ok-push.ensures.ok t) (c.in_ok-push-2.ensures.ok t)
