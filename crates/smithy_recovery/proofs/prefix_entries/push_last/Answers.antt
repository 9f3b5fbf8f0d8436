use Rattle.std.proofs.Common.{sym, ap, ◌∙◌, subst, map, ◌∷◌, []}
use Rattle.smithy_serde.specs.NormalBody.{entry_writes}
use Rattle.smithy_serde.specs.StoredValues.{label_at, value_in, writes_in, IsDefined}
use Rattle.smithy_serde.specs.Told.{appended}
use Rattle.smithy_recovery.specs.views.NameOrder.{text_seen}
use Rattle.smithy_recovery.proofs.EntriesPut.{again_adds, last_adds}
use Rattle.smithy_recovery.proofs.prefix_entries.push_last.Goals as goal

pub returns-then-is_again-clause-writes : goal.returns-then-is_again-clause-writes
returns-then-is_again-clause-writes c = λ t.
    again_adds (label_at t c.args.places.0.0) (label_at t c.args.places.1.0) (writes_in t c.args.writes.now) (text_seen c.args.entry.now) (map text_seen c.args.behind.now) (sym c.is_again.ensures ∙ c.if-is_again.true)

pub returns-clause-writes : goal.returns-clause-writes
unfolding value_in
returns-clause-writes c = λ t.
    let k = label_at t c.args.places.0.0 in
    let v = label_at t c.args.places.1.0 in
    let e = c.args.entry.now in
    last_adds k v (writes_in t c.args.writes.now) (writes_in t c.push_entry.new.writes) (text_seen e) (map text_seen c.args.behind.now) (sym c.is_again.ensures ∙ c.if-is_again.false)
    (c.in_ok-push_entry.ensures.writes t ∙ ap (λ x. appended (writes_in t c.args.writes.now) (entry_writes k v ((e.name.now, value_in t x) ∷ []))) c.in_ok-value.ensures)

pub returns-clause-defined : goal.returns-clause-defined
unfolding IsDefined
returns-clause-defined c = λ t k v. c.in_ok-push_entry.ensures.defined t k v (subst (IsDefined t) (sym c.in_ok-value.ensures) tt)
