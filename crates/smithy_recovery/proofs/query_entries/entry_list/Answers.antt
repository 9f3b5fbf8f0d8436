use Rattle.std.proofs.Common.{◌∙◌, ap, subst, ◌∷◌, [], string_bytes}
use Rattle.smithy_serde.specs.NormalBody.{entry_writes}
use Rattle.smithy_serde.specs.StoredValues.{label_at, value_in, writes_in}
use Rattle.smithy_serde.specs.Told.{appended}
use Rattle.smithy_recovery.specs.views.KeptQueries.{shown_values, entries_in, AreValuesDefined}
use Rattle.smithy_recovery.proofs.EntriesPut.{entries_further, entries_all}
use Rattle.smithy_recovery.proofs.query_entries.entry_list.Goals as goal

pub loop-key-preserved : goal.loop-key-preserved
loop-key-preserved c =
    let v = c.in-Some.value in
    record {
      writes = λ t.
          entries_further (label_at t c.args.places.0.0) (label_at t c.args.places.1.0) (writes_in t c.loop-key.writes) (writes_in t c.push_entry.new.writes) (string_bytes c.in-Some.key, value_in t v)
          (shown_values t c.loop-key.key-iterator) (shown_values t c.next.new.self) (ap (shown_values t) c.in-Some.ensures.steps)
          (c.in_ok-push_entry.ensures.writes t
          ∙ ap (λ n. appended (writes_in t c.loop-key.writes) (entry_writes (label_at t c.args.places.0.0) (label_at t c.args.places.1.0) ((n, value_in t v) ∷ []))) c.as_str.ensures.value)
          ∙ c.loop-key.invariant.writes t;
      defined = λ t k l all.
          let before = c.loop-key.invariant.defined t k l all in
          let items = subst (AreValuesDefined t) c.in-Some.ensures.steps before.1 in
          (c.in_ok-push_entry.ensures.defined t k l items.0 before.0, items.1);
    }

pub returns-clause-writes : goal.returns-clause-writes
returns-clause-writes c = λ t.
    entries_all (label_at t c.args.places.0.0) (label_at t c.args.places.1.0) (writes_in t c.loop-key.writes)
    (entry_writes (label_at t c.args.places.0.0) (label_at t c.args.places.1.0) (entries_in t c.args.entries)) (shown_values t c.loop-key.key-iterator) (ap (shown_values t) c.in-None.ensures.steps.0)
    (c.loop-key.invariant.writes t)

pub returns-clause-defined : goal.returns-clause-defined
returns-clause-defined c = λ t k l all. (c.loop-key.invariant.defined t k l all).0
