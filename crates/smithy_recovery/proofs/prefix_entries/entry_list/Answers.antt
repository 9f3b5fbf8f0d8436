use Rattle.std.proofs.Common.{◌+◌, ap, ◌∙◌, drop, map}
use Rattle.std.proofs.Math.ListN.{drop_of_length-le}
use Rattle.std.proofs.lemmas.List.{take_rest}
use Rattle.smithy_serde.specs.NormalBody.{entry_writes}
use Rattle.smithy_serde.specs.StoredValues.{label_at, writes_in}
use Rattle.smithy_recovery.specs.views.KeptEntries.{last_entries}
use Rattle.smithy_recovery.specs.views.NameOrder.{text_seen}
use Rattle.smithy_recovery.proofs.EntriesPut.{last_further, entries_all}
use Rattle.smithy_recovery.proofs.prefix_entries.entry_list.Goals as goal

pub loop-i-preserved : goal.loop-i-preserved
loop-i-preserved c =
    let i = c.loop-i.i in
    let es = c.args.entries.now in
    record {
      writes = λ t.
          last_further (label_at t c.args.places.0.0) (label_at t c.args.places.1.0) (writes_in t c.loop-i.writes) (writes_in t c.push_last.new.writes) es _ i _ c.loop-i-test.true (take_rest es (i + 1)) (c.in_ok-push_last.ensures.writes t)
          ∙ c.loop-i.invariant.writes t;
      defined = λ t k v. c.in_ok-push_last.ensures.defined t k v (c.loop-i.invariant.defined t k v);
    }

pub returns-clause-writes : goal.returns-clause-writes
returns-clause-writes c = λ t.
    let k = label_at t c.args.places.0.0 in
    let v = label_at t c.args.places.1.0 in
    let es = c.args.entries.now in
    entries_all k v (writes_in t c.loop-i.writes) (entry_writes k v (last_entries (map text_seen es))) (last_entries (map text_seen (drop c.loop-i.i es)))
    (ap (λ us. last_entries (map text_seen us)) (drop_of_length-le es c.loop-i-test.false)) (c.loop-i.invariant.writes t)
