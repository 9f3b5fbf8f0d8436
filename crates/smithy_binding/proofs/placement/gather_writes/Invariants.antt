use Rattle.smithy_binding.specs.HeaderNames.{HaveNames}
use Rattle.smithy_binding.specs.views.NamesAtHand.{SeenHaveNames}
use Rattle.smithy_binding.proofs.Common.{schema_of, ◌≡◌, directed_of, listed, writes_in, AreListedDefined, list_of, all_resolved, gather, nothing_yet, no_parts, keep_all, kept_in, IsKeptDefined, gathered_of}
use Rattle.smithy_binding.proofs.placement.gather_writes.Given as goal

abbrev pub invariant-loop-node : goal.invariant-loop-node
invariant-loop-node g l =
    let schema = directed_of l.schema in
    let ws = list_of (writes_in l.table l.writes) in
    let rest = list_of (listed l.table l.node-iterator) in
    record {
      walk : gather l.schema.way schema (gathered_of l.parts) rest ≡ gather l.schema.way schema (nothing_yet schema) ws;
      body : keep_all (kept_in l.table l.parts.body) (all_resolved schema rest) ≡ keep_all no_parts (all_resolved schema ws);
      defined : IsKeptDefined l.table l.parts.body;
      nodes : AreListedDefined l.table l.node-iterator;
      kept : g.N.HeaderNames.keeps l.fn.names l.names;
      serves : g.N.HeaderNames.serves l.names (schema_of l.schema.schema).table;
      seen : SeenHaveNames (g.N.HeaderNames.has l.names) schema (gathered_of l.parts).seen;
      at_hand : (later : g.row.N.Denot) → g.N.HeaderNames.keeps l.names later → HaveNames (g.N.HeaderNames.has later) schema rest → HaveNames (g.N.HeaderNames.has later) schema ws;
    }
