use Rattle.std.proofs.Common.{rules, ◌≡◌, ◌+◌, sym, ap, ◌∙◌, map, get_or, Some, SFits, to_z-of_z, w64, pos}
use Rattle.std.proofs.lemmas.List.{drop_more}
use Rattle.std.proofs.Math.ListN.{drop_of_length-le}
use Rattle.std.specs.Prelude.{drop}
use Rattle.smithy_schema.specs.References.{schema_of}
use Rattle.smithy_serde.specs.StoredValues.{value_in, writes_in, IsDefined}
use Rattle.smithy_serde.specs.Values as value
use Rattle.smithy_recovery.proofs.Collected.{placed_node, time_more, whole_made}
use Rattle.smithy_recovery.proofs.values.time_list.Goals as goal

pub loop-seconds-preserved : goal.loop-seconds-preserved
loop-seconds-preserved c =
    let e = schema_of c.args.element in
    let secs = c.args.seconds.now in
    let at = c.loop-seconds.seconds-index in
    let z = get_or secs at (pos 0) in
    let fits : SFits w64 z = search rules in
    let told : value_in e.table c.time_value.result ≡ value.scalar (value.timestamp z) = simp to_z-of_z at (c.time_value.ensures.value e.table) in
    record {
      read = time_more e.table c.own_place-index.result.0 e (writes_in e.table c.loop-seconds.writes) (writes_in e.table c.push.new.self) (value_in e.table c.time_value.result) z (drop at secs) (drop (at + 1) secs)
          c.own_place-index.ensures told (drop_more secs at (pos 0) c.loop-seconds-test.true) (c.in_ok-push.ensures.ok e.table)
          ∙ c.loop-seconds.invariant.read;
      defined = c.in_ok-push.ensures.ok_defined e.table c.loop-seconds.invariant.defined (placed_node e.table c.own_place-index.result.0 e c.own_place-index.ensures) (c.time_value.ensures.defined e.table);
    }

pub returns : goal.returns
unfolding value_in IsDefined
returns c =
    let secs = c.args.seconds.now in
    record {
      value = ap Some (sym (whole_made (schema_of c.args.element) (writes_in (schema_of c.args.element).table c.loop-seconds.writes)
          (map (λ z. value.scalar (value.timestamp z)) (drop c.loop-seconds.seconds-index secs)) (map (λ z. value.scalar (value.timestamp z)) secs)
          (ap (map (λ z. value.scalar (value.timestamp z))) (drop_of_length-le secs c.loop-seconds-test.false)) c.loop-seconds.invariant.read));
      defined = c.loop-seconds.invariant.defined;
    }
