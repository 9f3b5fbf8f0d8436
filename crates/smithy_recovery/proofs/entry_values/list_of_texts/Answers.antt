use Rattle.std.proofs.Common.{◌+◌, sym, ap, ◌∙◌, drop, map, Some}
use Rattle.std.proofs.Math.ListN.{drop_of_length-le}
use Rattle.smithy_schema.specs.References.{schema_of}
use Rattle.smithy_serde.specs.StoredValues.{value_in, writes_in, IsDefined}
use Rattle.smithy_recovery.specs.MapParts.{as_text}
use Rattle.smithy_recovery.proofs.Collected.{placed_node, text_more, whole_made}
use Rattle.smithy_recovery.proofs.EachText.{drop_at}
use Rattle.smithy_recovery.proofs.entry_values.list_of_texts.Goals as goal

pub loop-text-preserved : goal.loop-text-preserved
loop-text-preserved c =
    let e = schema_of c.args.element in
    let at = c.loop-text.text-index in
    let v = c.in_ok-text_value.field-0 in
    record {
      read = text_more e.table c.own_place-index.result.0 e (writes_in e.table c.loop-text.writes) (writes_in e.table c.push.new.self) (value_in e.table v) c.text-item.result (drop at c.args.texts.now) (drop (at + 1) c.args.texts.now)
          c.own_place-index.ensures (c.in_ok-text_value.ensures.value e.table) (drop_at c.args.texts.now at c.text-item.result c.loop-text-test.true c.text-item.is) (c.in_ok-push.ensures.ok e.table)
          ∙ c.loop-text.invariant.read;
      defined = c.in_ok-push.ensures.ok_defined e.table c.loop-text.invariant.defined (placed_node e.table c.own_place-index.result.0 e c.own_place-index.ensures) (c.in_ok-text_value.ensures.defined e.table);
    }

pub returns : goal.returns
unfolding value_in IsDefined
returns c =
    let e = schema_of c.args.element in
    record {
      value = ap Some (sym (whole_made e (writes_in e.table c.loop-text.writes) (map as_text (drop c.loop-text.text-index c.args.texts.now)) (map as_text c.args.texts.now)
          (ap (map as_text) (drop_of_length-le c.args.texts.now c.loop-text-test.false)) c.loop-text.invariant.read));
      defined = c.loop-text.invariant.defined;
    }
