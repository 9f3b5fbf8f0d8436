use Rattle.std.proofs.Common.{rules, ◌+◌, sym, ap, ◌∙◌, drop}
use Rattle.std.proofs.Math.ListN.{drop_of_length-le}
use Rattle.smithy_types.specs.Results.{each}
use Rattle.smithy_schema.specs.References.{schema_of}
use Rattle.smithy_serde.specs.StoredValues.{value_in, writes_in, IsDefined}
use Rattle.smithy_recovery.specs.HeaderParts.{text_value, texts_value}
use Rattle.smithy_recovery.proofs.Collected.{placed_node, so_far, one_more, all_made, none_made}
use Rattle.smithy_recovery.proofs.EachText.{each_at, each_none}
use Rattle.smithy_recovery.proofs.Refused.{value_refused}
use Rattle.smithy_recovery.proofs.values.scalar_list.Goals as goal

pub returns-in_err-value : goal.returns-in_err-value
returns-in_err-value c =
    let e = schema_of c.args.element in
    let read = text_value e c.args.place in
    value_refused e.table (read c.as_str.result.now) (texts_value e c.args.place c.args.texts.now) c.in_err-value.field-0.0 c.from_residual.result (search rules)
    (λ none. none_made e (writes_in e.table c.loop-text.writes) (each read c.args.texts.now)
    (ap (so_far e (writes_in e.table c.loop-text.writes)) (sym (each_none read c.args.texts.now c.loop-text.text-index c.text-item.result c.loop-text-test.true c.text-item.is (ap read (sym c.as_str.ensures) ∙ none)))
    ∙ c.loop-text.invariant.read))
    (c.in_err-value.ensures e.table)

pub loop-text-preserved : goal.loop-text-preserved
loop-text-preserved c =
    let e = schema_of c.args.element in
    let read = text_value e c.args.place in
    let told = c.in_ok-value.ensures e.table in
    record {
      read = one_more e.table c.own_place-index.result.0 e (writes_in e.table c.loop-text.writes) (writes_in e.table c.push.new.self) (value_in e.table c.in_ok-value.value) (read c.as_str.result.now)
          (each read (drop (c.loop-text.text-index + 1) c.args.texts.now)) c.own_place-index.ensures told.value (c.in_ok-push.ensures.ok e.table)
          ∙ ap (so_far e (writes_in e.table c.loop-text.writes))
          (sym (each_at read c.args.texts.now c.loop-text.text-index c.text-item.result (read c.as_str.result.now) c.loop-text-test.true c.text-item.is (ap read (sym c.as_str.ensures))))
          ∙ c.loop-text.invariant.read;
      defined = c.in_ok-push.ensures.ok_defined e.table c.loop-text.invariant.defined (placed_node e.table c.own_place-index.result.0 e c.own_place-index.ensures) told.defined;
    }

pub returns : goal.returns
unfolding value_in IsDefined
returns c =
    let e = schema_of c.args.element in
    let read = text_value e c.args.place in
    record {
      value = all_made e (writes_in e.table c.loop-text.writes) (each read c.args.texts.now)
          (ap (λ xs. so_far e (writes_in e.table c.loop-text.writes) (each read xs)) (sym (drop_of_length-le c.args.texts.now c.loop-text-test.false)) ∙ c.loop-text.invariant.read);
      defined = c.loop-text.invariant.defined;
    }
