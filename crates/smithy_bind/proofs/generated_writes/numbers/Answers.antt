use Rattle.std.proofs.Common.{refl, ◌∙◌, ap, sym, map, arith}
use Rattle.std.specs.List.{range_with_len}
use Rattle.std.proofs.lemmas.List.FromFn.{map-range_with_len_more}
use Rattle.smithy_serde.specs.Values.{writes_of}
use Rattle.smithy_serde.specs.Told.{appended, one_write}
use Rattle.smithy_serde.specs.StoredValues.{label_at, value_in}
use Rattle.smithy_bind.specs.Generating.{table, number_write}
use Rattle.smithy_bind.proofs.MoreWrites.{writes_more}
use Rattle.smithy_bind.proofs.generated_writes.numbers.Goals as goal

pub loop-place-preserved : goal.loop-place-preserved
loop-place-preserved c =
    let f = number_write c.args.count in
    let k = c.loop-place.place in
    let before = map f (range_with_len 0 k) in
    record {
      writes =
          c.in_ok-push.ensures.ok table
          ∙ ap (λ ws. appended ws (one_write (label_at table 0) (value_in table c.number_value.result))) c.loop-place.invariant.writes
          ∙ ap (λ v. appended (writes_of before) (one_write (label_at table 0) v)) (c.number_value.ensures.value table)
          ∙ sym (writes_more before (f k))
          ∙ ap writes_of (sym (map-range_with_len_more f 0 k k (omega arith)));
      defined = c.in_ok-push.ensures.ok_defined table c.loop-place.invariant.defined refl (c.number_value.ensures.defined table);
    }
