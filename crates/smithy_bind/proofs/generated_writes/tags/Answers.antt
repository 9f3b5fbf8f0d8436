use Rattle.std.proofs.Common.{refl, ◌∙◌, ap, sym, map, arith}
use Rattle.std.specs.List.{range_with_len}
use Rattle.std.proofs.lemmas.List.FromFn.{map-range_with_len_more}
use Rattle.smithy_serde.specs.Values.{scalar, text, writes_of}
use Rattle.smithy_serde.specs.Told.{appended, one_write}
use Rattle.smithy_serde.specs.StoredValues.{label_at, value_in, IsDefined}
use Rattle.smithy_bind.specs.Generating.{table, tag_write}
use Rattle.smithy_bind.proofs.MoreWrites.{writes_more}
use Rattle.smithy_bind.proofs.generated_writes.tags.Goals as goal

pub loop-place-preserved : goal.loop-place-preserved
unfolding value_in IsDefined
loop-place-preserved c =
    let k = c.loop-place.place in
    let before = map tag_write (range_with_len 0 k) in
    record {
      writes =
          c.in_ok-push.ensures.ok table
          ∙ ap (λ ws. appended ws (one_write (label_at table 1) (scalar (text c.in_ok-tag.field-0)))) c.loop-place.invariant.writes
          ∙ ap (λ t. appended (writes_of before) (one_write (label_at table 1) (scalar (text t)))) c.in_ok-tag.ensures
          ∙ sym (writes_more before (tag_write k))
          ∙ ap writes_of (sym (map-range_with_len_more tag_write 0 k k (omega arith)));
      defined = c.in_ok-push.ensures.ok_defined table c.loop-place.invariant.defined refl tt;
    }
