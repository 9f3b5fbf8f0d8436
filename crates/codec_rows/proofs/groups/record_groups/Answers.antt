use Rattle.std.proofs.Common.{refl, sym, ap, ◌∙◌}
use denote.Param.Object.{read_made}
use Rattle.smithy_serde.specs.Recording.{open_count}
use Rattle.codec_rows.proofs.groups.record_groups.OwnLists.{own-1, entry-1-1, at-1-1, same-1-1, readsᵐ-seen-1-1}
use Rattle.codec_rows.proofs.groups.record_groups.Goals as goal

-- The recorder is told as a `dyn`: the names behind `OwnLists` are the toolchain's own, for the recorder seen so.
pub returns : goal.returns
returns c =
    let made = read_made own-1 entry-1-1 at-1-1 same-1-1 _ (λ j y. j.1.seen y) _ _ _ c.to-1.given.2 in
    ap open_count (c.to-2-1.given.1 refl) ∙ sym (ap (λ m. m.lists) made) ∙ c.in_ok-tell_groups.ensures ∙ ap (λ m. m.lists) (readsᵐ-seen-1-1 _)
