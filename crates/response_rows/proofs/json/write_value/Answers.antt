use Rattle.std.proofs.Common.{refl, sym, ap}
use denote.Param.Object.{read_made}
use Rattle.smithy_document.specs.JsonSeen.{json_seen}
use Rattle.smithy_serde.proofs.Calls.{told_same}
use Rattle.response_rows.proofs.json.write_value.OwnLists.{own-2, entry-2-1, at-2-1, same-2-1, readsᵐ-seen-2-1}
use Rattle.response_rows.proofs.json.write_value.Goals as goal

pub returns : goal.returns
returns g c =
    let shown = read_made own-2 entry-2-1 at-2-1 same-2-1 _ (λ j y. j.1.seen y) _ _ _ c.to-1.given.2 in
    told_same c.write_struct.ensures (readsᵐ-seen-2-1 _) shown (sym (ap json_seen (c.to-2-1.given.1 refl)))
