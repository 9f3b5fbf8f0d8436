use Rattle.std.proofs.Common.{rules, refl, sym, ap, ◌∙◌, ℕ, List, length, drop, map}
use Rattle.smithy_http.specs.Facts.{query_pieces}
use Rattle.smithy_recovery.specs.views.Kept.{label_seen}
use Rattle.smithy_recovery.specs.QueryParts.{pieces_named}
use Rattle.smithy_recovery.proofs.MembersAdded.{labelled_kept, memory_labelled}
use Rattle.smithy_recovery.proofs.member_values.labelled_writes.Goals as goal

pub returns : goal.returns
returns g c =
    labelled_kept (g.C.Codec.holds c.args.codec.now) c.args.request.now c.args.schema c.args.last.now (map label_seen c.args.texts.now) _ c.cut_writes.result c.cut_writes.ensures refl (sym c.requires.table) c.in_ok-labels.ensures
    (λ (name : List ℕ). c.in_ok-kept.ensures name ∙ ap (λ t. drop (length (pieces_named name (query_pieces c.args.last.now))) (pieces_named name (query_pieces t))) c.uri.ensures.value) refl

pub returns-in_err-labels : goal.returns-in_err-labels
returns-in_err-labels g c = memory_labelled (g.C.Codec.holds c.args.codec.now) c.args.request.now c.args.schema c.args.last.now (map label_seen c.args.texts.now) c.from_residual.result (search rules)

pub returns-in_err-kept : goal.returns-in_err-kept
returns-in_err-kept g c = memory_labelled (g.C.Codec.holds c.args.codec.now) c.args.request.now c.args.schema c.args.last.now (map label_seen c.args.texts.now) c.from_residual-in_err-kept.result (search rules)
