use Rattle.std.proofs.Common.{◌≡◌, ◌∙◌, ◌+◌, ap, sym, length, rules}
use Rattle.smithy_job.specs.views.Tables.{nodes_with}
use Rattle.smithy_job.proofs.TableLemmas.{length-nodes_with, name-kept, name-labelled}
use Rattle.smithy_job.proofs.node.further_index.Goals as goal

pub returns-clause-kept : goal.returns-clause-kept
returns-clause-kept c = name-kept (nodes_with c.args.model.table.now c.args.model.earlier.now) c.args.names.now.items _ c.args.name c.in_ok-push.ensures.items

pub returns-clause-index : goal.returns-clause-index
returns-clause-index c =
    let before : c.in-Some.before ≡ length c.args.model.table.now + length c.args.model.earlier.now = search rules in
    let index : c.in-Some-checked_add.index ≡ c.in-Some.before + length c.args.names.now.items = search rules in
    let nodes = ap (λ n. n + length c.args.names.now.items) (before ∙ sym (length-nodes_with c.args.model.table.now c.args.model.earlier.now)) in
    name-labelled (nodes_with c.args.model.table.now c.args.model.earlier.now) c.args.names.now.items _ c.args.name c.in-Some-checked_add.index c.in_ok-push.ensures.items (index ∙ nodes)
