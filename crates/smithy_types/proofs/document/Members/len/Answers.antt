use Rattle.std.proofs.Common.{length, sym, ap, ◌∙◌}
use Rattle.std.proofs.lemmas.List.{length-map}
use Rattle.smithy_types.specs.declared.document.Members.{out-Members}
use Rattle.smithy_types.specs.views.DocumentView.{pair_view}
use Rattle.smithy_types.proofs.Lookups.{list_of_members_view, members_ordered}
use Rattle.smithy_types.proofs.document.Members.len.Goals as goal

pub returns-clause-value : goal.returns-clause-value
returns-clause-value c =
    c.len.ensures.len ∙ sym (length-map (out-Members c.args.self.now).entries.entries pair_view) ∙ ap length (sym (list_of_members_view c.args.self.now))

pub returns-clause-ordered : goal.returns-clause-ordered
returns-clause-ordered c = members_ordered c.args.self.now c.len.ensures.ordered
