use Rattle.std.proofs.Common.{map, sym, ap, ◌∙◌}
use Rattle.smithy_types.specs.views.DocumentView.{pair_view}
use Rattle.smithy_types.proofs.Lookups.{list_of_members_view, members_ordered}
use Rattle.smithy_types.proofs.document.Members.iter.Goals as goal

pub returns-clause-pairs : goal.returns-clause-pairs
returns-clause-pairs c = ap (map pair_view) c.iter.ensures.rest ∙ sym (list_of_members_view c.args.self.now)

pub returns-clause-ordered : goal.returns-clause-ordered
returns-clause-ordered c = members_ordered c.args.self.now c.iter.ensures.ordered
