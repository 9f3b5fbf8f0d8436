use Rattle.std.proofs.Common.{map, sym, ap, ap₂, ◌∙◌}
use Rattle.smithy_types.specs.Documents.{put_all}
use Rattle.smithy_types.specs.views.DocumentView.{pair_view, members_view}
use Rattle.smithy_types.proofs.Lookups.{list_of_members_view, members_ordered}
use Rattle.smithy_types.proofs.MembersAgain.{again}
use Rattle.smithy_types.proofs.document.+copied.Goals as goal

pub Members::copy-loop-name-init : goal.Members::copy-loop-name-init
Members::copy-loop-name-init t c =
    let all = c.args.self.now in
    ap₂ put_all (ap (map pair_view) (c.into_iter-name-iterator.ensures.into_iter_gives ∙ c.iter-name-items.ensures.rest) ∙ sym (list_of_members_view all)) c.new-found.ensures
    ∙ again (members_view all) (members_ordered all c.iter-name-items.ensures.ordered)
