use Rattle.std.proofs.Common.{sym, ap, ◌∙◌}
use Rattle.smithy_types.specs.declared.document.Members.{out-Members}
use Rattle.smithy_types.specs.Documents.{put}
use Rattle.smithy_types.specs.views.DocumentView.{view}
use Rattle.smithy_types.proofs.Views.{entries_view, members_rolled, members_out, entries_inserted}
use Rattle.smithy_types.proofs.document.Members.insert.Goals as goal

pub returns-clause-ok : goal.returns-clause-ok
returns-clause-ok c =
    let before = (out-Members c.args.self.now).entries.entries in
    members_rolled c.insert.new.self
    ∙ ap entries_view c.in_ok-insert.ensures.entries
    ∙ entries_inserted c.into_string-name.result c.args.value before
    ∙ ap (λ k. put k (view c.args.value) (entries_view before)) c.into_string-name.ensures
    ∙ ap (put c.args.key (view c.args.value)) (sym (members_out c.args.self.now))
