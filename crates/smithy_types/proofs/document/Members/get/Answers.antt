use Rattle.std.proofs.Common.{sym, ap, ◌∙◌}
use Rattle.std.specs.Map.{lookup}
use Rattle.smithy_types.specs.declared.document.Members.{out-Members}
use Rattle.smithy_types.specs.Documents.{list_of_members}
use Rattle.smithy_types.specs.Texts.{same_text}
use Rattle.smithy_types.proofs.Views.{members_out}
use Rattle.smithy_types.proofs.Lookups.{lookup_seen, lookup-entries_view}
use Rattle.smithy_types.proofs.document.Members.get.Goals as goal

pub returns : goal.returns
returns c =
    lookup_seen c.get.result _ c.get.ensures.value
    ∙ lookup-entries_view c.args.key.now (out-Members c.args.self.now).entries.entries
    ∙ ap (λ ms. lookup (same_text c.args.key.now) (list_of_members ms)) (sym (members_out c.args.self.now))
